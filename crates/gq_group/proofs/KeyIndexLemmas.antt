-- An index of keys that are stored in one list of cells, and groups that leave it.
use Rattle.std.proofs.Common.{◌≡◌, ◌+◌, suc, ◌<◌, ◌↔◌, ℕ, Bool, true, false, cond, List, [], ◌∷◌, length, drop, Option, Some, None, refl, sym, ap, ◌∙◌, arith, true≢false}
use Rattle.std.specs.Prelude.{Result, Ok, Err, IsTrue, OnOk, slice_index_or}
use Rattle.std.specs.FinMap.{insert, remove, get, same_map, get-insert, get-remove}
use Rattle.std.specs.Cmp.Lexicographic.{nat_list_cmp_total}
use Rattle.sw_table.specs.Entries.{Entries}
use Rattle.sw_flat.proofs.Classes.{same, same_is, same_itself, some_is, none_some, exact}
use Rattle.gq_row.specs.declared.value.Value.{Value}
use Rattle.gq_row.specs.Classes.{class_of}
use Rattle.gq_row.proofs.ClassLemmas.{told_same}
use Rattle.gq_cells.specs.Keys.{is_same}
use Rattle.gq_agg.specs.Running.{Running}
use Rattle.gq_group.specs.Maps.{pairs_from}

-- what is the same is of the class
pub is_there : (key : List Value) (o : Option (List Value)) (b : Bool) → b ≡ is_same key o → IsTrue b ↔ ((k : List Value) × (o ≡ Some k) × (class_of k ≡ class_of key))
is_there key None b e = (λ t. absurd (true≢false (sym t ∙ e)), λ there. absurd (none_some there.0 there.1))
is_there key (Some k) b e =
    let it = told_same b key k e in
    (λ t. (k, refl, sym (it.0 t)), λ there. it.1 (sym there.2 ∙ ap class_of (sym (some_is k there.0 there.1))))

module _ {K V : Type 0} (m : Entries K V) (c : List ℕ) (p : K × V) where
  -- what was put there
  pub put_there : get (insert m c p) c ≡ Some p
  put_there = get-insert nat_list_cmp_total m c p c ∙ ap (λ b. cond b (Some p) (get m c)) (same_itself c c refl)

  -- and is taken back
  pub taken_back : get m c ≡ None → remove (insert m c p) c ≡ m
  taken_back none = same_map nat_list_cmp_total exact _ _ (λ q. get-remove nat_list_cmp_total (insert m c p) c q ∙ told q (same q c) refl)
    where
      told : (q : List ℕ) (b : Bool) → same q c ≡ b → cond b None (get (insert m c p) q) ≡ get m q
      told q true is = sym (ap (get m) (same_is q c is) ∙ none)
      told q false is = get-insert nat_list_cmp_total m c p q ∙ ap (λ b. cond b (Some p) (get m q)) is

-- as many groups as keys
pub length_left : (each at : ℕ) (running : List Running) (keys : List (List Value)) → length (pairs_from each at running keys) ≡ length keys
length_left each at running [] = refl
length_left each at running (key ∷ keys) = ap (λ n. suc n) (length_left each (at + each) running keys)

-- the first key, and the others
pub first_of : (keys : List (List Value)) → 0 < length keys → keys ≡ slice_index_or keys 0 [] ∷ drop 1 keys
first_of [] some = absurd (omega (arith, some))
first_of (key ∷ keys) some = refl

pub none_left : {X : Type 0} (xs : List X) → length xs ≡ 0 → xs ≡ []
none_left [] none = refl
none_left (x ∷ xs) none = absurd (omega (arith, none))

pub on_ok_both : {T E A H B Q : Type 0} (r : Result T E) → (A → (H → B) → Q) → OnOk r A → (H → OnOk r B) → OnOk r Q
on_ok_both (Ok x) f a b = f a b
on_ok_both (Err e) f a b = tt
