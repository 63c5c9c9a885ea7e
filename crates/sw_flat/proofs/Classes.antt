-- What the entries of a table have for a class.
use Rattle.std.proofs.Common.{◌≡◌, ℕ, Bool, true, false, cond, List, [], ◌∷◌, Option, Some, None, refl, sym, ap, ◌∙◌, ◌↔◌, IsSome}
use mathlib.Core.Bool.{true≢false}
use Rattle.std.specs.Ordering.{nat_cmp, eq_by_cmp}
use Rattle.std.specs.Cmp.Lexicographic.{slice_cmp, nat_list_cmp_total, texts_ties, bytes_decides}
use Rattle.std.specs.FinMap.{empty, insert, get, remove, len, get-empty, get-insert, get-remove, len-empty, empty_of_len, same_map, slice_cmp-IsAntisymmetric, nat_cmp-IsAntisymmetric, IsAntisymmetric}
use Rattle.std.specs.Option.{option_map_or}
use Rattle.sw_table.specs.Entries.{Entries, entries, entries_in}
use Rattle.sw_table.specs.View.{View, entry_at, with_value}
use Rattle.sw_flat.specs.Maps.{stored_key, assigned}

-- whether two classes are the same
abbrev pub same : List ℕ → List ℕ → Bool
same c d = eq_by_cmp (slice_cmp nat_cmp) c d

pub same_is : (c d : List ℕ) → same c d ≡ true → c ≡ d
same_is c d e = (bytes_decides c d).0 (texts_ties c d ∙ e)

pub same_itself : (c d : List ℕ) → c ≡ d → same c d ≡ true
same_itself c d e = sym (texts_ties c d) ∙ (bytes_decides c d).1 e

pub exact : IsAntisymmetric (slice_cmp nat_cmp)
exact = slice_cmp-IsAntisymmetric nat_cmp-IsAntisymmetric

pub none_some : {X : Type 0} (x : X) → None ≡ Some x → ⊥
none_some x e = cc

pub some_is : {X : Type 0} (x y : X) → Some x ≡ Some y → x ≡ y
some_is x y e = cc

module _ {K V : Type 0} where
  -- the entry of a class has a key of that class
  pub class_of_entry : (class : K → List ℕ) (ps : List (Option (K × V))) (q : List ℕ) (p : K × V) → get (entries_in class ps) q ≡ Some p → q ≡ class p.0
  class_of_entry class [] q p e = absurd (none_some p (sym (get-empty _ q) ∙ e))
  class_of_entry class (None ∷ ps) q p e = class_of_entry class ps q p e
  class_of_entry class (Some x ∷ ps) q p e =
      elim (same q (class x.0)) as (λ b. same q (class x.0) ≡ b → cond b (Some x) (get (entries_in class ps) q) ≡ Some p → q ≡ class p.0) [
        | true ↦ λ is f. same_is _ _ is ∙ ap (λ (r : K × V). class r.0) (some_is x p f)
        | false ↦ λ is f. class_of_entry class ps q p f
      ] refl (sym (get-insert nat_list_cmp_total (entries_in class ps) (class x.0) x q) ∙ e)

  -- to remove a class that has no entry changes nothing
  pub remove_absent : (m : Entries K V) (c : List ℕ) → get m c ≡ None → remove m c ≡ m
  remove_absent m c none = same_map nat_list_cmp_total exact _ _ (λ q.
      get-remove nat_list_cmp_total m c q
      ∙ elim (same q c) as (λ b. same q c ≡ b → cond b None (get m q) ≡ get m q) [
        | true ↦ λ is. sym (ap (get m) (same_is q c is) ∙ none)
        | false ↦ λ is. refl
      ] refl)

  pub no_entries : (m : Entries K V) → (len m ≡ 0) ↔ (m ≡ empty)
  no_entries m = (empty_of_len m, λ e. ap len e ∙ len-empty _ _)

module _ {K V H : Type 0} where
  -- what a slot's new value makes of the entries, by the class that was looked up
  pub stored_at : (class : K → List ℕ) (t : View K V H) (i : ℕ) (q : List ℕ) (k : K) (w : V) → get (entries class t) q ≡ entry_at t i → IsSome (entry_at t i)
      → ((p : K × V) (x : V) → entry_at t i ≡ Some p → entries class (with_value t i x) ≡ insert (entries class t) (class p.0) (p.0, x))
      → entries class (with_value t i w) ≡ insert (entries class t) q (stored_key (entries class t) q k, w)
  stored_at class t i q k w found full writes =
      elim (entry_at t i) as (λ o. entry_at t i ≡ o → IsSome o → entries class (with_value t i w) ≡ insert (entries class t) q (stored_key (entries class t) q k, w)) [
        | None ↦ λ e h. absurd (true≢false (sym h))
        | Some p ↦ λ e h. writes p w e ∙ (λ j. insert (entries class t) (sym (class_of_entry class t.places q p (found ∙ e)) j) (sym (ap (λ (o : Option (K × V)). option_map_or (λ (r : K × V). r.0) o k) (found ∙ e)) j, w))
      ] refl full

  pub assigned_at : (class : K → List ℕ) (t : View K V H) (i : ℕ) (q : List ℕ) (w : V) → get (entries class t) q ≡ entry_at t i → IsSome (entry_at t i)
      → ((p : K × V) (x : V) → entry_at t i ≡ Some p → entries class (with_value t i x) ≡ insert (entries class t) (class p.0) (p.0, x))
      → entries class (with_value t i w) ≡ assigned (entries class t) q w
  assigned_at class t i q w found full writes =
      elim (entry_at t i) as (λ o. entry_at t i ≡ o → IsSome o → entries class (with_value t i w) ≡ assigned (entries class t) q w) [
        | None ↦ λ e h. absurd (true≢false (sym h))
        | Some p ↦ λ e h. writes p w e ∙ (λ j. insert (entries class t) (sym (class_of_entry class t.places q p (found ∙ e)) j) (p.0, w))
            ∙ sym (ap (λ (o : Option (K × V)). option_map_or (λ (r : K × V). insert (entries class t) q (r.0, w)) o (entries class t)) (found ∙ e))
      ] refl full
