-- Entries that move from one list of places to another.
use Rattle.std.proofs.Common.{◌≡◌, ℕ, zero, suc, ◌+◌, ◌<◌, ◌≤◌, Bool, true, false, cond, not, List, [], ◌∷◌, length, set, get_or, replicate, nat_lt, nat_eq, if◌then◌else◌, Option, Some, None, refl, sym, ap, ◌∙◌, subst, arith, inl, inr, get_or-set_other}
use native.Mathlib.Decide.{dec_lt}
use Rattle.std.specs.Cmp.Lexicographic.{nat_list_cmp_total}
use Rattle.std.specs.FinMap.{same_map, empty}
use Rattle.std.proofs.lemmas.Bool.{ne_eqb, ltb-true}
use Rattle.std.proofs.lemmas.Grind.{get_or-set_at}
use Rattle.std.proofs.lemmas.List.{get_or_past, get_or-replicate, length-replicate}
use Rattle.std.proofs.lemmas.List.Sums.{sum_by-cons}
use Rattle.sw_ctrl.specs.declared.control.TheConstants.{EMPTY}
use Rattle.sw_table.specs.Entries.{entries_in}
use Rattle.sw_table.specs.Free.{used_then}
use Rattle.sw_table.specs.LaidOut.{IsTable, used_count, full_count}
use Rattle.sw_table.specs.Sizes.{IsCapacity}
use Rattle.sw_table.proofs.Entries.{lookup, found, get_entries, lookup_at, lookup_absent, none_absent, same, same_is, Absent, Apart, exact_classes}
use Rattle.sw_ctrl.specs.Bytes.{IsControl}
use Rattle.sw_table.proofs.Places.{which, none_or, some_within}

none_some : {X : Type 0} (x : X) → None ≡ Some x → ⊥
none_some x e = cc

pub never_filled : {X : Type 0} (n i : ℕ) (x : X) → get_or (replicate n None) i None ≡ Some x → ⊥
never_filled {X = X} n i x e = elim (dec_lt i n) [
  | yes lt ↦ none_some x (sym (get_or-replicate n i None None lt) ∙ e)
  | no ge ↦ none_some x (sym (get_or_past (replicate n None) i None (omega (arith, ge, length-replicate n (let none : Option X = None in none)))) ∙ e)
]

module _ {K V : Type 0} (class : K → List ℕ) where
  -- what is in one list is in the other
  abbrev pub Within : List (Option (K × V)) → List (Option (K × V)) → Type 0
  Within ps qs = (i : ℕ) (p : K × V) → get_or ps i None ≡ Some p → (j : ℕ) × (get_or qs j None ≡ Some p)

  lookup_same : (ps qs : List (Option (K × V))) → Apart class qs → Within ps qs → Within qs ps → (q : List ℕ) → lookup class q ps ≡ lookup class q qs
  lookup_same ps qs apart into back q = by_answer (lookup class q ps) refl
    where
      by_answer : (o : Option (K × V)) → lookup class q ps ≡ o → lookup class q ps ≡ lookup class q qs
      by_answer (Some p) e = let it = found class q ps p e in let there = into it.0 p it.1 in
          e ∙ sym (lookup_at class qs there.0 p apart there.1) ∙ ap (λ c. lookup class c qs) (sym (same_is q (class p.0) it.2))
      by_answer None e = e ∙ sym (lookup_absent class q qs (λ j p at. let it = back j p at in none_absent class q ps e it.0 p it.1))

  pub entries_same : (ps qs : List (Option (K × V))) → Apart class qs → Within ps qs → Within qs ps → entries_in class ps ≡ entries_in class qs
  entries_same ps qs apart into back = same_map nat_list_cmp_total exact_classes _ _ (λ q. get_entries class ps q ∙ lookup_same ps qs apart into back q ∙ sym (get_entries class qs q))

  -- the entries of the first n places have moved
  pub record Moved (orig : List (Option (K × V))) (n : ℕ) (to : List (Option (K × V))) : Type 0 where
    pub whence : (j : ℕ) (p : K × V) → get_or to j None ≡ Some p → (k : ℕ) × (k < n) × (get_or orig k None ≡ Some p)
    pub whither : (k : ℕ) (p : K × V) → k < n → get_or orig k None ≡ Some p → (j : ℕ) × (get_or to j None ≡ Some p)

  pub moved_none : (orig : List (Option (K × V))) (n : ℕ) → Moved orig 0 (replicate n None)
  moved_none orig n = record {
    whence = λ j p e. absurd (never_filled n j p e);
    whither = λ k p lt e. absurd (omega (arith, lt));
  }

  pub moved_vacant : (orig to : List (Option (K × V))) (n : ℕ) → get_or orig n None ≡ None → Moved orig n to → Moved orig (n + 1) to
  moved_vacant orig to n none m = record {
    whence = λ j p e. let it = m.whence j p e in (it.0, omega (arith, it.1), it.2);
    whither = λ k p lt e. elim (which k n) [
      | inl here ↦ absurd (none_some p (sym (ap (λ x. get_or orig x None) here ∙ none) ∙ e))
      | inr other ↦ m.whither k p (omega (arith, lt, other)) e
    ];
  }

  pub moved_one : (orig to : List (Option (K × V))) (n at : ℕ) (p : K × V) → get_or orig n None ≡ Some p → at < length to → get_or to at None ≡ None → Moved orig n to → Moved orig (n + 1) (set to at (Some p))
  moved_one orig to n at p is lt free m = record {
    whence = λ j q e. elim (which j at) [
      | inl here ↦ (n, omega arith, is ∙ sym (get_or-set_at to at j (Some p) None here lt) ∙ e)
      | inr other ↦ let it = m.whence j q (sym (get_or-set_other to at j (Some p) None other) ∙ e) in (it.0, omega (arith, it.1), it.2)
    ];
    whither = λ k q less e. elim (which k n) [
      | inl here ↦ (at, get_or-set_at to at at (Some p) None refl lt ∙ sym is ∙ ap (λ x. get_or orig x None) (sym here) ∙ e)
      | inr other ↦ let it = m.whither k q (omega (arith, less, other)) e in
          (it.0, get_or-set_other to at it.0 (Some p) None (λ same. none_some q (sym (ap (λ x. get_or to x None) same ∙ free) ∙ it.1)) ∙ it.1)
    ];
  }

  -- the next entry is of no class that has moved
  pub next_absent : (orig to : List (Option (K × V))) (n : ℕ) (p : K × V) → Apart class orig → get_or orig n None ≡ Some p → Moved orig n to → Absent class (class p.0) to
  next_absent orig to n p apart is m j q e = by_test (same (class p.0) (class q.0)) refl
    where
      by_test : (b : Bool) → same (class p.0) (class q.0) ≡ b → b ≡ false
      by_test true s = let it = m.whence j q e in let k = apart n it.0 p q is it.2 (same_is _ _ s) in absurd (omega (arith, k, it.1))
      by_test false s = refl

  pub moved_all : (orig to : List (Option (K × V))) (n : ℕ) → length orig ≤ n → Apart class orig → Moved orig n to → entries_in class to ≡ entries_in class orig
  moved_all orig to n all apart m = entries_same to orig apart
      (λ j p e. let it = m.whence j p e in (it.0, it.2))
      (λ k p e. m.whither k p (omega (arith, some_within orig k p e, all)) e)

-- counts
pub full-le-used : (bs : List ℕ) → full_count bs ≤ used_count bs
full-le-used [] = omega arith
full-le-used (b ∷ bs) = omega (arith, sum_by-cons (λ x. cond (nat_lt x 128) 1 0) b bs, sum_by-cons (λ x. cond (not (nat_eq x EMPTY)) 1 0) b bs, full-le-used bs, one (nat_lt b 128) refl)
  where
    one : (t : Bool) → nat_lt b 128 ≡ t → cond (nat_lt b 128) 1 0 ≤ cond (not (nat_eq b EMPTY)) 1 0
    one true e = let f = ap {B = ℕ} (λ t. cond (not t) 1 0) (ne_eqb b EMPTY (λ is. omega (arith, ltb-true b 128 e, is))) in let h = ap {B = ℕ} (λ t. cond t 1 0) e in omega (arith, f, h)
    one false e = let h = ap {B = ℕ} (λ t. cond t 1 0) e in omega (arith, h)

pub one_used : (used byte : ℕ) → used_then used byte ≤ used + 1
one_used used byte = by_test (nat_eq byte EMPTY)
  where
    by_test : (b : Bool) → (if b then used + 1 else used) ≤ used + 1
    by_test true = omega arith
    by_test false = omega arith

full_none : (n : ℕ) → full_count (replicate n EMPTY) ≡ 0
full_none zero = refl
full_none (suc n) = sum_by-cons (λ x. cond (nat_lt x 128) 1 0) EMPTY (replicate n EMPTY) ∙ omega (arith, full_none n)

used_none : (n : ℕ) → used_count (replicate n EMPTY) ≡ 0
used_none zero = refl
used_none (suc n) = sum_by-cons (λ x. cond (not (nat_eq x EMPTY)) 1 0) EMPTY (replicate n EMPTY) ∙ omega (arith, used_none n)

pub no_entries : {K V : Type 0} (class : K → List ℕ) (n : ℕ) → entries_in {V = V} class (replicate n None) ≡ empty
no_entries class zero = refl
no_entries class (suc n) = no_entries class n

-- a table of vacant slots
pub IsTable-vacant : {K V : Type 0} (class : K → List ℕ) (hash : List ℕ → ℕ) (n : ℕ) → IsCapacity n → IsTable {V = V} class hash (replicate n None) (replicate n EMPTY) 0 0
IsTable-vacant {K} {V} class hash n size = record {
  laid = record {
    size = (length-replicate n _ ∙ sym (length-replicate n EMPTY), subst IsCapacity (sym (length-replicate n EMPTY)) size);
    control = λ i lt. subst IsControl (sym (get_or-replicate n i EMPTY 0 (omega (arith, lt, length-replicate n EMPTY)))) refl;
    full = λ i lt b. absurd (omega (arith, get_or-replicate n i EMPTY 0 (omega (arith, lt, length-replicate n EMPTY)), b));
    vacant = λ i high. none_or _ (never_filled n i);
    h2 = λ i p e. absurd (never_filled n i p e);
    chain = λ i p e. absurd (never_filled n i p e);
    apart = λ i j p q e f s. absurd (never_filled n i p e);
    load = omega (arith, used_none n);
  };
  full_is = sym (full_none n);
  used_is = sym (used_none n);
}
