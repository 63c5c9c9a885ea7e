-- The entries of a table as a map from classes.
use Rattle.std.proofs.Common.{◌≡◌, ℕ, zero, suc, ◌+◌, ◌<◌, Bool, true, false, cond, List, [], ◌∷◌, length, set, get_or, count_by, Option, Some, None, is_some, refl, sym, ap, ◌∙◌, arith, length-set}
use mathlib.Core.Bool.{true≢false}
use Rattle.std.specs.Ordering.{nat_cmp, eq_by_cmp}
use Rattle.std.specs.Cmp.Lexicographic.{slice_cmp, nat_list_cmp_total, texts_ties, bytes_decides}
use Rattle.std.specs.FinMap.{insert, get, remove, len, get-empty, get-insert, get-remove, len-insert, len-empty, same_map, slice_cmp-IsAntisymmetric, nat_cmp-IsAntisymmetric, IsAntisymmetric}
use Rattle.std.proofs.Math.Nat.{add_comm}
use Rattle.std.proofs.lemmas.Grind.{get_or-set_at}
use Rattle.std.proofs.lemmas.List.Sums.{sum_by-cons}
use Rattle.sw_table.specs.Entries.{entries_in}

abbrev pub same : List ℕ → List ℕ → Bool
same c d = eq_by_cmp (slice_cmp nat_cmp) c d

pub same_is : (c d : List ℕ) → same c d ≡ true → c ≡ d
same_is c d e = (bytes_decides c d).0 (texts_ties c d ∙ e)

pub same_itself : (c d : List ℕ) → c ≡ d → same c d ≡ true
same_itself c d e = sym (texts_ties c d) ∙ (bytes_decides c d).1 e

pub exact_classes : IsAntisymmetric (slice_cmp nat_cmp)
exact_classes = slice_cmp-IsAntisymmetric nat_cmp-IsAntisymmetric

some_is : {X : Type 0} (x y : X) → Some x ≡ Some y → x ≡ y
some_is {X} x y e = ap (λ (o : Option X). or_else o) e
  where
    or_else : Option X → X
    or_else None = x
    or_else (Some z) = z

none_some : {X : Type 0} (x : X) → None ≡ Some x → ⊥
none_some x e = cc

-- two tests that do not both hold may be made in either order
swapped : {A : Type 0} (a b : Bool) (x y z : A) → (a ≡ true → b ≡ true → ⊥) → cond a x (cond b y z) ≡ cond b y (cond a x z)
swapped true true x y z apart = absurd (apart refl refl)
swapped true false x y z apart = refl
swapped false b x y z apart = refl

module _ {K V : Type 0} (class : K → List ℕ) where
  pub lookup : List ℕ → List (Option (K × V)) → Option (K × V)
  lookup q [] = None
  lookup q (None ∷ ps) = lookup q ps
  lookup q (Some p ∷ ps) = cond (same q (class p.0)) (Some p) (lookup q ps)

  pub get_entries : (ps : List (Option (K × V))) (q : List ℕ) → get (entries_in class ps) q ≡ lookup q ps
  unfolding lookup
  get_entries [] q = get-empty _ q
  get_entries (None ∷ ps) q = get_entries ps q
  get_entries (Some p ∷ ps) q = get-insert nat_list_cmp_total (entries_in class ps) (class p.0) p q ∙ ap (cond (same q (class p.0)) (Some p)) (get_entries ps q)

  -- no place holds an entry of the class
  abbrev pub Absent : List ℕ → List (Option (K × V)) → Type 0
  Absent q ps = (i : ℕ) (p : K × V) → get_or ps i None ≡ Some p → same q (class p.0) ≡ false

  abbrev pub Apart : List (Option (K × V)) → Type 0
  Apart ps = (i j : ℕ) (p q : K × V) → get_or ps i None ≡ Some p → get_or ps j None ≡ Some q → class p.0 ≡ class q.0 → i ≡ j

  apart_tail : (o : Option (K × V)) (ps : List (Option (K × V))) → Apart (o ∷ ps) → Apart ps
  apart_tail o ps h i j p q a b e = let f = h (suc i) (suc j) p q a b e in omega (arith, f)

  -- a later entry is of another class
  apart_head : (x : K × V) (ps : List (Option (K × V))) → Apart (Some x ∷ ps) → (i : ℕ) (p : K × V) → get_or ps i None ≡ Some p → class p.0 ≡ class x.0 → ⊥
  apart_head x ps h i p e is = let f = h (suc i) 0 p x e refl is in omega (arith, f)

  pub lookup_absent : (q : List ℕ) (ps : List (Option (K × V))) → Absent q ps → lookup q ps ≡ None
  unfolding lookup
  lookup_absent q [] h = refl
  lookup_absent q (None ∷ ps) h = lookup_absent q ps (λ i p e. h (suc i) p e)
  lookup_absent q (Some x ∷ ps) h = ap (λ b. cond b (Some x) (lookup q ps)) (h 0 x refl) ∙ lookup_absent q ps (λ i p e. h (suc i) p e)

  pub lookup_at : (ps : List (Option (K × V))) (i : ℕ) (p : K × V) → Apart ps → get_or ps i None ≡ Some p → lookup (class p.0) ps ≡ Some p
  unfolding lookup
  lookup_at [] i p h e = absurd (none_some p e)
  lookup_at (None ∷ ps) zero p h e = absurd (none_some p e)
  lookup_at (None ∷ ps) (suc i) p h e = lookup_at ps i p (apart_tail None ps h) e
  lookup_at (Some x ∷ ps) zero p h e = let f = some_is x p e in ap (λ b. cond b (Some x) (lookup (class p.0) ps)) (same_itself (class p.0) (class x.0) (ap (λ (r : K × V). class r.0) (sym f))) ∙ e
  lookup_at (Some x ∷ ps) (suc i) p h e =
      elim (same (class p.0) (class x.0)) as (λ b. same (class p.0) (class x.0) ≡ b → cond b (Some x) (lookup (class p.0) ps) ≡ Some p) [
        | true ↦ λ is. absurd (apart_head x ps h i p e (same_is _ _ is))
        | false ↦ λ is. lookup_at ps i p (apart_tail (Some x) ps h) e
      ] refl

  behind : (q : List ℕ) (x : K × V) (ps : List (Option (K × V))) → same q (class x.0) ≡ false → Absent q ps → Absent q (Some x ∷ ps)
  behind q x ps is h zero p e = ap (λ (r : K × V). same q (class r.0)) (sym (some_is x p e)) ∙ is
  behind q x ps is h (suc i) p e = h i p e

  pub none_absent : (q : List ℕ) (ps : List (Option (K × V))) → lookup q ps ≡ None → Absent q ps
  unfolding lookup
  none_absent q [] h i p e = absurd (none_some p e)
  none_absent q (None ∷ ps) h zero p e = absurd (none_some p e)
  none_absent q (None ∷ ps) h (suc i) p e = none_absent q ps h i p e
  none_absent q (Some x ∷ ps) h i p e =
      elim (same q (class x.0)) as (λ b. same q (class x.0) ≡ b → cond b (Some x) (lookup q ps) ≡ None → same q (class p.0) ≡ false) [
        | true ↦ λ is n. absurd (none_some x (sym n))
        | false ↦ λ is n. behind q x ps is (none_absent q ps n) i p e
      ] refl h

  pub found : (q : List ℕ) (ps : List (Option (K × V))) (p : K × V) → lookup q ps ≡ Some p → (i : ℕ) × (get_or ps i None ≡ Some p) × (same q (class p.0) ≡ true)
  unfolding lookup
  found q [] p e = absurd (none_some p e)
  found q (None ∷ ps) p e = let it = found q ps p e in (suc it.0, it.1, it.2)
  found q (Some x ∷ ps) p e =
      elim (same q (class x.0)) as (λ b. same q (class x.0) ≡ b → cond b (Some x) (lookup q ps) ≡ Some p → (i : ℕ) × (get_or (Some x ∷ ps) i None ≡ Some p) × (same q (class p.0) ≡ true)) [
        | true ↦ λ is f. (0, f, ap (λ (r : K × V). same q (class r.0)) (sym (some_is x p f)) ∙ is)
        | false ↦ λ is f. let it = found q ps p f in (suc it.0, it.1, it.2)
      ] refl e

  pub lookup_put : (q : List ℕ) (ps : List (Option (K × V))) (i : ℕ) (p : K × V) → i < length ps → get_or ps i None ≡ None → Absent (class p.0) ps
      → lookup q (set ps i (Some p)) ≡ cond (same q (class p.0)) (Some p) (lookup q ps)
  unfolding lookup
  lookup_put q [] i p lt e h = absurd (omega (arith, lt))
  lookup_put q (None ∷ ps) zero p lt e h = refl
  lookup_put q (Some x ∷ ps) zero p lt e h = absurd (none_some x (sym e))
  lookup_put q (None ∷ ps) (suc i) p lt e h = lookup_put q ps i p (omega (arith, lt)) e (λ j r f. h (suc j) r f)
  lookup_put q (Some x ∷ ps) (suc i) p lt e h =
      ap (cond (same q (class x.0)) (Some x)) (lookup_put q ps i p (omega (arith, lt)) e (λ j r f. h (suc j) r f))
      ∙ swapped (same q (class x.0)) (same q (class p.0)) (Some x) (Some p) (lookup q ps)
      (λ a b. true≢false (sym (same_itself (class p.0) (class x.0) (sym (same_is q _ b) ∙ same_is q _ a)) ∙ h 0 x refl))

  pub lookup_take : (q : List ℕ) (ps : List (Option (K × V))) (i : ℕ) (p : K × V) → Apart ps → get_or ps i None ≡ Some p
      → lookup q (set ps i None) ≡ cond (same q (class p.0)) None (lookup q ps)
  unfolding lookup
  lookup_take q [] i p h e = absurd (none_some p e)
  lookup_take q (None ∷ ps) zero p h e = absurd (none_some p e)
  lookup_take q (None ∷ ps) (suc i) p h e = lookup_take q ps i p (apart_tail None ps h) e
  lookup_take q (Some x ∷ ps) zero p h e =
      elim (same q (class x.0)) as (λ b. same q (class x.0) ≡ b → lookup q ps ≡ cond b None (cond b (Some x) (lookup q ps))) [
        | true ↦ λ is. lookup_absent q ps (λ j r f. none_here j r f is)
        | false ↦ λ is. refl
      ] refl
      ∙ ap (λ (r : K × V). cond (same q (class r.0)) None (cond (same q (class x.0)) (Some x) (lookup q ps))) (some_is x p e)
    where
      none_here : (j : ℕ) (r : K × V) → get_or ps j None ≡ Some r → same q (class x.0) ≡ true → same q (class r.0) ≡ false
      none_here j r f is =
          elim (same q (class r.0)) as (λ b. same q (class r.0) ≡ b → b ≡ false) [
            | true ↦ λ it. absurd (apart_head x ps h j r f (sym (same_is q _ it) ∙ same_is q _ is))
            | false ↦ λ it. refl
          ] refl
  lookup_take q (Some x ∷ ps) (suc i) p h e =
      ap (cond (same q (class x.0)) (Some x)) (lookup_take q ps i p (apart_tail (Some x) ps h) e)
      ∙ swapped (same q (class x.0)) (same q (class p.0)) (Some x) None (lookup q ps)
      (λ a b. apart_head x ps h i p e (sym (same_is q _ b) ∙ same_is q _ a))

  pub lookup_revalue : (q : List ℕ) (ps : List (Option (K × V))) (i : ℕ) (p : K × V) (w : V) → Apart ps → get_or ps i None ≡ Some p
      → lookup q (set ps i (Some (p.0, w))) ≡ cond (same q (class p.0)) (Some (p.0, w)) (lookup q ps)
  unfolding lookup
  lookup_revalue q [] i p w h e = absurd (none_some p e)
  lookup_revalue q (None ∷ ps) zero p w h e = absurd (none_some p e)
  lookup_revalue q (None ∷ ps) (suc i) p w h e = lookup_revalue q ps i p w (apart_tail None ps h) e
  lookup_revalue q (Some x ∷ ps) zero p w h e =
      hidden (same q (class p.0)) (Some (p.0, w)) (Some x) (lookup q ps)
      ∙ ap (λ (r : K × V). cond (same q (class p.0)) (Some (p.0, w)) (cond (same q (class r.0)) (Some x) (lookup q ps))) (sym (some_is x p e))
    where
      hidden : {A : Type 0} (b : Bool) (x y z : A) → cond b x z ≡ cond b x (cond b y z)
      hidden true x y z = refl
      hidden false x y z = refl
  lookup_revalue q (Some x ∷ ps) (suc i) p w h e =
      ap (cond (same q (class x.0)) (Some x)) (lookup_revalue q ps i p w (apart_tail (Some x) ps h) e)
      ∙ swapped (same q (class x.0)) (same q (class p.0)) (Some x) (Some (p.0, w)) (lookup q ps)
      (λ a b. apart_head x ps h i p e (sym (same_is q _ b) ∙ same_is q _ a))

  pub entries_put : (ps : List (Option (K × V))) (i : ℕ) (p : K × V) → i < length ps → get_or ps i None ≡ None → Absent (class p.0) ps
      → entries_in class (set ps i (Some p)) ≡ insert (entries_in class ps) (class p.0) p
  entries_put ps i p lt e h = same_map nat_list_cmp_total exact_classes _ _ (λ q.
      get_entries (set ps i (Some p)) q ∙ lookup_put q ps i p lt e h
      ∙ sym (get-insert nat_list_cmp_total (entries_in class ps) (class p.0) p q ∙ ap (cond (same q (class p.0)) (Some p)) (get_entries ps q)))

  pub entries_take : (ps : List (Option (K × V))) (i : ℕ) (p : K × V) → Apart ps → get_or ps i None ≡ Some p
      → entries_in class (set ps i None) ≡ remove (entries_in class ps) (class p.0)
  entries_take ps i p h e = same_map nat_list_cmp_total exact_classes _ _ (λ q.
      get_entries (set ps i None) q ∙ lookup_take q ps i p h e
      ∙ sym (get-remove nat_list_cmp_total (entries_in class ps) (class p.0) q ∙ ap (cond (same q (class p.0)) None) (get_entries ps q)))

  set_twice : (ps : List (Option (K × V))) (i : ℕ) (o u : Option (K × V)) → set (set ps i o) i u ≡ set ps i u
  set_twice [] i o u = refl
  set_twice (p ∷ ps) zero o u = refl
  set_twice (p ∷ ps) (suc i) o u = (λ z. p ∷ set_twice ps i o u z)

  pub entries_rekey : (ps : List (Option (K × V))) (i : ℕ) (p q : K × V) → Apart ps → get_or ps i None ≡ Some p → i < length ps → Absent (class q.0) (set ps i None)
      → entries_in class (set ps i (Some q)) ≡ insert (remove (entries_in class ps) (class p.0)) (class q.0) q
  entries_rekey ps i p q h e lt none =
      ap (entries_in class) (sym (set_twice ps i None (Some q)))
      ∙ entries_put (set ps i None) i q (omega (arith, lt, length-set ps i None)) (get_or-set_at ps i i None None refl lt) none
      ∙ ap (λ m. insert m (class q.0) q) (entries_take ps i p h e)

  pub entries_revalue : (ps : List (Option (K × V))) (i : ℕ) (p : K × V) (w : V) → Apart ps → get_or ps i None ≡ Some p
      → entries_in class (set ps i (Some (p.0, w))) ≡ insert (entries_in class ps) (class p.0) (p.0, w)
  entries_revalue ps i p w h e = same_map nat_list_cmp_total exact_classes _ _ (λ q.
      get_entries (set ps i (Some (p.0, w))) q ∙ lookup_revalue q ps i p w h e
      ∙ sym (get-insert nat_list_cmp_total (entries_in class ps) (class p.0) (p.0, w) q ∙ ap (cond (same q (class p.0)) (Some (p.0, w))) (get_entries ps q)))

  pub len_entries : (ps : List (Option (K × V))) → Apart ps → len (entries_in class ps) ≡ count_by is_some ps
  len_entries [] h = len-empty _ _
  len_entries (None ∷ ps) h = len_entries ps (apart_tail None ps h) ∙ (let e : ◌≡◌ {A = ℕ} (count_by is_some ps) (0 + count_by is_some ps) = omega arith in e) ∙ sym (sum_by-cons (λ (o : Option (K × V)). cond (is_some o) 1 0) None ps)
  len_entries (Some x ∷ ps) h =
      let none : get (entries_in class ps) (class x.0) ≡ None = get_entries ps (class x.0) ∙ lookup_absent (class x.0) ps (λ j r f. other j r f) in
      len-insert nat_list_cmp_total (entries_in class ps) (class x.0) x
      ∙ ap (λ (o : Option (K × V)). cond (is_some o) (len (entries_in class ps)) (len (entries_in class ps) + 1)) none
      ∙ ap (λ n. n + 1) (len_entries ps (apart_tail (Some x) ps h))
      ∙ add_comm (count_by is_some ps) 1
      ∙ sym (sum_by-cons (λ (o : Option (K × V)). cond (is_some o) 1 0) (Some x) ps)
    where
      other : (j : ℕ) (r : K × V) → get_or ps j None ≡ Some r → same (class x.0) (class r.0) ≡ false
      other j r f =
          elim (same (class x.0) (class r.0)) as (λ b. same (class x.0) (class r.0) ≡ b → b ≡ false) [
            | true ↦ λ it. absurd (apart_head x ps h j r f (sym (same_is _ _ it)))
            | false ↦ λ it. refl
          ] refl
