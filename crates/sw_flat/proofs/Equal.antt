-- One look-up for each key decides whether two maps are equal.
use mathlib.Core.Bool.{true≢false}
use native.Mathlib.Decide.{dec_lt}
use Rattle.std.proofs.Common.{◌≡◌, ℕ, ◌+◌, ◌-◌, ◌<◌, ◌≤◌, Bool, true, false, cond, List, [], ◌∷◌, Option, Some, None, is_some, refl, sym, ap, ◌∙◌, arith}
use Rattle.std.specs.Option.{option_eq, option_map}
use Rattle.std.specs.List.{list_all}
use Rattle.std.specs.Cmp.{first_so, second_so}
use Rattle.std.specs.FinMap.{insert, get, remove, len, contains_key, get-empty, get-insert, get-remove, len-empty, len-insert, len-remove, empty_of_len}
use Rattle.std.specs.Cmp.Lexicographic.{slice_cmp, nat_list_cmp_total}
use Rattle.std.specs.Ordering.{nat_cmp}
use Rattle.sw_table.specs.Entries.{Entries, entries_in}
use Rattle.sw_table.specs.Walks.{filled}
use Rattle.sw_flat.specs.Equality.{agree_at, same_entries, same_from_each, each_from_same}
use Rattle.sw_flat.specs.Maps.{value_at}
use Rattle.sw_flat.proofs.Classes.{same, same_is, same_itself, some_is, none_some, class_of_entry}
use Rattle.sw_flat.proofs.Listed.{Apart, apart_behind, absent_behind}

module _ {K V : Type 0} where
  has_inserted : (m : Entries K V) (c : List ℕ) (x : K × V) (q : List ℕ) → contains_key (insert m c x) q ≡ cond (same q c) true (contains_key m q)
  has_inserted m c x q = ap is_some (get-insert nat_list_cmp_total m c x q) ∙ either (same q c) (get m q)
    where
      either : (b : Bool) (o : Option (K × V)) → is_some (cond b (Some x) o) ≡ cond b true (is_some o)
      either true o = refl
      either false o = refl

  has_removed : (m : Entries K V) (c q : List ℕ) → contains_key (remove m c) q ≡ cond (same q c) false (contains_key m q)
  has_removed m c q = ap is_some (get-remove nat_list_cmp_total m c q) ∙ either (same q c) (get m q)
    where
      either : (b : Bool) (o : Option (K × V)) → is_some (cond b None o) ≡ cond b false (is_some o)
      either true o = refl
      either false o = refl

  -- n has the classes of m
  abbrev pub Covers : Entries K V → Entries K V → Type 0
  Covers n m = (q : List ℕ) → contains_key m q ≡ true → contains_key n q ≡ true

module _ {K V : Type 0} (class : K → List ℕ) where
  module _ (x : K × V) (ps : List (Option (K × V))) (h : Apart class (Some x ∷ ps)) (n : Entries K V) (all : Covers n (entries_in class (Some x ∷ ps))) where
    has_first : contains_key n (class x.0) ≡ true
    has_first = all (class x.0) (has_inserted (entries_in class ps) (class x.0) x (class x.0) ∙ ap (λ b. cond b true (contains_key (entries_in class ps) (class x.0))) (same_itself (class x.0) (class x.0) refl))

    covers_others : Covers (remove n (class x.0)) (entries_in class ps)
    covers_others q e =
        has_removed n (class x.0) q
        ∙ elim (same q (class x.0)) as (λ b. same q (class x.0) ≡ b → cond b false (contains_key n q) ≡ true) [
          | true ↦ λ is. absurd (true≢false (sym e ∙ ap (contains_key (entries_in class ps)) (same_is q (class x.0) is) ∙ ap is_some (absent_behind class x ps h)))
          | false ↦ λ is. all q (has_inserted (entries_in class ps) (class x.0) x q ∙ ap (λ b. cond b true (contains_key (entries_in class ps) q)) is ∙ e)
        ] refl

    fewer : len (remove n (class x.0)) ≡ len n - 1
    fewer = len-remove nat_list_cmp_total n (class x.0) ∙ ap (λ b. cond b (len n - 1) (len n)) has_first

    longer : len (entries_in class (Some x ∷ ps)) ≡ len (entries_in class ps) + 1
    longer = len-insert nat_list_cmp_total (entries_in class ps) (class x.0) x ∙ ap (λ (o : Option (K × V)). cond (is_some o) (len (entries_in class ps)) (len (entries_in class ps) + 1)) (absent_behind class x ps h)

    some : 0 < len n
    some = elim (dec_lt 0 (len n)) [
      | yes lt ↦ lt
      | no ge ↦ absurd (true≢false (sym has_first ∙ ap (λ m. contains_key m (class x.0)) (empty_of_len n (omega (arith, ge))) ∙ ap is_some (get-empty _ (class x.0))))
    ]

  -- a map that has the classes of another has as many entries at least
  pub covers_le : (ps : List (Option (K × V))) → Apart class ps → (n : Entries K V) → Covers n (entries_in class ps) → len (entries_in class ps) ≤ len n
  covers_le [] h n all = let e = len-empty (slice_cmp nat_cmp) (K × V) in omega (arith, e)
  covers_le (None ∷ ps) h n all = covers_le ps (apart_behind class None ps h) n all
  covers_le (Some x ∷ ps) h n all =
      let rest = covers_le ps (apart_behind class (Some x) ps h) (remove n (class x.0)) (covers_others x ps h n all) in
      omega (arith, rest, fewer x ps h n all, longer x ps h n all, some x ps h n all)

  -- and no other classes, where it has as many
  pub covered : (ps : List (Option (K × V))) → Apart class ps → (n : Entries K V) → Covers n (entries_in class ps) → len n ≡ len (entries_in class ps) → Covers (entries_in class ps) n
  covered [] h n all e q has = absurd (true≢false (sym has ∙ ap (λ m. contains_key m q) (empty_of_len n (e ∙ len-empty _ _)) ∙ ap is_some (get-empty _ q)))
  covered (None ∷ ps) h n all e q has = covered ps (apart_behind class None ps h) n all e q has
  covered (Some x ∷ ps) h n all e q has =
      has_inserted (entries_in class ps) (class x.0) x q
      ∙ elim (same q (class x.0)) as (λ b. same q (class x.0) ≡ b → cond b true (contains_key (entries_in class ps) q) ≡ true) [
        | true ↦ λ is. refl
        | false ↦ λ is. covered ps (apart_behind class (Some x) ps h) (remove n (class x.0)) (covers_others x ps h n all) (omega (arith, e, fewer x ps h n all, longer x ps h n all, some x ps h n all)) q
            (has_removed n (class x.0) q ∙ ap (λ b. cond b false (contains_key n q)) is ∙ has)
      ] refl

  -- each of the entries is what the map has for its class
  pub Held : Entries K V → List (K × V) → Type 0
  Held m [] = Unit {0}
  Held m (p ∷ items) = (get m (class p.0) ≡ Some p) × Held m items

  pub held_first : (m : Entries K V) (p : K × V) (items : List (K × V)) → Held m (p ∷ items) → (get m (class p.0) ≡ Some p) × Held m items
  unfolding Held
  held_first m p items h = h

  still_held : (m : Entries K V) (x : K × V) (items : List (K × V)) → get m (class x.0) ≡ None → Held m items → Held (insert m (class x.0) x) items
  unfolding Held
  still_held m x [] none h = tt
  still_held m x (p ∷ items) none h = (
    get-insert nat_list_cmp_total m (class x.0) x (class p.0)
        ∙ elim (same (class p.0) (class x.0)) as (λ b. same (class p.0) (class x.0) ≡ b → cond b (Some x) (get m (class p.0)) ≡ Some p) [
          | true ↦ λ is. absurd (none_some p (sym none ∙ sym (ap (get m) (same_is (class p.0) (class x.0) is)) ∙ h.0))
          | false ↦ λ is. h.0
        ] refl,
    still_held m x items none h.1,
  )

  pub held_filled : (ps : List (Option (K × V))) → Apart class ps → Held (entries_in class ps) (filled ps)
  unfolding Held
  held_filled [] h = tt
  held_filled (None ∷ ps) h = held_filled ps (apart_behind class None ps h)
  held_filled (Some x ∷ ps) h = (
    get-insert nat_list_cmp_total (entries_in class ps) (class x.0) x (class x.0) ∙ ap (λ b. cond b (Some x) (get (entries_in class ps) (class x.0))) (same_itself (class x.0) (class x.0) refl),
    still_held (entries_in class ps) x (filled ps) (absent_behind class x ps h) (held_filled ps (apart_behind class (Some x) ps h)),
  )

  -- an entry passes where all that are listed do
  passes : (test : K × V → Bool) (ps : List (Option (K × V))) (q : List ℕ) (p : K × V) → get (entries_in class ps) q ≡ Some p → list_all test (filled ps) ≡ true → test p ≡ true
  passes test [] q p e all = absurd (none_some p (sym (get-empty _ q) ∙ e))
  passes test (None ∷ ps) q p e all = passes test ps q p e all
  passes test (Some x ∷ ps) q p e all =
      elim (same q (class x.0)) as (λ b. cond b (Some x) (get (entries_in class ps) q) ≡ Some p → test p ≡ true) [
        | true ↦ λ f. sym (ap test (some_is x p f)) ∙ first_so (test x) _ all
        | false ↦ λ f. passes test ps q p f (second_so (test x) _ all)
      ] (sym (get-insert nat_list_cmp_total (entries_in class ps) (class x.0) x q) ∙ e)

  module _ (equal : V → V → Bool) where
    -- the other map has the entry's class, with an equal value
    abbrev pub agrees : Entries K V → K × V → Bool
    agrees n p = option_eq equal (Some p.1) (value_at n (class p.0))

    right_has : (o r : Option (K × V)) → option_eq equal (option_map (λ p. p.1) o) (option_map (λ p. p.1) r) ≡ true → is_some o ≡ true → is_some r ≡ true
    right_has None r e s = absurd (true≢false (sym s))
    right_has (Some x) None e s = absurd (true≢false (sym e))
    right_has (Some x) (Some y) e s = refl

    left_has : (o r : Option (K × V)) → option_eq equal (option_map (λ p. p.1) o) (option_map (λ p. p.1) r) ≡ true → is_some r ≡ true → is_some o ≡ true
    left_has (Some x) r e s = refl
    left_has None None e s = s
    left_has None (Some y) e s = absurd (true≢false (sym e))

    neither : (o r : Option (K × V)) → is_some o ≡ false → is_some r ≡ false → option_eq equal (option_map (λ p. p.1) o) (option_map (λ p. p.1) r) ≡ true
    neither None None a b = refl
    neither None (Some y) a b = absurd (true≢false b)
    neither (Some x) r a b = absurd (true≢false a)

    pub unequal_len : (ps qs : List (Option (K × V))) → Apart class ps → Apart class qs → (len (entries_in class ps) ≡ len (entries_in class qs) → ⊥) → false ≡ same_entries equal (entries_in class ps) (entries_in class qs)
    unequal_len ps qs a b differ =
        let m = entries_in class ps in
        let n = entries_in class qs in
        elim (same_entries equal m n) as (λ r. same_entries equal m n ≡ r → false ≡ r) [
          | true ↦ λ e.
              let le = covers_le ps a n (λ q s. right_has (get m q) (get n q) (each_from_same equal m n e q) s) in
              let ge = covers_le qs b m (λ q s. left_has (get m q) (get n q) (each_from_same equal m n e q) s) in
              absurd (differ (omega (arith, le, ge)))
          | false ↦ λ e. refl
        ] refl

    pub unequal_at : (m n : Entries K V) (x : K × V) → get m (class x.0) ≡ Some x → agrees n x ≡ false → false ≡ same_entries equal m n
    unequal_at m n x held no' =
        elim (same_entries equal m n) as (λ r. same_entries equal m n ≡ r → false ≡ r) [
          | true ↦ λ e. absurd (true≢false (sym (each_from_same equal m n e (class x.0)) ∙ ap (λ (o : Option (K × V)). option_eq equal (option_map (λ p. p.1) o) (value_at n (class x.0))) held ∙ no'))
          | false ↦ λ e. refl
        ] refl

    pub equal_all : (ps : List (Option (K × V))) (n : Entries K V) → Apart class ps → len (entries_in class ps) ≡ len n → list_all (agrees n) (filled ps) ≡ true → true ≡ same_entries equal (entries_in class ps) n
    equal_all ps n a e all = sym (same_from_each equal m n at)
      where
        m : Entries K V
        m = entries_in class ps

        there : (q : List ℕ) (o : Option (K × V)) → get m q ≡ o → is_some o ≡ true → agree_at equal m n q ≡ true
        there q None f s = absurd (true≢false (sym s))
        there q (Some p) f s =
            ap (λ (o : Option (K × V)). option_eq equal (option_map (λ r. r.1) o) (value_at n q)) f
            ∙ ap (λ c. option_eq equal (Some p.1) (value_at n c)) (class_of_entry class ps q p f)
            ∙ passes (agrees n) ps q p f all

        covering : Covers n m
        covering q s = right_has (get m q) (get n q) (there q (get m q) refl s) s

        at : (q : List ℕ) → agree_at equal m n q ≡ true
        at q = elim (contains_key m q) as (λ b. contains_key m q ≡ b → agree_at equal m n q ≡ true) [
          | true ↦ λ s. there q (get m q) refl s
          | false ↦ λ s. elim (contains_key n q) as (λ b. contains_key n q ≡ b → agree_at equal m n q ≡ true) [
            | true ↦ λ t. absurd (true≢false (sym (covered ps a n covering (sym e) q t) ∙ s))
            | false ↦ λ t. neither (get m q) (get n q) s t
          ] refl
        ] refl
