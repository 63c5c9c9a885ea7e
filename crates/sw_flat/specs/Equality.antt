-- Equality of maps.
use mathlib.Core.Bool.{true≢false}
use Rattle.std.proofs.Common.{◌≡◌, ℕ, Bool, true, false, ◌&&◌, ◌||◌, List, [], ◌∷◌, Option, Some, None, is_some, refl, sym, ap, ◌∙◌}
use Rattle.std.specs.Option.{option_eq, option_map}
use Rattle.std.specs.List.{list_any, list_all}
use Rattle.std.specs.Cmp.{IsPartialEquivalence, first_so, second_so}
use Rattle.std.specs.Ordering.{nat_cmp, eq_by_cmp}
use Rattle.std.specs.Cmp.Lexicographic.{slice_cmp, texts_ties, bytes_decides}
use Rattle.std.specs.FinMap.{get, keys, contains_key, contains_key-keys}
use Rattle.sw_table.specs.Entries.{Entries}
use Rattle.sw_flat.specs.Maps.{value_at}

module _ {K V : Type 0} (equal : V → V → Bool) where
  -- two maps agree at a class: both have it, with equal values, or neither has it
  abbrev pub agree_at : Entries K V → Entries K V → List ℕ → Bool
  agree_at m n c = option_eq equal (value_at m c) (value_at n c)

  -- two maps agree at each class of either
  abbrev pub same_entries : Entries K V → Entries K V → Bool
  same_entries m n = list_all (agree_at m n) (keys m) && list_all (agree_at m n) (keys n)

both_commute : (a b : Bool) → (a && b) ≡ (b && a)
both_commute true true = refl
both_commute true false = refl
both_commute false true = refl
both_commute false false = refl

all_pass : {X : Type 0} (test : X → Bool) → ((x : X) → test x ≡ true) → (xs : List X) → list_all test xs ≡ true
all_pass test h [] = refl
all_pass test h (x ∷ xs) = ap (λ b. b && list_all test xs) (h x) ∙ all_pass test h xs

-- a class that ties with one of a list passes a test that all of the list pass
one_passes : (test : List ℕ → Bool) (c : List ℕ) (ks : List (List ℕ)) → list_any (eq_by_cmp (slice_cmp nat_cmp) c) ks ≡ true → list_all test ks ≡ true → test c ≡ true
one_passes test c [] any all = absurd (true≢false (sym any))
one_passes test c (k ∷ ks) any all =
    elim (eq_by_cmp (slice_cmp nat_cmp) c k) as (λ b. eq_by_cmp (slice_cmp nat_cmp) c k ≡ b → (b || list_any (eq_by_cmp (slice_cmp nat_cmp) c) ks) ≡ true → test c ≡ true) [
      | true ↦ λ e _. ap test ((bytes_decides c k).0 (texts_ties c k ∙ e)) ∙ first_so (test k) _ all
      | false ↦ λ e rest. one_passes test c ks rest (second_so (test k) _ all)
    ] refl any

module _ {V : Type 0} (equal : V → V → Bool) where
  turned : ((x y : V) → equal x y ≡ equal y x) → (o r : Option V) → option_eq equal o r ≡ option_eq equal r o
  turned symm None None = refl
  turned symm None (Some y) = refl
  turned symm (Some x) None = refl
  turned symm (Some x) (Some y) = symm x y

  joined : ((x y z : V) → equal x y ≡ true → equal y z ≡ true → equal x z ≡ true) → (o r s : Option V) → option_eq equal o r ≡ true → option_eq equal r s ≡ true → option_eq equal o s ≡ true
  joined trans None None s a b = b
  joined trans None (Some y) s a b = absurd (true≢false (sym a))
  joined trans (Some x) None s a b = absurd (true≢false (sym a))
  joined trans (Some x) (Some y) None a b = b
  joined trans (Some x) (Some y) (Some z) a b = trans x y z a b

module _ {K V : Type 0} (equal : V → V → Bool) where
  pub same_from_each : (m n : Entries K V) → ((c : List ℕ) → agree_at equal m n c ≡ true) → same_entries equal m n ≡ true
  same_from_each m n h = λ i. all_pass (agree_at equal m n) h (keys m) i && all_pass (agree_at equal m n) h (keys n) i

  neither : (m n : Entries K V) (c : List ℕ) → contains_key m c ≡ false → contains_key n c ≡ false → agree_at equal m n c ≡ true
  neither m n c a b = none (get m c) (get n c) a b
    where
      none : (o r : Option (K × V)) → is_some o ≡ false → is_some r ≡ false → option_eq equal (option_map (λ p. p.1) o) (option_map (λ p. p.1) r) ≡ true
      none None None a b = refl
      none None (Some y) a b = absurd (true≢false b)
      none (Some x) r a b = absurd (true≢false a)

  pub each_from_same : (m n : Entries K V) → same_entries equal m n ≡ true → (c : List ℕ) → agree_at equal m n c ≡ true
  each_from_same m n h c =
      elim (contains_key m c) as (λ b. contains_key m c ≡ b → agree_at equal m n c ≡ true) [
        | true ↦ λ a. one_passes (agree_at equal m n) c (keys m) (sym (contains_key-keys m c) ∙ a) (first_so _ _ h)
        | false ↦ λ a. elim (contains_key n c) as (λ b. contains_key n c ≡ b → agree_at equal m n c ≡ true) [
          | true ↦ λ b. one_passes (agree_at equal m n) c (keys n) (sym (contains_key-keys n c) ∙ b) (second_so (list_all (agree_at equal m n) (keys m)) _ h)
          | false ↦ λ b. neither m n c a b
        ] refl
      ] refl

  -- if equality of values is a partial equivalence, so is that of maps
  pub same_entries_laws : IsPartialEquivalence equal → IsPartialEquivalence (same_entries {K = K} equal)
  same_entries_laws laws = record {
    symm = λ m n.
        (λ i. list_all (λ c. turned equal laws.symm (value_at m c) (value_at n c) i) (keys m) && list_all (λ c. turned equal laws.symm (value_at m c) (value_at n c) i) (keys n))
        ∙ both_commute (list_all (agree_at equal n m) (keys m)) (list_all (agree_at equal n m) (keys n));
    trans = λ l m n a b. same_from_each l n (λ c. joined equal laws.trans (value_at l c) (value_at m c) (value_at n c) (each_from_same l m a c) (each_from_same m n b c));
  }

module _ {K : Type 0} where
  -- each of two sets has the classes of the other
  abbrev pub same_keys : Entries K (Unit {0}) → Entries K (Unit {0}) → Bool
  same_keys = same_entries (λ _ _. true)

  pub same_keys_laws : IsPartialEquivalence same_keys
  same_keys_laws = same_entries_laws (λ _ _. true) (record { symm = λ _ _. refl; trans = λ _ _ _ _ _. refl })
