-- The keys of the rows that pass a test that gives the same for same keys are the keys that pass it.
use Rattle.std.proofs.Common.{◌≡◌, Bool, true, false, cond, not, List, [], ◌∷◌, refl, sym, ap, ◌∙◌}
use Rattle.std.specs.Prelude.{filter}
use Rattle.gq_row.specs.declared.value.Value.{Value}
use Rattle.gq_row.specs.Order.{same_key}
use Rattle.gq_row.specs.Repeats.{without_repeats}

filter_cons : {X : Type 0} (q : X → Bool) (b : Bool) (x : X) (xs : List X) → filter q (cond b (x ∷ xs) xs) ≡ cond b (cond (q x) (x ∷ filter q xs) (filter q xs)) (filter q xs)
filter_cons q true x xs = refl
filter_cons q false x xs = refl

swap_cond : {X : Type 0} (a b : Bool) (x : X) (xs : List X) → cond a (cond b (x ∷ xs) xs) xs ≡ cond b (cond a (x ∷ xs) xs) xs
swap_cond true true x xs = refl
swap_cond true false x xs = refl
swap_cond false true x xs = refl
swap_cond false false x xs = refl

pub filter_swap : {X : Type 0} (p q : X → Bool) (xs : List X) → filter p (filter q xs) ≡ filter q (filter p xs)
filter_swap p q [] = refl
filter_swap p q (x ∷ xs) =
    filter_cons p (q x) x (filter q xs)
    ∙ ap (λ l. cond (q x) (cond (p x) (x ∷ l) l) l) (filter_swap p q xs)
    ∙ swap_cond (q x) (p x) x (filter q (filter p xs))
    ∙ sym (filter_cons q (p x) x (filter p xs))

-- what p keeps, q keeps
absorb_cond : {X : Type 0} (a b : Bool) (x : X) (xs : List X) → (a ≡ true → b ≡ true) → cond b (cond a (x ∷ xs) xs) xs ≡ cond a (x ∷ xs) xs
absorb_cond true b x xs h = ap (λ c. cond c (x ∷ xs) xs) (h refl)
absorb_cond false true x xs h = refl
absorb_cond false false x xs h = refl

pub filter_absorb : {X : Type 0} (p q : X → Bool) → ((x : X) → p x ≡ true → q x ≡ true) → (xs : List X) → filter p (filter q xs) ≡ filter p xs
filter_absorb p q h [] = refl
filter_absorb p q h (x ∷ xs) =
    filter_cons p (q x) x (filter q xs)
    ∙ ap (λ l. cond (q x) (cond (p x) (x ∷ l) l) l) (filter_absorb p q h xs)
    ∙ absorb_cond (p x) (q x) x (filter p xs) (h x)

same_step : (p : List Value → Bool) (k : List Value) (ks : List (List Value)) (b : Bool) → p k ≡ b
    → ((other : List Value) → same_key k other ≡ true → p other ≡ p k)
    → cond b (k ∷ filter p (filter (λ other. not (same_key k other)) ks)) (filter p (filter (λ other. not (same_key k other)) ks)) ≡ cond b (k ∷ filter (λ other. not (same_key k other)) (filter p ks)) (filter p ks)
same_step p k ks true e h = ap (λ l. k ∷ l) (filter_swap p (λ other. not (same_key k other)) ks)
same_step p k ks false e h = filter_absorb p (λ other. not (same_key k other)) (λ x keeps. differs (same_key k x) (λ s. sym keeps ∙ h x s ∙ e)) ks
  where
    differs : (s : Bool) → (s ≡ true → true ≡ false) → not s ≡ true
    differs true f = sym (f refl)
    differs false f = refl

wr_cond : (b : Bool) (k : List Value) (ks : List (List Value)) → without_repeats same_key (cond b (k ∷ ks) ks) ≡ cond b (k ∷ filter (λ other. not (same_key k other)) (without_repeats same_key ks)) (without_repeats same_key ks)
wr_cond true k ks = refl
wr_cond false k ks = refl

-- the different keys of what a test keeps are those that it keeps of the different keys: the rows that are
-- written to a run have the keys that aren't resident, and those of one partition the keys of that partition
pub without_repeats-filter : (p : List Value → Bool) → ((k other : List Value) → same_key k other ≡ true → p other ≡ p k)
    → (ks : List (List Value)) → without_repeats same_key (filter p ks) ≡ filter p (without_repeats same_key ks)
without_repeats-filter p h [] = refl
without_repeats-filter p h (k ∷ ks) =
    wr_cond (p k) k (filter p ks)
    ∙ ap (λ l. cond (p k) (k ∷ filter (λ other. not (same_key k other)) l) l) (without_repeats-filter p h ks)
    ∙ sym (same_step p k (without_repeats same_key ks) (p k) refl (h k))
