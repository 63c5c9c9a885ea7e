-- The first name that is free.
use Rattle.std.proofs.Common.{◌≡◌, ◌+◌, ◌-◌, ◌<◌, ℕ, suc, Bool, true, false, cond, List, ◌∷◌, ◌∙◌, Some, sym, ap, map, find, arith}
use Rattle.std.specs.Prelude.{unwrap_or}
use Rattle.std.specs.List.{range_with_len}

range_more : (n end : ℕ) → n < end → range_with_len n (end - n) ≡ n ∷ range_with_len (n + 1) (end - (n + 1))
range_more n end lt = let e : end - n ≡ suc (end - (n + 1)) = omega arith in ap (range_with_len n) e

-- the first of names from the n-th up to an end that passes a test, by the test of the n-th
from_first : (test : List ℕ → Bool) (f : ℕ → List ℕ) (none : List ℕ) (n end : ℕ) (b : Bool) → n < end → test (f n) ≡ b
    → unwrap_or (find test (map f (range_with_len n (end - n)))) none ≡ unwrap_or (cond b (Some (f n)) (find test (map f (range_with_len (n + 1) (end - (n + 1)))))) none
from_first test f none n end b lt is =
    let rest = find test (map f (range_with_len (n + 1) (end - (n + 1)))) in
    ap (λ l. unwrap_or (find test (map f l)) none) (range_more n end lt) ∙ ap (λ v. unwrap_or (cond v (Some (f n)) rest) none) is

pub found : (test : List ℕ → Bool) (f : ℕ → List ℕ) (none whole : List ℕ) (n end : ℕ) → n < end → test (f n) ≡ true
    → unwrap_or (find test (map f (range_with_len n (end - n)))) none ≡ whole → f n ≡ whole
found test f none whole n end lt passes e = sym (from_first test f none n end true lt passes) ∙ e

pub passed : (test : List ℕ → Bool) (f : ℕ → List ℕ) (none whole : List ℕ) (n end : ℕ) → n < end → test (f n) ≡ false
    → unwrap_or (find test (map f (range_with_len n (end - n)))) none ≡ whole → unwrap_or (find test (map f (range_with_len (n + 1) (end - (n + 1))))) none ≡ whole
passed test f none whole n end lt fails e = sym (from_first test f none n end false lt fails) ∙ e
