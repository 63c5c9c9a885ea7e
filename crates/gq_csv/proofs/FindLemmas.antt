-- The bytes before the first that stops a search, block by block.
use Rattle.std.proofs.Common.{◌≡◌, ◌∙◌, ℕ, ◌+◌, ◌<◌, ◌≤◌, Bool, cond, eqb, List, length, take, drop, sym, ap, arith, take-append-drop}
use Rattle.std.proofs.lemmas.Bool.{eq-eqb, ne_eqb}
use Rattle.std.proofs.lemmas.List.{length-take-le}
use Rattle.std.proofs.lemmas.List.Folds.{prefix_len-append}
use Rattle.std.proofs.lemmas.List.Sums.{prefix_len-le-length}
use Rattle.std.specs.List.{prefix_len}

module _ (p : ℕ → Bool) (xs : List ℕ) (k : ℕ) (within : k ≤ length xs) where
  size : length (take k xs) ≡ k
  size = length-take-le k xs within

  parts : prefix_len p xs ≡ cond (eqb (prefix_len p (take k xs)) (length (take k xs))) (length (take k xs) + prefix_len p (drop k xs)) (prefix_len p (take k xs))
  parts = ap (prefix_len p) (sym (take-append-drop k xs)) ∙ prefix_len-append p (take k xs) (drop k xs)

  -- the search stops in the first k bytes
  pub stops_in_block : prefix_len p (take k xs) < k → prefix_len p xs ≡ prefix_len p (take k xs)
  stops_in_block lt = parts ∙ ap (λ b. cond b (length (take k xs) + prefix_len p (drop k xs)) (prefix_len p (take k xs))) (ne_eqb _ _ (λ e. absurd (omega (arith, e, lt, size))))

  -- the search passes the first k bytes
  pub passes_block : k ≤ prefix_len p (take k xs) → prefix_len p xs ≡ k + prefix_len p (drop k xs)
  passes_block ge =
      let all : prefix_len p (take k xs) ≡ length (take k xs) = omega (arith, ge, size, prefix_len-le-length p (take k xs)) in
      parts ∙ ap (λ b. cond b (length (take k xs) + prefix_len p (drop k xs)) (prefix_len p (take k xs))) (eq-eqb _ _ all) ∙ ap (λ n. n + prefix_len p (drop k xs)) size
