-- What the lowest lane of a mask says.
use Rattle.std.proofs.Common.{◌≡◌, ℕ, ◌<◌, Bool, false, not, cond, List, length, set, get_or, count_by, Some, None, sym, ap, ◌∙◌, arith}
use Rattle.std.specs.List.{position, position_or_len, prefix_len}
use Rattle.std.proofs.lemmas.Bool.{lt-ltb, le-ltb, not-true}
use Rattle.std.proofs.lemmas.List.{get_or_past}
use Rattle.std.proofs.lemmas.List.Sums.{sum_by-set, prefix_len-le-length, prefix_len_passes}
use Rattle.std.proofs.lemmas.List.Quantifiers.{position-Some}
use native.Mathlib.Decide.{dec_lt}

some_not_none : {X : Type 0} (x : X) → Some x ≡ None → ⊥
some_not_none x e = cc

pub none_set : (ms : List Bool) → position (λ b. b) ms ≡ None → (k : ℕ) → get_or ms k false ≡ false
none_set ms e k =
    let all : prefix_len (λ b. not b) ms ≡ length ms = elim (dec_lt (prefix_len (λ b. not b) ms) (length ms)) [
      | yes lt ↦ absurd (some_not_none (position_or_len (λ b. b) ms) (sym (ap (λ t. cond t (Some (position_or_len (λ b. b) ms)) None) (lt-ltb _ _ lt)) ∙ e))
      | no ge ↦ omega (arith, prefix_len-le-length (λ b. not b) ms, ge)
    ] in
    elim (dec_lt k (length ms)) [
      | yes lt ↦ not-true _ (prefix_len_passes (λ b. not b) ms k false (omega arith))
      | no ge ↦ get_or_past ms k false (omega arith)
    ]

pub lowest_place : (ms : List Bool) (k : ℕ) → position (λ b. b) ms ≡ Some k → k ≡ position_or_len (λ b. b) ms
lowest_place ms k e = elim (dec_lt (position_or_len (λ b. b) ms) (length ms)) [
  | yes lt ↦ let f : Some (position_or_len (λ b. b) ms) ≡ Some k = sym (ap (λ t. cond t (Some (position_or_len (λ b. b) ms)) None) (lt-ltb _ _ lt)) ∙ e in cc
  | no ge ↦ absurd (some_not_none k (sym e ∙ ap (λ t. cond t (Some (position_or_len (λ b. b) ms)) None) (le-ltb _ _ (omega (arith, ge)))))
]

pub fewer : (ms : List Bool) (k : ℕ) → position (λ b. b) ms ≡ Some k → count_by (λ b. b) (set ms (position_or_len (λ b. b) ms) false) < count_by (λ b. b) ms
fewer ms k e =
    let at = lowest_place ms k e in let p = position-Some (λ b. b) ms k false e in
    let one : ◌≡◌ {A = ℕ} (cond (get_or ms (position_or_len (λ b. b) ms) false) 1 0) 1 = ap (λ j. cond (get_or ms j false) 1 0) (sym at) ∙ ap (λ b. cond b 1 0) p.1 in
    omega (arith, sum_by-set (λ b. cond b 1 0) ms (position_or_len (λ b. b) ms) false false (omega (arith, p.0, at)), one)
