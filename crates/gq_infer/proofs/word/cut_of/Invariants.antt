use Rattle.std.proofs.Common.{◌≡◌, ◌<◌, ◌%◌, ℕ, false, cond, take, eqb, count_by}
use Rattle.gq_infer.specs.Words.{is_cut}
use Rattle.gq_infer.proofs.word.cut_of.Given as goal

abbrev pub invariant-loop-i : goal.invariant-loop-i
invariant-loop-i l = record {
  parity : count_by (λ b. eqb b 34) (take l.i l.word) % 2 ≡ cond l.is_quoted 1 0;
  before : (k : ℕ) → k < l.i → is_cut l.word k ≡ false;
}
