use Rattle.std.proofs.Common.{◌≡◌, ◌-◌, get_or, arith}
use Rattle.std.proofs.lemmas.Bool.Decides.{nat_tests}
use Rattle.gq_infer.proofs.WordLemmas.{last_place}
use Rattle.gq_infer.proofs.path.after_last.Goals as goal

pub returns-else-bytes-end-clause-place : goal.returns-else-bytes-end-clause-place
returns-else-bytes-end-clause-place c =
    let last : get_or c.args.bytes.now (c.loop-end.end - 1) 0 ≡ c.args.sought = grind (arith, nat_tests, c.if-bytes-end.false) in
    last_place c.args.bytes.now c.args.sought c.loop-end.end c.loop-end.invariant.within c.loop-end.invariant.others (λ _. last)

pub returns-after-loop-end-clause-place : goal.returns-after-loop-end-clause-place
returns-after-loop-end-clause-place c =
    last_place c.args.bytes.now c.args.sought c.loop-end.end c.loop-end.invariant.within c.loop-end.invariant.others (λ h. absurd (omega (arith, h, c.loop-end-test.false)))
