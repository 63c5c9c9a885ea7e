use Rattle.std.proofs.Common.{◌+◌, ◌++◌, [], sym, arith}
use Rattle.gq_script.specs.Payloads.{TookPayloadLine}
use Rattle.gq_check.proofs.Passed.{walked-none, walked-line, passed-mark, passed-open}
use Rattle.gq_check.proofs.payload.pass_payload.Goals as goal

pub loop-lines-init : goal.loop-lines-init
loop-lines-init g c = ([], omega arith, walked-none c.args.bounds.now c.args.before c.args.source.now.left)

pub returns-in-None-clause-passed : goal.returns-in-None-clause-passed
returns-in-None-clause-passed g c =
    passed-open c.args.bounds.now c.args.before c.loop-lines.lines c.args.source.now c.loop-lines.source c.take_payload_line.new.source c.loop-lines.invariant.0 (rw c.in-None.is at c.in_ok-take_payload_line.ensures.end) c.loop-lines.invariant.2

pub returns-in-Some-true-clause-passed : goal.returns-in-Some-true-clause-passed
returns-in-Some-true-clause-passed g c =
    let t : TookPayloadLine c.args.bounds.now.payload c.loop-lines.source c.take_payload_line.new.source c.kept_for-line.result c.take_payload_line.new.kept c.in-Some-true.field-0 = rw c.in-Some-true.is at c.in_ok-take_payload_line.ensures.line in
    passed-mark c.args.bounds.now c.args.before c.loop-lines.lines (c.loop-lines.lines + 1) c.args.source.now c.loop-lines.source c.take_payload_line.new.source c.args.bounds.now.payload c.kept_for-line.result c.take_payload_line.new.kept c.in-Some-true.field-0 c.loop-lines.invariant.0 c.past_limit.result t (omega arith) c.in-Some-true.field-0-test
    (sym (c.past_limit.ensures c.args.bounds.now.payload c.loop-lines.invariant.0 c.loop-lines.invariant.1)) c.loop-lines.invariant.2

pub loop-lines-preserved : goal.loop-lines-preserved
loop-lines-preserved g c =
    let most = c.args.bounds.now.payload in
    let t : TookPayloadLine most c.loop-lines.source c.take_payload_line.new.source c.kept_for-line.result c.take_payload_line.new.kept c.in-Some-false.field-0 = rw c.in-Some-false.is at c.in_ok-take_payload_line.ensures.line in (
      c.loop-lines.invariant.0 ++ t.raw,
      c.in_ok-room-in-Some-false.ensures most c.loop-lines.invariant.0 t.raw c.loop-lines.invariant.1 (t.line c.in-Some-false.field-0-test [] (c.kept_for-line.ensures most)),
      walked-line c.args.bounds.now c.args.before c.loop-lines.lines _ c.args.source.now c.loop-lines.source c.take_payload_line.new.source most c.kept_for-line.result c.take_payload_line.new.kept c.in-Some-false.field-0 c.loop-lines.invariant.0 t (omega arith) c.in-Some-false.field-0-test c.loop-lines.invariant.2,
    )
