use Rattle.gq_script.specs.Payloads.{TookPayloadLine}
use Rattle.gq_script.proofs.Collected.{within_lines, within_more, payload_closed, payload_open}
use Rattle.gq_script.proofs.payload.take_payload.Goals as goal

pub returns-in-Some-true-clause-taken : goal.returns-in-Some-true-clause-taken
returns-in-Some-true-clause-taken g c =
    let most = c.args.bounds.now.payload in
    let old = c.args.source.now in
    let mid = c.take_lines.new.source in
    let lines = within_lines most old c.loop.source mid c.loop.kept c.take_lines.new.kept c.loop.invariant.0 c.in_ok-take_lines.ensures c.loop.invariant.1 in
    let t : TookPayloadLine most mid c.take_payload_line.new.source c.take_lines.new.kept c.take_payload_line.new.kept c.in-Some-true.field-0 = rw c.in-Some-true.is at c.in_ok-take_payload_line.ensures.line in
    payload_closed most old mid c.take_payload_line.new.source c.take_lines.new.kept c.take_payload_line.new.kept c.in-Some-true.field-0 _ t lines c.in-Some-true.field-0-test

pub returns-in-None-clause-taken : goal.returns-in-None-clause-taken
returns-in-None-clause-taken g c =
    let most = c.args.bounds.now.payload in
    let old = c.args.source.now in
    let mid = c.take_lines.new.source in
    let lines = within_lines most old c.loop.source mid c.loop.kept c.take_lines.new.kept c.loop.invariant.0 c.in_ok-take_lines.ensures c.loop.invariant.1 in
    payload_open most old mid c.take_payload_line.new.source c.take_lines.new.kept _ lines (rw c.in-None.is at c.in_ok-take_payload_line.ensures.end)

pub loop-preserved : goal.loop-preserved
loop-preserved g c =
    let most = c.args.bounds.now.payload in
    let old = c.args.source.now in
    let mid = c.take_lines.new.source in
    let lines = within_lines most old c.loop.source mid c.loop.kept c.take_lines.new.kept c.loop.invariant.0 c.in_ok-take_lines.ensures c.loop.invariant.1 in
    let t : TookPayloadLine most mid c.take_payload_line.new.source c.take_lines.new.kept c.take_payload_line.new.kept c.in-Some-false.field-0 = rw c.in-Some-false.is at c.in_ok-take_payload_line.ensures.line in
    (_, within_more most old mid c.take_payload_line.new.source c.take_lines.new.kept c.take_payload_line.new.kept c.in-Some-false.field-0 _ t lines c.in-Some-false.field-0-test)
