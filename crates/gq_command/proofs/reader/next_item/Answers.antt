use Rattle.std.proofs.Common.{◌≡◌, ◌∙◌, sym, true, false, subst}
use Rattle.gq_script.specs.Script.{Loading, content, is_skipped, takes_payload}
use Rattle.gq_script.specs.Gathering.{TookLine}
use Rattle.gq_command.specs.Items.{IsReadAs, IsReady}
use Rattle.gq_command.proofs.Loaded.{loaded, ready_with}
use Rattle.gq_command.proofs.Passing.{passed_line, passed_to, passed_load, passed_all}
use Rattle.gq_command.proofs.reader.next_item.Goals as goal

pub loop-preserved : goal.loop-preserved
loop-preserved g c =
    let l = c.args.limits.now.bounds in
    let t : TookLine l c.loop.source c.take_line.new.source c.in-Some.line = rw c.in-Some.is at c.in_ok-line.ensures.line in
    let e : is_skipped (content t.raw) ≡ true = sym (c.is_skipped.ensures l.line (content t.raw) t.gathers) ∙ c.if-not-is_skipped.false in
    passed_line l c.args.source.now c.loop.source c.take_line.new.source c.in-Some.line t c.loop.invariant e

pub returns-in_default-clause-end : goal.returns-in_default-clause-end
returns-in_default-clause-end g c =
    let h = rw c.in_default.is at c.in_ok-line.ensures.end in
    (passed_all c.args.limits.now.bounds c.args.source.now c.loop.source c.take_line.new.source c.loop.invariant h.0 h.1).0

pub returns-then-not-loads-clause-item : goal.returns-then-not-loads-clause-item
returns-then-not-loads-clause-item g c =
    let l = c.args.limits.now.bounds in
    let t : TookLine l c.loop.source c.take_line.new.source c.in-Some.line = rw c.in-Some.is at c.in_ok-line.ensures.line in
    let e : is_skipped (content t.raw) ≡ false = sym (c.is_skipped.ensures l.line (content t.raw) t.gathers) ∙ c.if-not-is_skipped.true in
    let q : takes_payload l (content t.raw) ≡ false = sym (c.takes_payload-loads.ensures l (content t.raw) t.gathers) ∙ c.if-not-loads.true in
    (passed_to l c.args.source.now c.loop.source c.take_line.new.source c.in-Some.line t c.lines.result c.item_of-item.new.wrong c.item_of-item.result c.lines.ensures c.item_of-item.ensures.kept c.loop.invariant e q (c.item_of-item.ensures.reads (content t.raw) t.gathers e)).0

pub returns-then-not-loads-clause-counted : goal.returns-then-not-loads-clause-counted
returns-then-not-loads-clause-counted g c =
    let l = c.args.limits.now.bounds in
    let t : TookLine l c.loop.source c.take_line.new.source c.in-Some.line = rw c.in-Some.is at c.in_ok-line.ensures.line in
    let e : is_skipped (content t.raw) ≡ false = sym (c.is_skipped.ensures l.line (content t.raw) t.gathers) ∙ c.if-not-is_skipped.true in
    let q : takes_payload l (content t.raw) ≡ false = sym (c.takes_payload-loads.ensures l (content t.raw) t.gathers) ∙ c.if-not-loads.true in
    (passed_to l c.args.source.now c.loop.source c.take_line.new.source c.in-Some.line t c.lines.result c.item_of-item.new.wrong c.item_of-item.result c.lines.ensures c.item_of-item.ensures.kept c.loop.invariant e q (c.item_of-item.ensures.reads (content t.raw) t.gathers e)).1

pub returns-then-not-is_skipped-clause-item : goal.returns-then-not-is_skipped-clause-item
returns-then-not-is_skipped-clause-item g c =
    let l = c.args.limits.now.bounds in
    let t : TookLine l c.loop.source c.take_line.new.source c.in-Some.line = rw c.in-Some.is at c.in_ok-line.ensures.line in
    let e : is_skipped (content t.raw) ≡ false = sym (c.is_skipped.ensures l.line (content t.raw) t.gathers) ∙ c.if-not-is_skipped.true in
    let q : takes_payload l (content t.raw) ≡ true = sym (c.takes_payload-loads.ensures l (content t.raw) t.gathers) ∙ c.if-not-loads.false in
    (passed_load l c.args.source.now c.loop.source c.take_line.new.source c.take_payload.new.source c.in-Some.line t c.lines.result c.item_of-item.new.wrong c.in-Ok.kept c.with_payload.result c.lines.ensures c.item_of-item.ensures.kept c.loop.invariant e q c.in-Ok.ensures.taken
    (λ given s. subst (IsReadAs l (Loading (content t.raw) given)) (sym c.with_payload.ensures) (loaded l (content t.raw) given c.payload_of.result c.item_of-item.result q (c.item_of-item.ensures.reads (content t.raw) t.gathers e) (c.payload_of.ensures l.payload given s)))).0

pub returns-then-not-is_skipped-clause-counted : goal.returns-then-not-is_skipped-clause-counted
returns-then-not-is_skipped-clause-counted g c =
    let l = c.args.limits.now.bounds in
    let t : TookLine l c.loop.source c.take_line.new.source c.in-Some.line = rw c.in-Some.is at c.in_ok-line.ensures.line in
    let e : is_skipped (content t.raw) ≡ false = sym (c.is_skipped.ensures l.line (content t.raw) t.gathers) ∙ c.if-not-is_skipped.true in
    let q : takes_payload l (content t.raw) ≡ true = sym (c.takes_payload-loads.ensures l (content t.raw) t.gathers) ∙ c.if-not-loads.false in
    (passed_load l c.args.source.now c.loop.source c.take_line.new.source c.take_payload.new.source c.in-Some.line t c.lines.result c.item_of-item.new.wrong c.in-Ok.kept c.with_payload.result c.lines.ensures c.item_of-item.ensures.kept c.loop.invariant e q c.in-Ok.ensures.taken
    (λ given s. subst (IsReadAs l (Loading (content t.raw) given)) (sym c.with_payload.ensures) (loaded l (content t.raw) given c.payload_of.result c.item_of-item.result q (c.item_of-item.ensures.reads (content t.raw) t.gathers e) (c.payload_of.ensures l.payload given s)))).1

pub returns-then-not-is_skipped-clause-ready : goal.returns-then-not-is_skipped-clause-ready
returns-then-not-is_skipped-clause-ready g c =
    let b = c.args.limits.now.bounds in
    subst (IsReady b) (sym c.with_payload.ensures) (ready_with b c.payload_of.result c.item_of-item.result c.item_of-item.ensures.ready)
