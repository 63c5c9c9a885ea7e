use Rattle.std.proofs.Common.{◌≡◌, ◌++◌, ◌∙◌, ◌<◌, length, map, ap, slice_set, rules, arith}
use Rattle.std.proofs.lemmas.Grind.{common_steps}
use Rattle.gq_cells.specs.Lists.{moved, row_at}
use Rattle.gq_cells.proofs.RowsLemmas.{one_moved, rows_appended, spans_appended}
use Rattle.gq_cells.proofs.rows.Rows.append.Goals as goal

pub loop-i-preserved : goal.loop-i-preserved
loop-i-preserved c =
    let spans = c.more.inside.spans.items in
    let element = c.index.result.now in
    let within : c.loop-i.i < length spans = grind (arith, common_steps) in
    ap (slice_set c.loop-i.spans.items c.loop-i.i) c.in_ok-spans.ensures.moved
    ∙ one_moved c.len-start.result spans c.loop-i.spans.items c.loop-i.i element element within c.loop-i.invariant c.index.ensures

pub invariant_of-self-2 : goal.invariant_of-self-2
invariant_of-self-2 c =
    let xs = c.self.inside.cells in
    let ys = c.more.inside.cells in
    let cells : c.append.new.self ≡ xs ++ ys = search rules in
    let spans : c.append-2.new.self.items ≡ c.self.inside.spans.items ++ map (moved (length xs)) c.more.inside.spans.items = grind (arith, common_steps) in
    spans_appended xs ys _ _ _ _ cells spans c.self.invariant c.more.invariant

pub returns-clause-appended : goal.returns-clause-appended
returns-clause-appended c =
    let xs = c.self.inside.cells in
    let ys = c.more.inside.cells in
    let old = c.self.inside.spans.items in
    let more = c.more.inside.spans.items in
    let cells : c.append.new.self ≡ xs ++ ys = search rules in
    let spans : c.append-2.new.self.items ≡ old ++ map (moved (length xs)) more = grind (arith, common_steps) in
    (λ i. map (row_at (cells i)) (spans i))
    ∙ rows_appended xs ys old more c.self.invariant
    ∙ (λ i. c.self.view_is i ++ c.more.view_is i)
