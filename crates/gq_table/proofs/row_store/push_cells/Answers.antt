use Rattle.std.proofs.Common.{◌<◌, ◌∙◌, arith, length, length-set}
use Rattle.std.proofs.lemmas.List.{get_or_default}
use Rattle.gq_row.specs.declared.value.Value.TheVariants.{Null}
use Rattle.gq_cells.proofs.RowsLemmas.{left_next, left_there}
use Rattle.gq_table.proofs.RowStoreLemmas.{cell_behind}
use Rattle.gq_table.proofs.row_store.push_cells.Goals as goal

pub loop-value-preserved : goal.loop-value-preserved
loop-value-preserved c =
    let i = c.loop-value.value-index in
    let old = c.args.row.now in
    let now = c.loop-value.value-items in
    let within : i < length now = omega (arith, c.loop-value-test.true, c.loop-value.auto.value-items, c.loop-value.auto.value-index-end) in
    let same : i < length old = omega (arith, within, c.loop-value.auto.value-items) in
    let value = c.replace.ensures.value ∙ get_or_default now i c.value-item.result Null within ∙ left_there now old i Null c.loop-value.invariant.left in
    record {
      pushed = cell_behind c.reserve.new.self.items old c.loop-value.cells.items c.push_reserved.new.self.items i c.replace.result same c.loop-value.invariant.pushed c.push_reserved.ensures.items value;
      left = left_next now old i c.replace.new.dest c.loop-value.invariant.left;
      room = omega (arith, c.loop-value.invariant.room, within, c.push_reserved.ensures.len, c.push_reserved.ensures.capacity, length-set now i c.replace.new.dest);
    }
