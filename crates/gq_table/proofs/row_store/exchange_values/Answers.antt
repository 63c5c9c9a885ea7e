use Rattle.std.proofs.Common.{◌∙◌, arith}
use Rattle.gq_cells.proofs.RowsLemmas.{left_next, left_there}
use Rattle.gq_table.proofs.ColumnStoreLemmas.{written_next}
use Rattle.gq_table.proofs.row_store.exchange_values.Goals as goal

pub loop-i-preserved : goal.loop-i-preserved
loop-i-preserved c =
    let i = c.loop-i.i in
    let invariant = c.loop-i.invariant in
    let as_long = c.requires in
    let test = c.loop-i-test.true in
    let same_values = c.loop-i.auto.values in
    let same_others = c.loop-i.auto.others in
    let value = c.exchange_value.ensures.value ∙ left_there c.loop-i.others c.args.others.now i c.index-others-i.result invariant.others_left in
    let other = c.exchange_value.ensures.other ∙ left_there c.loop-i.values c.args.values.now i c.index-values-i.result invariant.values_left in
    record {
      values = written_next c.loop-i.values c.args.others.now i c.exchange_value.new.value c.index-others-i.result (omega arith) (omega arith) invariant.values value;
      values_left = left_next c.loop-i.values c.args.values.now i c.exchange_value.new.value invariant.values_left;
      others = written_next c.loop-i.others c.args.values.now i c.exchange_value.new.other c.index-values-i.result (omega arith) (omega arith) invariant.others other;
      others_left = left_next c.loop-i.others c.args.others.now i c.exchange_value.new.other invariant.others_left;
    }
