use Rattle.std.proofs.Common.{◌≡◌, ◌<◌, ◌∙◌, ◌++◌, [], length, drop, slice_index_or, refl, sym, arith}
use Rattle.std.proofs.lemmas.List.{get_or_default, length-set}
use Rattle.gq_cells.proofs.RowsLemmas.{left_next, left_there}
use Rattle.gq_table.proofs.ColumnStoreLemmas.{behind_all, behind_step, kept_start, kept_step}
use Rattle.gq_table.proofs.column_store.append_columns.Goals as goal

pub loop-i-init : goal.loop-i-init
loop-i-init c = record {
  size = c.requires.all;
  same = refl;
  left = refl;
  appended = refl;
  kept = λ n h. kept_start n c.args.columns.now h;
}

pub loop-i-preserved : goal.loop-i-preserved
loop-i-preserved c =
    let i = c.loop-i.i in
    let columns = c.loop-i.columns in
    let more = c.args.more.now in
    let cells = c.append.new.self in
    let inv = c.loop-i.invariant in
    let lt : i < length columns = omega (arith, c.loop-i-test.true, inv.same) in
    let long : length more ≡ length columns = c.requires.all ∙ sym inv.same in
    let lt-more : i < length c.args.more.now = omega (arith, lt, long) in
    let is : cells ≡ slice_index_or columns i [] ++ slice_index_or c.args.more.now i [] =
    c.in_ok-append.ensures.appended
    ∙ (λ z. get_or_default columns i c.index-columns-i.result [] lt z ++ (c.replace-cells.ensures.value ∙ left_there c.loop-i.more c.args.more.now i c.index-more-i.result c.loop-i.invariant.left ∙ get_or_default c.args.more.now i c.index-more-i.result [] lt-more) z) in
    record {
      size = omega (arith, inv.size, length-set c.loop-i.more i c.replace-cells.new.dest, length-set columns i cells);
      same = length-set columns i cells ∙ inv.same;
      left = left_next c.loop-i.more c.args.more.now i c.replace-cells.new.dest inv.left;
      appended = behind_step columns more i cells lt long is ∙ inv.appended;
      kept = λ n h. kept_step n columns c.args.columns.now i cells (slice_index_or more i []) (inv.kept n h) h lt is;
    }

pub returns-clause-appended : goal.returns-clause-appended
returns-clause-appended c =
    sym (behind_all c.loop-i.columns (drop c.loop-i.i c.args.more.now) c.loop-i.i (omega (arith, c.loop-i-test.false, c.loop-i.invariant.same))) ∙ c.loop-i.invariant.appended
