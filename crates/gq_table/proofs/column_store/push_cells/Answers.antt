use Rattle.std.proofs.Common.{◌≡◌, ◌<◌, ◌∙◌, ◌++◌, ◌∷◌, [], length, map, drop, slice_index_or, refl, sym, ap, arith}
use Rattle.std.proofs.lemmas.List.{get_or_default, get_or-map, length-map, length-set}
use Rattle.gq_table.specs.Columns.{alone}
use Rattle.gq_cells.proofs.RowsLemmas.{left_next, left_there}
use Rattle.gq_table.proofs.ColumnStoreLemmas.{behind_all, behind_step, kept_start, kept_step}
use Rattle.gq_table.proofs.column_store.push_cells.Goals as goal

pub loop-i-init : goal.loop-i-init
loop-i-init c = record {
  size = c.requires.all;
  same = refl;
  left = refl;
  pushed = refl;
  kept = λ n h. kept_start n c.args.columns.now h;
}

pub loop-i-preserved : goal.loop-i-preserved
loop-i-preserved c =
    let i = c.loop-i.i in
    let columns = c.loop-i.columns in
    let more = (map alone c.args.row.now) in
    let cells = c.push.new.self in
    let inv = c.loop-i.invariant in
    let lt : i < length columns = omega (arith, c.loop-i-test.true, inv.same) in
    let long : length more ≡ length columns = length-map c.args.row.now alone ∙ c.requires.all ∙ sym inv.same in
    let lt-row : i < length c.args.row.now = omega (arith, lt, inv.same, c.requires.all) in
    let is : cells ≡ slice_index_or columns i [] ++ slice_index_or (map alone c.args.row.now) i [] =
    c.in_ok-push.ensures.pushed
    ∙ (λ z. get_or_default columns i c.index-columns-i.result [] lt z ++ (left_there c.loop-i.row c.args.row.now i c.index-row-i.result c.loop-i.invariant.left z) ∷ [])
    ∙ ap (λ l. slice_index_or columns i [] ++ l) (sym (get_or-map alone c.args.row.now i c.index-row-i.result [] lt-row)) in
    record {
      size = omega (arith, inv.size, length-set c.loop-i.row i c.push.new.value, length-set columns i cells);
      same = length-set columns i cells ∙ inv.same;
      left = left_next c.loop-i.row c.args.row.now i c.push.new.value inv.left;
      pushed = behind_step columns more i cells lt long is ∙ inv.pushed;
      kept = λ n h. kept_step n columns c.args.columns.now i cells (slice_index_or more i []) (inv.kept n h) h lt is;
    }

pub returns-clause-pushed : goal.returns-clause-pushed
returns-clause-pushed c =
    sym (behind_all c.loop-i.columns (drop c.loop-i.i (map alone c.args.row.now)) c.loop-i.i (omega (arith, c.loop-i-test.false, c.loop-i.invariant.same))) ∙ c.loop-i.invariant.pushed
