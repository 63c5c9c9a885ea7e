use Rattle.std.proofs.Common.{◌≡◌, ◌∙◌, length, map, slice_index_or, arith, rules}
use Rattle.gq_row.specs.declared.value.Value.TheVariants.{Null}
use Rattle.gq_table.proofs.SomeCellsLemmas.{agree_all, agree_next}
use Rattle.gq_table.proofs.column_store.write_some.Goals as goal

pub loop-i-init : goal.loop-i-init
loop-i-init c = record {
  size = c.requires.long;
  cells = λ k lt. absurd (omega (arith, lt));
}

pub loop-i-preserved : goal.loop-i-preserved
loop-i-preserved c =
    let there = map (λ cells. slice_index_or cells c.args.position Null) c.args.all.now in
    record {
      size = c.write_cell.ensures.long ∙ c.loop-i.invariant.size;
      cells = agree_next c.args.columns.now c.loop-i.row c.write_cell.new.row there c.loop-i.i c.loop-i.invariant.cells c.in_ok-write_cell.ensures.cell c.write_cell.ensures.others;
    }

pub returns-clause-cells : goal.returns-clause-cells
returns-clause-cells c =
    let there = map (λ cells. slice_index_or cells c.args.position Null) c.args.all.now in
    let all : length c.args.columns.now ≡ c.loop-i.i = search rules in
    agree_all c.args.columns.now c.loop-i.row there c.loop-i.i all c.loop-i.invariant.cells
