use Rattle.std.proofs.Common.{◌≡◌, length, map, slice_index_or}
use Rattle.gq_row.specs.declared.value.Value.TheVariants.{Null}
use Rattle.gq_table.proofs.SomeCellsLemmas.{AgreeUpTo}
use Rattle.gq_table.proofs.column_store.write_some.Given as goal

abbrev pub invariant-loop-i : goal.invariant-loop-i
invariant-loop-i l = record {
  size : length l.row ≡ length l.all;
  cells : AgreeUpTo l.i l.columns l.row (map (λ cells. slice_index_or cells l.position Null) l.all);
}
