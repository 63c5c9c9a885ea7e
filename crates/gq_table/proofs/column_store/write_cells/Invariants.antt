use Rattle.std.proofs.Common.{◌≡◌, ◌++◌, length, map, take, drop, slice_index_or}
use Rattle.gq_row.specs.declared.value.Value.TheVariants.{Null}
use Rattle.gq_table.proofs.column_store.write_cells.Given as goal

abbrev pub invariant-loop-i : goal.invariant-loop-i
invariant-loop-i l = record {
  size : length l.row ≡ length l.columns;
  written : take l.i l.row ++ map (λ column. slice_index_or column l.position Null) (drop l.i l.columns) ≡ map (λ column. slice_index_or column l.position Null) l.columns;
}
