use Rattle.std.proofs.Common.{◌≡◌, length, drop}
use Rattle.gq_load.specs.declared.short_records.Short.TheVariants.{Completed}
use Rattle.gq_load.specs.Payloads.{cells_of, completed}
use Rattle.gq_load.proofs.Filling.{finished}
use Rattle.gq_load.proofs.row.write_each.Given as goal

abbrev pub invariant-loop-i : goal.invariant-loop-i
invariant-loop-i l = record {
  size : length l.cells ≡ length l.columns;
  finishes : finished l.longest l.number l.columns (drop l.i l.places) (drop l.i (completed Completed (length l.places) l.byte_record)) l.cells ≡ cells_of l.longest l.number l.columns l.places (completed Completed (length l.places) l.byte_record);
}
