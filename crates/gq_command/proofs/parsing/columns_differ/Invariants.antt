use Rattle.std.proofs.Common.{◌≡◌, true, take, bytes_eq}
use Rattle.gq_row.specs.Repeats.{no_repeats}
use Rattle.gq_command.specs.Commands.{column_names}
use Rattle.gq_command.proofs.Names.{Seen}
use Rattle.gq_command.proofs.parsing.columns_differ.Given as goal

abbrev pub invariant-loop-column : goal.invariant-loop-column
invariant-loop-column l = record {
  seen : Seen l.seen (column_names (take l.column-index l.columns));
  differ : no_repeats bytes_eq (column_names (take l.column-index l.columns)) ≡ true;
}
