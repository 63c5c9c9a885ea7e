use Rattle.std.proofs.Common.{◌≡◌, ◌++◌, drop}
use Rattle.gq_command.specs.Commands.{column_names}
use Rattle.gq_plan.proofs.header.names_of.Given as goal

abbrev pub invariant-loop-column : goal.invariant-loop-column
invariant-loop-column l = l.names.items ++ column_names (drop l.column-index l.columns) ≡ column_names l.columns
