use Rattle.std.proofs.Common.{◌≡◌, ◌++◌, map, drop}
use Rattle.std.specs.List.{enumerate_from}
use Rattle.gq_format.specs.Columns.{column_of, columns_of}
use Rattle.gq_format.proofs.column.columns_of.Given as goal

abbrev pub invariant-loop-place : goal.invariant-loop-place
invariant-loop-place l = l.columns.items ++ map (column_of l.rows) (enumerate_from l.place (drop l.place l.header)) ≡ columns_of l.header l.rows
