use Rattle.std.proofs.Common.{◌≡◌, ◌++◌, take, drop}
use Rattle.gq_row.specs.Tables.{PlainTable}
use Rattle.gq_engine.specs.Databases.{table_at, with_table}
use Rattle.gq_engine.proofs.catalog.find_table.Given as goal

abbrev pub invariant-loop-i : goal.invariant-loop-i
invariant-loop-i g l = record {
  there : table_at l.tables l.name ≡ table_at (drop l.i l.tables) l.name;
  after : (table : PlainTable) → with_table l.tables l.name table ≡ take l.i l.tables ++ with_table (drop l.i l.tables) l.name table;
}
