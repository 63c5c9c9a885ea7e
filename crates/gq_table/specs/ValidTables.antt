-- What is true of each table of an engine.
use Rattle.std.specs.Prelude.{◌≤◌, IsTrue, length}
use Rattle.std.specs.List.{list_all}
use Rattle.gq_row.specs.Tables.{PlainTable, keys_differ}
use Rattle.gq_row.specs.Schemas.{is_schema}
use Rattle.gq_row.specs.Fitting.{fits_columns}

-- a valid table: its schema is well-formed, the rows fit it, no two have the same key, and there are at most
-- 2^24
pub record IsValidTable (table : PlainTable) : Type 0 where
  pub schema : IsTrue (is_schema table.schema)
  pub fitting : IsTrue (list_all (fits_columns table.schema.columns) table.rows)
  pub keyed : IsTrue (keys_differ table.schema.key table.rows)
  pub few : length table.rows ≤ 16777216
