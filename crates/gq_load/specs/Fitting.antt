-- Rows that a table may hold.
use Rattle.std.specs.Prelude.{◌≤◌, IsTrue, not, List, length}
use Rattle.std.specs.List.{list_all}
use Rattle.gq_row.specs.declared.value.Value.{Value}
use Rattle.gq_row.specs.declared.limits.Bounds.{Bounds}
use Rattle.gq_row.specs.Fitting.{fits_columns, has_null}
use Rattle.gq_row.specs.Schemas.{PlainSchema}

-- rows that a table may take: each fits the columns and has its key, and they are not too many
pub record AreFit (schema : PlainSchema) (bounds : Bounds) (rows : List (List Value)) : Type 0 where
  pub fitting : IsTrue (list_all (fits_columns schema.columns) rows)
  pub keyed : IsTrue (list_all (λ row. not (has_null schema.key row)) rows)
  pub few : length rows ≤ bounds.rows
