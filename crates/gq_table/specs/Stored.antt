-- How the rows of a table are stored.
use Rattle.std.specs.Prelude.{List, [], ◌∷◌, ℕ}
use Rattle.gq_row.specs.declared.value.Value.{Value}
use Rattle.gq_row.specs.Schemas.{PlainSchema}
use Rattle.gq_table.specs.declared.rows.Storage.{Storage}
use Rattle.gq_table.specs.declared.rows.Storage.TheVariants.{Keyed, Columnar}
use Rattle.gq_table.specs.Keyed.{OwnKeys}
use Rattle.gq_table.specs.ValidTables.{IsValidTable}

-- the rows of a table, in either layout; those with keys are in the order of the index
abbrev pub rows_of : {H : Type 0} → Storage H → List (List Value)
rows_of (Keyed m) = m.rows
rows_of (Columnar rows) = rows

-- with key columns the rows are stored with an index of their keys, and without by columns
abbrev pub ArePlaced : {H : Type 0} → List ℕ → Storage H → Type 0
ArePlaced [] (Keyed m) = ⊥
ArePlaced [] (Columnar rows) = Unit {0}
ArePlaced (column ∷ columns) (Keyed m) = OwnKeys (column ∷ columns) m
ArePlaced (column ∷ columns) (Columnar rows) = ⊥

pub record IsStored {H : Type 0} (schema : PlainSchema) (rows : Storage H) : Type 0 where
  pub valid : IsValidTable (record { schema = schema; rows = rows_of rows })
  pub placed : ArePlaced schema.key rows
