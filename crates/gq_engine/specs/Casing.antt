-- Tables without columns of texts without case: they store what they are given.
use Rattle.std.specs.Prelude.{◌≡◌, Bool, true, false, IsTrue, List}
use Rattle.std.specs.List.{list_all}
use Rattle.gq_row.specs.declared.value.Value.{Value}
use Rattle.gq_row.specs.declared.schema.Kind.{Kind}
use Rattle.gq_row.specs.declared.schema.Kind.TheVariants as kind
use Rattle.gq_row.specs.declared.schema.Column.{Column}
use Rattle.gq_row.specs.Fitting.{stored_in}
use Rattle.gq_row.specs.Folding.{has_case}
use Rattle.gq_row.specs.Schemas.{PlainSchema}
use Rattle.gq_engine.specs.Steps.{key_named}

-- whether values of a kind that differ in case are distinct: of each kind but texts without case
abbrev pub keeps_case : Kind → Bool
keeps_case kind.Int = true
keeps_case kind.Text = true
keeps_case kind.NoCase = false

-- where no column is of texts without case, an upsert puts the values that it is given, and a delete names the key by its values
pub record StoresAsGiven : Type 0 where
  pub row : (columns : List Column) (values : List Value) → IsTrue (list_all (λ (column : Column). keeps_case column.kind) columns) → stored_in columns values ≡ values
  pub key : (schema : PlainSchema) (values : List Value) → IsTrue (list_all (λ (column : Column). keeps_case column.kind) schema.columns) → IsTrue (list_all has_case values) → key_named schema values ≡ values
