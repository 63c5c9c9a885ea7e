-- What a table takes.
use Rattle.std.specs.Prelude.{◌&&◌, ◌∷◌, [], ℕ, Bool, true, false, not, List, length, nat_le, Result, Ok}
use Rattle.std.specs.List.{list_any}
use Rattle.gq_row.specs.declared.value.Value.{Value}
use Rattle.gq_row.specs.declared.schema.Column.{Column}
use Rattle.gq_row.specs.declared.limits.Bounds.{Bounds}
use Rattle.gq_row.specs.Fitting.{fits_columns, goes_in, has_null, is_null, stored}
use Rattle.gq_row.specs.Schemas.{PlainSchema}
use Rattle.gq_row.specs.Tables.{PlainTable, put, put_all}
use Rattle.gq_load.specs.Payloads.{kind_at}
use Rattle.gq_command.specs.Commands.{some}
use Rattle.gq_reply.specs.declared.refusal.Refusal.{Refusal}
use Rattle.gq_reply.specs.declared.refusal.Refusal.TheVariants.{TypeMismatch, NoKey, NullKey, SumRange, Limit, Memory, StoreFault, Damaged}
use Rattle.gq_reply.specs.declared.refusal.Refused.{Refused}
use Rattle.gq_table.specs.declared.refusal.TableRefusal.{TableRefusal}
use Rattle.gq_table.specs.declared.refusal.TableRefusal.TheVariants as untaken
use Rattle.gq_group.specs.declared.refusal.Refusal.{Refusal as GroupRefusal}
use Rattle.gq_group.specs.declared.refusal.Refusal.TheVariants as ungrouped
use Rattle.gq_reply.specs.Outcomes.{◌>>=◌, true_or}

-- whether a row has null in a key column
abbrev pub has_null_key : PlainTable → List Value → Bool
has_null_key table row = has_null table.schema.key row

-- the rows of a table after a row was put
abbrev pub rows_with : PlainTable → List Value → List (List Value)
rows_with table row = put table.schema.key table.rows row

-- those rows, where the table takes the row
abbrev pub put_within : Bounds → PlainTable → List Value → Result (List (List Value)) Refused
put_within limits table row = do
  fitting ← true_or TypeMismatch (fits_columns table.schema.columns row)
  keyed ← true_or NullKey (not (has_null_key table row))
  few ← true_or Limit (nat_le (length (rows_with table row)) limits.rows)
  Ok (rows_with table row)

-- the rows of a table after rows were put, one after the other, where they are few enough
abbrev pub put_all_within : Bounds → PlainTable → List (List Value) → Result (List (List Value)) Refused
put_all_within limits table new = do
  few ← true_or Limit (nat_le (length (put_all table.schema.key table.rows new)) limits.rows)
  Ok (put_all table.schema.key table.rows new)

-- values in the order of a key, each as its column stores it
abbrev pub stored_key : List Column → List ℕ → List Value → List Value
stored_key columns [] values = values
stored_key columns (position ∷ positions) [] = []
stored_key columns (position ∷ positions) (value ∷ values) = stored (kind_at columns position) value ∷ stored_key columns positions values

-- there is a value for each key column, and each has its column's kind or is null
abbrev pub fits_key : List Column → List ℕ → List Value → Bool
fits_key columns [] [] = true
fits_key columns [] (value ∷ values) = false
fits_key columns (position ∷ positions) [] = false
fits_key columns (position ∷ positions) (value ∷ values) = goes_in (kind_at columns position) value && fits_key columns positions values

-- nothing where values are a key of the table, or why they are none
abbrev pub key_within : PlainSchema → List Value → Result (Unit {0}) Refused
key_within schema key = do
  keyed ← true_or NoKey (some schema.key)
  fitting ← true_or TypeMismatch (fits_key schema.columns schema.key key)
  true_or NullKey (not (list_any is_null key))

-- a table's refusal, as that of a command
abbrev pub table_refusal : TableRefusal → Refusal
table_refusal untaken.TypeMismatch = TypeMismatch
table_refusal untaken.NullKey = NullKey
table_refusal untaken.Limit = Limit
table_refusal untaken.Memory = Memory

-- a grouping's refusal, as that of a command
abbrev pub group_refusal : GroupRefusal → Refusal
group_refusal ungrouped.SumRange = SumRange
group_refusal ungrouped.Memory = Memory
group_refusal ungrouped.StoreFault = StoreFault
group_refusal ungrouped.Damaged = Damaged
