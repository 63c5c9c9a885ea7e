-- Why a table refuses rows.
use Rattle.std.specs.Prelude.{◌≡◌, ◌⊎◌, ◌+◌, ◌<◌, ◌≤◌, Bool, false, not, ℕ, List, [], ◌∷◌, length, if◌then◌else◌, nat_lt, Option, Some, None}
use Rattle.gq_row.specs.declared.value.Value.{Value}
use Rattle.gq_row.specs.declared.limits.Bounds.{Bounds}
use Rattle.gq_row.specs.Fitting.{fits_columns, has_null}
use Rattle.gq_row.specs.Rows.{key_of}
use Rattle.gq_row.specs.Tables.{PlainTable, put, put_all, has_row}
use Rattle.gq_table.specs.declared.refusal.TableRefusal.{TableRefusal}
use Rattle.gq_table.specs.declared.refusal.TableRefusal.TheVariants.{TypeMismatch, NullKey, Limit, Memory}

-- `Limit` if there would be more rows than the limit
abbrev pub limit_refusal : ℕ → List (List Value) → Option TableRefusal
limit_refusal most rows = if nat_lt most (length rows) then Some Limit else None

-- `TypeMismatch` if the values don't fit the columns, else `NullKey` if a key column's is null, else `Limit` if
-- there would be too many rows
abbrev pub row_refusal : Bounds → PlainTable → List Value → Option TableRefusal
row_refusal bounds table row =
    if not (fits_columns table.schema.columns row) then Some TypeMismatch
    else if has_null table.schema.key row then Some NullKey
    else limit_refusal bounds.rows (put table.schema.key table.rows row)

-- `Limit` if a load of rows, which fit and have no null in their keys, would make too many rows
abbrev pub load_refusal : Bounds → PlainTable → List (List Value) → Option TableRefusal
load_refusal bounds table rows = limit_refusal bounds.rows (put_all table.schema.key table.rows rows)

-- the number of rows once a row is put among rows with key columns
abbrev pub rows_with : List ℕ → List (List Value) → List Value → ℕ
rows_with key rows row = if has_row key rows (key_of key row) then length rows else length rows + 1

-- a row would replace another; without key columns none does
abbrev pub replaces : List ℕ → List (List Value) → List Value → Bool
replaces [] rows row = false
replaces (column ∷ columns) rows row = has_row (column ∷ columns) rows (key_of (column ∷ columns) row)

-- a row is refused with this reason: the table's own, or else `Memory`, but only if it would replace no row
abbrev pub WhyNotPut : Bounds → PlainTable → List Value → TableRefusal → Type 0
WhyNotPut bounds table row why =
    (row_refusal bounds table row ≡ Some why)
    ⊎ ((why ≡ Memory) × (row_refusal bounds table row ≡ None) × (replaces table.schema.key table.rows row ≡ false))

-- a row is refused with this reason by a keyed store: `Limit`, or else `Memory`, but only if it would replace
-- no row
abbrev pub WhyNotKeyed : ℕ → List ℕ → List (List Value) → List Value → TableRefusal → Type 0
WhyNotKeyed most key rows row why =
    ((why ≡ Limit) × (most < rows_with key rows row))
    ⊎ ((why ≡ Memory) × (rows_with key rows row ≤ most) × (has_row key rows (key_of key row) ≡ false))

-- a load is refused with this reason: the table's own, or `Memory`
abbrev pub WhyNotLoaded : Bounds → PlainTable → List (List Value) → TableRefusal → Type 0
WhyNotLoaded bounds table rows why = (load_refusal bounds table rows ≡ Some why) ⊎ (why ≡ Memory)
