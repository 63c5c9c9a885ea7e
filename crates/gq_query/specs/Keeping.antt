-- The rows that are kept, given the keys of the other rows in a set.
use Rattle.std.specs.Prelude.{◌≡◌, ◌<◌, ◌&&◌, ◌++◌, ℕ, Bool, true, not, All, List, [], length, filter, Option, None, Some, option_copied, if◌then◌else◌}
use Rattle.gq_row.specs.declared.value.Value.{Value}
use Rattle.gq_row.specs.Rows.{key_of}
use Rattle.gq_select.specs.declared.join.KeySet.{KeySet}
use Rattle.gq_select.specs.declared.condition.Condition.{Condition}
use Rattle.gq_select.specs.declared.matching.Matching.{Matching}
use Rattle.gq_select.specs.KeySets.{has}
use Rattle.gq_select.specs.Truths.{columns_of, keeps}
use Rattle.gq_query.specs.declared.row_filter.RowFilter.{RowFilter}
use Rattle.gq_query.specs.declared.query.Query.{Query}

-- the columns of a row that a match compares
abbrev pub ours_of : Option Matching → List ℕ
ours_of None = []
ours_of (Some matching) = matching.ours

-- the columns of a row that a condition and a match read
abbrev pub columns_read : Condition → Option Matching → List ℕ
columns_read condition matching = columns_of condition.tests ++ ours_of matching

-- whether a row has the match that is asked for, if any, among the rows whose keys are in a set
abbrev pub is_found : {H : Type 0} → Option Matching → KeySet H → List Value → Bool
is_found None keys row = true
is_found (Some matching) keys row = if matching.negated then not (has keys (key_of matching.ours row)) else has keys (key_of matching.ours row)

abbrev pub is_kept : {H : Type 0} → RowFilter H → List Value → Bool
is_kept kept row = keeps kept.condition.now.tests row && is_found (option_copied kept.matching) kept.keys.now row

-- the columns of a filter are those that its condition and its match read
abbrev pub ReadsAll : {H : Type 0} → RowFilter H → Type 0
ReadsAll kept = kept.columns.now ≡ columns_read kept.condition.now (option_copied kept.matching)

-- each of the rows has these columns
abbrev pub AreLong : List ℕ → List (List Value) → Type 0
AreLong columns rows = All (λ row. All (λ column. column < length row) columns) rows

-- the rows of a query's table that are kept
abbrev pub kept_rows : {H : Type 0} → Query H → List (List Value)
kept_rows query = filter (is_kept query.kept.now) query.table.now.rows

-- the columns that a query groups by, and those that it compares for a match, are columns of its table; its filter reads all that it needs
pub record HasColumns {H : Type 0} (query : Query H) : Type 0 where
  pub by : All (λ column. column < length query.table.now.schema.columns) query.by.now
  pub ours : All (λ column. column < length query.table.now.schema.columns) (ours_of (option_copied query.kept.now.matching))
  pub reads : ReadsAll query.kept.now
