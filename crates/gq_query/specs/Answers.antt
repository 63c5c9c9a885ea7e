-- The result rows of queries.
use Rattle.std.specs.Prelude.{◌&&◌, ℕ, pos, Bool, true, IsTrue, List, [], ◌∷◌, ◌++◌, map, filter, Option, None, Some, option_map}
use Rattle.std.specs.List.{list_all}
use Rattle.gq_row.specs.declared.schema.Column.{Column}
use Rattle.gq_row.specs.declared.value.Value.{Value}
use Rattle.gq_row.specs.declared.value.Value.TheVariants.{Int}
use Rattle.gq_row.specs.Ordered.{in_order}
use Rattle.gq_row.specs.Rows.{key_of}
use Rattle.gq_row.specs.Tables.{PlainTable, keys, of_key}
use Rattle.gq_agg.specs.Aggregates.{aggregate}
use Rattle.gq_agg.specs.Values.{different, least}
use Rattle.gq_group.specs.Groups.{keys_of, column_of}
use Rattle.gq_select.specs.Asking.{all_of, is_valid_for}
use Rattle.gq_select.specs.declared.condition.Test.{Test}
use Rattle.gq_select.specs.declared.matching.Matching.{Matching}
use Rattle.gq_select.specs.declared.output_column.OutputColumn.{OutputColumn}
use Rattle.gq_select.specs.declared.output_column.OutputColumn.TheVariants.{Aggregate, CountDistinct}
use Rattle.gq_select.specs.Matches.{is_matched}
use Rattle.gq_select.specs.Truths.{keeps}

-- whether a row has the match that is asked for among the other rows, if one is asked for
abbrev pub has_match : Option Matching → List (List Value) → List Value → Bool
has_match None others row = true
has_match (Some matching) others row = is_matched matching others row

-- the rows that a query is about: those that its condition keeps and that have the match
abbrev pub rows_kept : List Test → Option Matching → List (List Value) → List (List Value) → List (List Value)
rows_kept tests matching others rows = filter (λ row. keeps tests row && has_match matching others row) rows

-- these output columns can be shown of rows that fit the columns of a table
abbrev pub AreValid : List Column → List OutputColumn → Type 0
AreValid columns shown = IsTrue (list_all (is_valid_for columns) shown)

-- the value that is shown of a group's rows; `None` for a sum that is out of range
abbrev pub shown_value : OutputColumn → List (List Value) → Option Value
shown_value (Aggregate kind column) rows = aggregate kind (column_of column rows)
shown_value (CountDistinct column) rows = Some (Int (pos (different (column_of column rows))))

-- the key of some rows as it is shown: the least value in each of its columns, which is the least spelling of a text without case, and otherwise the one value that the rows have
abbrev pub shown_key : List ℕ → List (List Value) → List Value
shown_key by rows = map (λ column. least (column_of column rows)) by

-- a result row: the key as it is shown, and then the values shown of the rows that have it; `None` if a sum is out of range
abbrev pub result_row : List ℕ → List OutputColumn → List (List Value) → List Value → Option (List Value)
result_row by shown rows key = option_map (λ values. shown_key by (of_key by rows key) ++ values) (all_of (map (λ s. shown_value s (of_key by rows key)) shown))

-- the result rows of a `group`: one for each distinct key, in the order of the keys; `None` if a sum is out of range
abbrev pub answer : List ℕ → List OutputColumn → List (List Value) → Option (List (List Value))
answer by shown rows = all_of (map (result_row by shown rows) (in_order (λ key. key) (keys_of by rows)))

-- the result rows of a `group` that `having` keeps; `None` if a sum is out of range, whatever `having` says
abbrev pub answer_having : List ℕ → List OutputColumn → List Test → List (List Value) → Option (List (List Value))
answer_having by shown having rows = option_map (filter (keeps having)) (answer by shown rows)

-- the result rows of a `distinct`: the distinct keys in some columns, in order, each as it is shown; null is one key value
abbrev pub distinct_keys : List ℕ → List (List Value) → List (List Value)
distinct_keys on rows = map (λ key. shown_key on (of_key on rows key)) (in_order (λ key. key) (keys on rows))

-- what the rows of a table are ordered by: their keys, or all of their values if the table has no key
abbrev pub ordered_by : List ℕ → List Value → List Value
ordered_by [] row = row
ordered_by (column ∷ columns) row = key_of (column ∷ columns) row

-- the result rows of a `show`: all rows, in that order
abbrev pub rows_shown : PlainTable → List (List Value)
rows_shown table = in_order (ordered_by table.schema.key) table.rows
