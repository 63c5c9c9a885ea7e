-- Grouping sets: the lists of columns that one `group` groups rows by, and the result rows of all of them.
use Rattle.std.specs.Prelude.{ℕ, suc, pos, Bool, true, false, List, [], ◌∷◌, ◌++◌, ◌-◌, length, map, filter, take, drop, replicate, Option, option_map}
use Rattle.std.specs.List.{flat_map, range_with_len}
use Rattle.gq_row.specs.declared.value.Value.{Value}
use Rattle.gq_row.specs.declared.value.Value.TheVariants.{Null, Int}
use Rattle.gq_select.specs.Asking.{all_of}
use Rattle.gq_select.specs.declared.condition.Test.{Test}
use Rattle.gq_select.specs.declared.output_column.OutputColumn.{OutputColumn}
use Rattle.gq_select.specs.Truths.{keeps}
use Rattle.gq_query.specs.Answers.{answer, answer_having}

-- the levels of a rollup: from 0, which is the total, to the number of its columns
abbrev pub levels : List ℕ → List ℕ
levels by = range_with_len 0 (suc (length by))

-- the grouping sets: the columns themselves, or for a rollup the first `level` columns for each level
abbrev pub grouping_sets : Bool → List ℕ → List (List ℕ)
grouping_sets false by = by ∷ []
grouping_sets true by = map (λ level. take level by) (levels by)

-- a result row of the first `level` columns, with a null for each other column after its key
abbrev pub filled : ℕ → ℕ → List Value → List Value
filled level columns row = take level row ++ (replicate (columns - level) Null ++ drop level row)

-- the result rows of a level of a rollup: the groups by the first `level` columns, with nulls for the others, that `having` keeps; each begins with its level
abbrev pub level_rows : List ℕ → List OutputColumn → List Test → List (List Value) → ℕ → Option (List (List Value))
level_rows by shown having rows level =
    option_map (λ found. map (λ row. Int (pos level) ∷ row) (filter (keeps having) (map (filled level (length by)) found))) (answer (take level by) shown rows)

-- the result rows of some levels, level after level; `None` if a sum of one of them is out of range
abbrev pub rows_of_levels : List ℕ → List OutputColumn → List Test → List (List Value) → List ℕ → Option (List (List Value))
rows_of_levels by shown having rows levels = option_map (flat_map (λ rows. rows)) (all_of (map (level_rows by shown having rows) levels))

-- the result rows of a `group`
abbrev pub group_answer : Bool → List ℕ → List OutputColumn → List Test → List (List Value) → Option (List (List Value))
group_answer false by shown having rows = answer_having by shown having rows
group_answer true by shown having rows = rows_of_levels by shown having rows (levels by)
