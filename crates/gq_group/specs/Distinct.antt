-- How many distinct values the rows of each key have in a column.
use Rattle.std.specs.Prelude.{ℕ, pos, Bool, List, [], ◌∷◌, ◌++◌, map, IsPermutation}
use Rattle.std.specs.List.{list_all}
use Rattle.gq_row.specs.declared.value.Value.{Value}
use Rattle.gq_row.specs.declared.value.Value.TheVariants.{Int}
use Rattle.gq_row.specs.Tables.{of_key}
use Rattle.gq_agg.specs.Values.{different}
use Rattle.gq_group.specs.Groups.{Group, keys_of, column_of, has_columns}

-- a key, with the number of distinct values, without null, that its rows have in a column
abbrev pub distinct_group : List ℕ → ℕ → List (List Value) → List Value → Group
distinct_group by column rows key = (key, Int (pos (different (column_of column (of_key by rows key)))) ∷ [])

-- one such group for each key of the rows
abbrev pub distinct_groups : List ℕ → ℕ → List (List Value) → List Group
distinct_groups by column rows = map (distinct_group by column rows) (keys_of by rows)

-- these groups were added to a sink, in some order
abbrev pub PushesDistinct : List ℕ → ℕ → List (List Value) → (List Group → Type 0) → Type 0
PushesDistinct by column rows holds = (out : List Group) × IsPermutation (distinct_groups by column rows) out × holds out

-- some columns and one more
abbrev pub with_column : List ℕ → ℕ → List ℕ
with_column by column = by ++ column ∷ []

-- whether each row has these columns
abbrev pub all_have : List ℕ → List (List Value) → Bool
all_have columns rows = list_all (has_columns columns) rows
