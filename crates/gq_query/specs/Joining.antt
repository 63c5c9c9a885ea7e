-- Groups in the order of their keys, while their shown values are put together.
use Rattle.std.specs.Prelude.{◌≡◌, ℕ, List, [], ◌∷◌, ◌++◌, map, take, drop, insert, slice_index_or, Option, option_map}
use Rattle.gq_row.specs.declared.value.Value.{Value}
use Rattle.gq_row.specs.declared.value.Value.TheVariants.{Null}
use Rattle.gq_row.specs.Ordered.{in_order}
use Rattle.gq_row.specs.Tables.{keys, of_key}
use Rattle.gq_group.specs.Groups.{Group, keys_of, answered}
use Rattle.gq_select.specs.Asking.{all_of}
use Rattle.gq_select.specs.declared.output_column.OutputColumn.{OutputColumn}
use Rattle.gq_select.specs.declared.output_column.OutputColumn.TheVariants.{Aggregate, CountDistinct}
use Rattle.gq_query.specs.Answers.{shown_value}

-- a key, with the values shown of the rows that have it
abbrev pub shown_of : List ℕ → List OutputColumn → List (List Value) → List Value → List Value × List (Option Value)
shown_of by shown rows key = (key, map (λ s. shown_value s (of_key by rows key)) shown)

-- these are the groups of the rows in the order of their keys, each with its shown values
abbrev pub AreShown : List ℕ → List OutputColumn → List (List Value) → List Group → Type 0
AreShown by shown rows out = map answered out ≡ map (shown_of by shown rows) (in_order (λ key. key) (keys_of by rows))

-- the shown columns without counts of distinct values
abbrev pub aggregates_of : List OutputColumn → List OutputColumn
aggregates_of [] = []
aggregates_of (Aggregate kind column ∷ shown) = Aggregate kind column ∷ aggregates_of shown
aggregates_of (CountDistinct column ∷ shown) = aggregates_of shown

-- the first `i` shown columns, and the aggregates among the others
abbrev pub so_far : ℕ → List OutputColumn → List OutputColumn
so_far i shown = take i shown ++ aggregates_of (drop i shown)

-- the only value of a count's group
abbrev pub first_of : Group → Value
first_of g = slice_index_or g.1 0 Null

-- the groups, each with its count inserted at this position among its values
abbrev pub joined : ℕ → List Group → List Group → List Group
joined place [] counts = []
joined place (g ∷ groups) [] = g ∷ groups
joined place (g ∷ groups) (c ∷ counts) = (g.0, insert g.1 place (first_of c)) ∷ joined place groups counts

-- the result row of a group
abbrev pub row_of : Group → List Value
row_of g = g.0 ++ g.1

-- ---- answers whose keys hold folds

abbrev pub folded_row : List ℕ → List OutputColumn → List (List Value) → List Value → Option (List Value)
folded_row by shown rows key = option_map (λ values. key ++ values) (all_of (map (λ s. shown_value s (of_key by rows key)) shown))

abbrev pub folded_answer : List ℕ → List OutputColumn → List (List Value) → Option (List (List Value))
folded_answer by shown rows = all_of (map (folded_row by shown rows) (in_order (λ key. key) (keys_of by rows)))

abbrev pub folded_keys : List ℕ → List (List Value) → List (List Value)
folded_keys on rows = in_order (λ key. key) (keys on rows)
