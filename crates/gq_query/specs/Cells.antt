-- The cells of a row that are passed on for grouping, and their positions.
use Rattle.std.specs.Prelude.{ℕ, Bool, List, [], ◌∷◌, ◌++◌, map, fold, nat_eq, position, unwrap_or, if◌then◌else◌}
use Rattle.std.specs.List.{list_any}
use Rattle.gq_agg.specs.declared.kind.AggKind.{AggKind}
use Rattle.gq_group.specs.Groups.{Spec, counts_all}
use Rattle.gq_select.specs.declared.output_column.OutputColumn.{OutputColumn}
use Rattle.gq_select.specs.declared.output_column.OutputColumn.TheVariants.{Aggregate, CountDistinct}

-- whether a column is one of these
abbrev pub is_used : List ℕ → ℕ → Bool
is_used columns column = list_any (λ other. nat_eq other column) columns

-- the columns, with one more unless it is among them
abbrev pub with_column : List ℕ → ℕ → List ℕ
with_column columns column = if is_used columns column then columns else columns ++ column ∷ []

-- the columns, with that of one more aggregate; count(*) needs none
abbrev pub with_agg : List ℕ → AggKind × ℕ → List ℕ
with_agg columns a = if counts_all a.0 then columns else with_column columns a.1

-- the columns that a grouping needs, each once
abbrev pub columns_used : Spec → List ℕ
columns_used spec = fold with_agg (fold with_column [] spec.by) spec.aggs

-- the position of a column's cell among the cells of some columns, of which it is one
abbrev pub place_of : List ℕ → ℕ → ℕ
place_of columns column = unwrap_or (position (λ other. nat_eq other column) columns) 0

abbrev pub placed_columns : List ℕ → List ℕ → List ℕ
placed_columns columns asked = map (λ column. place_of columns column) asked

-- the same aggregates, or the same grouping, over rows that hold only these cells
abbrev pub placed_aggs : List ℕ → List (AggKind × ℕ) → List (AggKind × ℕ)
placed_aggs columns aggs = map (λ a. (a.0, place_of columns a.1)) aggs

abbrev pub placed : List ℕ → Spec → Spec
placed columns spec = record { by = placed_columns columns spec.by; aggs = placed_aggs columns spec.aggs }

-- the aggregates among the shown columns, without counts of distinct values
abbrev pub aggs_of : List OutputColumn → List (AggKind × ℕ)
aggs_of [] = []
aggs_of (Aggregate kind column ∷ shown) = (kind, column) ∷ aggs_of shown
aggs_of (CountDistinct column ∷ shown) = aggs_of shown
