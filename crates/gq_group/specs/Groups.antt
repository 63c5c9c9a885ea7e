-- What the groups of some rows are.
use Rattle.std.specs.Prelude.{◌≡◌, ◌||◌, ◌&&◌, ℕ, All, Bool, true, false, List, [], ◌∷◌, length, map, nat_lt, Option, Some, None, IsPermutation}
use Rattle.std.specs.List.{list_all, list_any}
use Rattle.gq_row.specs.declared.value.Value.{Value}
use Rattle.gq_row.specs.Rows.{cell}
use Rattle.gq_row.specs.Tables.{keys, of_key}
use Rattle.gq_agg.specs.declared.kind.AggKind.{AggKind}
use Rattle.gq_agg.specs.declared.kind.AggKind.TheVariants.{CountAll, Count, Sum, Min, Max}
use Rattle.gq_agg.specs.Aggregates.{aggregate, takes}

-- by which columns rows are grouped, and what is asked of each group: aggregates, each of a column
pub record Spec : Type 0 where
  pub by : List ℕ
  pub aggs : List (AggKind × ℕ)

-- a key and the values of its aggregates
abbrev pub Group : Type 0
Group = List Value × List Value

-- the keys of rows; without columns there is one, the empty key, even if there is no row
abbrev pub keys_of : List ℕ → List (List Value) → List (List Value)
keys_of [] rows = [] ∷ []
keys_of (column ∷ columns) rows = keys (column ∷ columns) rows

-- the values of rows in a column
abbrev pub column_of : ℕ → List (List Value) → List Value
column_of column rows = map (λ row. cell row column) rows

-- the aggregates of some rows; a sum that is out of range has no value
abbrev pub answers : List (AggKind × ℕ) → List (List Value) → List (Option Value)
answers aggs rows = map (λ a. aggregate a.0 (column_of a.1 rows)) aggs

-- a key, with the aggregates of the rows that have it
abbrev pub group_of : Spec → List (List Value) → List Value → List Value × List (Option Value)
group_of spec rows key = (key, answers spec.aggs (of_key spec.by rows key))

-- the groups of rows: one for each of their keys
abbrev pub groups : Spec → List (List Value) → List (List Value × List (Option Value))
groups spec rows = map (group_of spec rows) (keys_of spec.by rows)

-- a group none of whose aggregates is refused
abbrev pub answered : Group → List Value × List (Option Value)
answered g = (g.0, map Some g.1)

-- these are the groups of the rows, in some order
abbrev pub AreGroups : Spec → List (List Value) → List Group → Type 0
AreGroups spec rows out = IsPermutation (groups spec rows) (map answered out)

-- the groups of the rows were added to a sink
abbrev pub Pushes : Spec → List (List Value) → (List Group → Type 0) → Type 0
Pushes spec rows holds = (out : List Group) × AreGroups spec rows out × holds out

abbrev pub is_none : Option Value → Bool
is_none None = true
is_none (Some v) = false

-- whether some sum of some group is out of range
abbrev pub out_of_range : Spec → List (List Value) → Bool
out_of_range spec rows = list_any (λ g. list_any is_none g.1) (groups spec rows)

abbrev pub counts_all : AggKind → Bool
counts_all CountAll = true
counts_all Count = false
counts_all Sum = false
counts_all Min = false
counts_all Max = false

-- whether a row has what an aggregate takes: its column, with no text in a sum; the column of count(*) is ignored
abbrev pub fits_cell : List Value → AggKind × ℕ → Bool
fits_cell row a = counts_all a.0 || (nat_lt a.1 (length row) && takes a.0 (cell row a.1))

abbrev pub has_columns : List ℕ → List Value → Bool
has_columns columns row = list_all (λ column. nat_lt column (length row)) columns

-- whether a row can be grouped: the columns that are named are there, with no text in a sum
abbrev pub fits_spec : Spec → List Value → Bool
fits_spec spec row = has_columns spec.by row && list_all (fits_cell row) spec.aggs

abbrev pub all_fit : Spec → List (List Value) → Bool
all_fit spec rows = list_all (fits_spec spec) rows

-- rows are all of one length
abbrev pub OneWidth : List (List Value) → Type 0
OneWidth [] = Unit {0}
OneWidth (row ∷ rows) = All (λ other. length other ≡ length row) rows
