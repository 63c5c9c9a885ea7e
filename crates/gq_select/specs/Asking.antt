-- What can be shown of a table.
use Rattle.std.specs.Prelude.{◌<◌, ℕ, Bool, true, false, ◌&&◌, ◌||◌, All, List, [], ◌∷◌, length, map, nat_lt, slice_index_or, Option, None, Some, option_map, option_and_then}
use Rattle.gq_row.specs.declared.schema.Column.{Column}
use Rattle.gq_row.specs.declared.schema.Kind.{Kind}
use Rattle.gq_row.specs.declared.schema.Kind.TheVariants as kind
use Rattle.gq_agg.specs.declared.kind.AggKind.{AggKind}
use Rattle.gq_agg.specs.declared.kind.AggKind.TheVariants.{CountAll, Count, Sum, Min, Max}
use Rattle.gq_group.specs.Groups.{counts_all}
use Rattle.gq_select.specs.declared.matching.Matching.{Matching}
use Rattle.gq_select.specs.declared.output_column.OutputColumn.{OutputColumn}
use Rattle.gq_select.specs.declared.output_column.OutputColumn.TheVariants.{Aggregate, CountDistinct}

-- the kind of the column at a position
abbrev pub kind_at : List Column → ℕ → Kind
kind_at columns position = slice_index_or (map (λ (c : Column). c.kind) columns) position kind.Int

-- an aggregate takes a column of this kind: a sum takes no texts
abbrev pub takes_kind : AggKind → Kind → Bool
takes_kind CountAll k = true
takes_kind Count k = true
takes_kind Sum kind.Int = true
takes_kind Sum kind.Text = false
takes_kind Sum kind.NoCase = false
takes_kind Min k = true
takes_kind Max k = true

-- an aggregate of a column takes rows that fit these columns: the column is one of them, and no texts are
-- summed; the column of count(*) is ignored
abbrev pub can_take : List Column → AggKind × ℕ → Bool
can_take columns a = counts_all a.0 || (nat_lt a.1 (length columns) && takes_kind a.0 (kind_at columns a.1))

-- an output column can be shown of rows that fit these columns
abbrev pub is_valid_for : List Column → OutputColumn → Bool
is_valid_for columns (Aggregate asked column) = can_take columns (asked, column)
is_valid_for columns (CountDistinct column) = nat_lt column (length columns)

-- the columns of a match, if there is one, are columns of the rows and of the other rows
abbrev pub CanMatch : List Column → List Column → Option Matching → Type 0
CanMatch columns others None = Unit {0}
CanMatch columns others (Some matching) = All (λ column. column < length columns) matching.ours × All (λ column. column < length others) matching.theirs

-- the values of a list of options, or none if one of them is none
abbrev pub all_of : {X : Type 0} → List (Option X) → Option (List X)
all_of [] = Some []
all_of (o ∷ os) = option_and_then (λ x. option_map (λ xs. x ∷ xs) (all_of os)) o
