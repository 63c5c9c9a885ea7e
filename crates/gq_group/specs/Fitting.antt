-- Rows that have all columns that are named, tested by the largest of these.
use Rattle.std.specs.Prelude.{◌||◌, ℕ, Bool, true, false, not, List, Option, None, Some, length, nat_lt}
use Rattle.std.specs.List.{list_all}
use Rattle.gq_row.specs.declared.value.Value.{Value}
use Rattle.gq_agg.specs.declared.kind.AggKind.{AggKind}
use Rattle.gq_agg.specs.declared.kind.AggKind.TheVariants.{CountAll, Count, Sum, Min, Max}
use Rattle.gq_group.specs.Groups.{counts_all}

-- whether a row of n values has a column, if there is one
abbrev pub reaches : Option ℕ → ℕ → Bool
reaches None n = true
reaches (Some column) n = nat_lt column n

-- whether a row has the column that an aggregate is asked of
abbrev pub has_asked : List Value → AggKind × ℕ → Bool
has_asked row agg = counts_all agg.0 || nat_lt agg.1 (length row)

-- whether it has those of all aggregates
abbrev pub has_all_asked : List (AggKind × ℕ) → List Value → Bool
has_all_asked aggs row = list_all (has_asked row) aggs

-- whether an aggregate is a sum; only sums refuse a value
abbrev pub is_sum : AggKind → Bool
is_sum CountAll = false
is_sum Count = false
is_sum Sum = true
is_sum Min = false
is_sum Max = false

-- whether no aggregate is a sum
abbrev pub has_no_sum : List (AggKind × ℕ) → Bool
has_no_sum aggs = list_all (λ a. not (is_sum a.0)) aggs
