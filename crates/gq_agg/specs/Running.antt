-- What a running aggregate keeps of the values that were added to it.
use Rattle.std.specs.Prelude.{◌==◌, ◌≤◌, ◌+◌, ◌*◌, ◌^◌, ◌+ℤ◌, ◌≤ℤ◌, ◌&&◌, ℕ, ℤ, pos, Bool, false, List, length, if◌then◌else◌, Option, Some, None}
use Rattle.gq_row.specs.declared.value.Value.{Value}
use Rattle.gq_agg.specs.declared.kind.AggKind.{AggKind}
use Rattle.gq_agg.specs.declared.kind.AggKind.TheVariants as kind
use Rattle.gq_agg.specs.declared.state.State.{State}
use Rattle.gq_agg.specs.declared.state.State.TheVariants.{Rows, Values, Total, Least, Greatest}
use Rattle.gq_row.specs.Fitting.{is_null}
use Rattle.gq_agg.specs.Aggregates.{is_text}
use Rattle.gq_agg.specs.Values.{number, present, total, least, greatest, is_less, is_greater, lesser, greater}

-- a running aggregate: how many values were added, and what is kept of them
pub record Running : Type 0 where
  pub adds : ℕ
  pub state : State

-- the kind of aggregate that something is kept for
abbrev pub kind_of : State → AggKind
kind_of Rows = kind.CountAll
kind_of (Values n) = kind.Count
kind_of (Total sum) = kind.Sum
kind_of (Least v) = kind.Min
kind_of (Greatest v) = kind.Max

-- the sum of values, once one of them isn't null
abbrev pub total_of : List Value → Option ℤ
total_of values = if length (present values) == 0 then None else Some (total values)

-- what an aggregate of a kind keeps of some values
abbrev pub kept : AggKind → List Value → State
kept kind.CountAll values = Rows
kept kind.Count values = Values (length (present values))
kept kind.Sum values = Total (total_of values)
kept kind.Min values = Least (least values)
kept kind.Max values = Greatest (greatest values)

-- a count and a sum with one more value
abbrev pub counted : ℕ → Value → ℕ
counted n v = if is_null v then n else n + 1

abbrev pub sum_or_zero : Option ℤ → ℤ
sum_or_zero None = pos 0
sum_or_zero (Some n) = n

abbrev pub plus : Option ℤ → Value → Option ℤ
plus sum v = if is_null v then sum else Some (sum_or_zero sum +ℤ number v)

-- what is kept, with one more value
abbrev pub with_value : State → Value → State
with_value Rows v = Rows
with_value (Values n) v = Values (counted n v)
with_value (Total sum) v = Total (plus sum v)
with_value (Least w) v = Least (lesser w v)
with_value (Greatest w) v = Greatest (greater w v)

-- a running aggregate to which these values were added
abbrev pub tally : AggKind → List Value → Running
tally added values = record { adds = length values; state = kept added values }

-- the number that is kept of `adds` values is within what they can amount to
abbrev pub IsBounded : ℕ → State → Type 0
IsBounded adds Rows = Unit {0}
IsBounded adds (Values n) = n ≤ adds
IsBounded adds (Total None) = Unit {0}
IsBounded adds (Total (Some sum)) = (pos 0 ≤ℤ (sum +ℤ pos (2 ^ 63 * adds))) × (sum ≤ℤ pos (2 ^ 63 * adds))
IsBounded adds (Least v) = Unit {0}
IsBounded adds (Greatest v) = Unit {0}

-- a value is a text that replaces the one that is kept, and is copied
abbrev pub is_copied : State → Value → Bool
is_copied Rows v = false
is_copied (Values n) v = false
is_copied (Total sum) v = false
is_copied (Least old) v = is_text v && is_less old v
is_copied (Greatest old) v = is_text v && is_greater old v
