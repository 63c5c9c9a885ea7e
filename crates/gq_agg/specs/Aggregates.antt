-- Aggregates of lists of values, as SQL has them.
use Rattle.std.specs.Prelude.{ℤ, pos, negsuc, ◌-◌, ◌^◌, ◌==◌, ◌&&◌, Bool, true, false, not, List, length, if◌then◌else◌, Option, Some, None, int_le}
use Rattle.gq_row.specs.declared.value.Value.{Value}
use Rattle.gq_row.specs.declared.value.Value.TheVariants.{Null, Int, Text, NoCase}
use Rattle.gq_agg.specs.declared.kind.AggKind.{AggKind}
use Rattle.gq_agg.specs.declared.kind.AggKind.TheVariants.{CountAll, Count, Sum, Min, Max}
use Rattle.gq_agg.specs.Values.{present, total, least, greatest}

-- a whole number fits in 64 bits
abbrev pub is_i64 : ℤ → Bool
is_i64 n = int_le (negsuc (2 ^ 63 - 1)) n && int_le n (pos (2 ^ 63 - 1))

-- the sum of the values that aren't null, as in SQL: null if there are none, and no value if it is out of range
abbrev pub summed : List Value → Option Value
summed values =
    if length (present values) == 0 then Some Null
    else if is_i64 (total values) then Some (Int (total values))
    else None

-- the aggregate of a list of values; a sum that is out of range has none
abbrev pub aggregate : AggKind → List Value → Option Value
aggregate CountAll values = Some (Int (pos (length values)))
aggregate Count values = Some (Int (pos (length (present values))))
aggregate Sum values = summed values
aggregate Min values = Some (least values)
aggregate Max values = Some (greatest values)

-- a value is a text, with case or without
abbrev pub is_text : Value → Bool
is_text Null = false
is_text (Int n) = false
is_text (Text t) = true
is_text (NoCase t) = true

-- an aggregate takes a value: a sum takes no text
abbrev pub takes : AggKind → Value → Bool
takes CountAll v = true
takes Count v = true
takes Sum v = not (is_text v)
takes Min v = true
takes Max v = true
