-- Lists of values: those that aren't null, the number of distinct ones, their sum, minimum and maximum.
use Rattle.std.specs.Prelude.{ℕ, ℤ, pos, ◌+ℤ◌, ◌&&◌, ◌||◌, Bool, not, List, [], ◌∷◌, length, filter, fold, if◌then◌else◌}
use Rattle.std.specs.Ordering.{is_lt}
use Rattle.gq_row.specs.declared.value.Value.{Value}
use Rattle.gq_row.specs.declared.value.Value.TheVariants.{Null, Int, Text, NoCase}
use Rattle.gq_row.specs.Fitting.{is_null}
use Rattle.gq_row.specs.Order.{compare_values, same_value}
use Rattle.gq_row.specs.Repeats.{without_repeats}

-- the values that are not null
abbrev pub present : List Value → List Value
present values = filter (λ v. not (is_null v)) values

-- the number of distinct values that aren't null; two spellings of one text without case are one
abbrev pub different : List Value → ℕ
different values = length (without_repeats same_value (present values))

-- the number that a value adds to a sum
abbrev pub number : Value → ℤ
number Null = pos 0
number (Int n) = n
number (Text t) = pos 0
number (NoCase t) = pos 0

-- the sum of values, a whole number of any size
abbrev pub total : List Value → ℤ
total [] = pos 0
total (v ∷ vs) = number v +ℤ total vs

-- a value comes before the minimum so far, or after the maximum so far; null never does, and each other value
-- does if that is null
abbrev pub is_less : Value → Value → Bool
is_less least v = not (is_null v) && (is_null least || is_lt (compare_values v least))

abbrev pub is_greater : Value → Value → Bool
is_greater greatest v = is_lt (compare_values greatest v)

abbrev pub lesser : Value → Value → Value
lesser a b = if is_less a b then b else a

abbrev pub greater : Value → Value → Value
greater a b = if is_greater a b then b else a

-- the minimum and the maximum of the values that aren't null, or null if all are
abbrev pub least : List Value → Value
least values = fold lesser Null values

abbrev pub greatest : List Value → Value
greatest values = fold greater Null values
