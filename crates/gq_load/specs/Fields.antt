-- What a field of a data record says.
use Rattle.std.specs.Prelude.{ℕ, ℤ, Bool, ◌==◌, ◌||◌, not, nat_lt, List, length, bytes_eq, Option, Some, None, Result, Ok, Err, if◌then◌else◌, codes}
use Rattle.std.specs.Str.{is_utf8}
use Rattle.gq_row.specs.declared.schema.Kind.{Kind}
use Rattle.gq_row.specs.declared.schema.Kind.TheVariants as kind
use Rattle.gq_row.specs.declared.value.Value.{Value}
use Rattle.gq_row.specs.declared.value.Value.TheVariants.{Null, Int, Text}
use Rattle.gq_row.specs.Folding.{without_case}
use Rattle.gq_load.specs.declared.load_refusal.LoadRefusal.{LoadRefusal}
use Rattle.gq_load.specs.declared.load_refusal.LoadRefusal.TheVariants.{BadInt, BadText, Limit}
use Rattle.gq_load.specs.Answers.{◌>>=◌}
use Rattle.gq_load.specs.Numbers.{int_of}

-- the field that is null in every column
abbrev pub null_field : List ℕ
null_field = codes "\\N"

-- whether a field is null in a column of a kind
abbrev pub is_null_field : Kind → List ℕ → Bool
is_null_field kind.Int field = (length field == 0) || bytes_eq field null_field
is_null_field kind.Text field = bytes_eq field null_field
is_null_field kind.NoCase field = bytes_eq field null_field

-- the value of a field that isn't null: a whole number, or a text of at most the given number of bytes; a fault carries the record's number
abbrev pub int_value : ℕ → Option ℤ → Result Value LoadRefusal
int_value number None = Err (BadInt number)
int_value number (Some z) = Ok (Int z)

unfoldable pub text_value : ℕ → ℕ → List ℕ → Result Value LoadRefusal
text_value longest number field =
    if not (is_utf8 field) then Err (BadText number)
    else if nat_lt longest (length field) then Err Limit
    else Ok (Text field)

-- in a column of texts without case: that of a text, without case and spelled as it is written
abbrev pub value_by : ℕ → ℕ → Kind → List ℕ → Result Value LoadRefusal
value_by longest number kind.Int field = int_value number (int_of field)
value_by longest number kind.Text field = text_value longest number field
value_by longest number kind.NoCase field = text_value longest number field >>= λ text. Ok (without_case text)

-- the value of a field in a column of numbers, or its fault
abbrev pub int_or_null : ℕ → List ℕ → Result Value LoadRefusal
int_or_null number field = if is_null_field kind.Int field then Ok Null else int_value number (int_of field)

-- the value of a field in a column of a kind, or its fault
unfoldable pub value_of : ℕ → ℕ → Kind → List ℕ → Result Value LoadRefusal
value_of longest number column field = if is_null_field column field then Ok Null else value_by longest number column field
