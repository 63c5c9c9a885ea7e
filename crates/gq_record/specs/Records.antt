-- Records of rows: the length of a body in four bytes, and then the body, which is the row's values in order.
use Rattle.std.specs.Prelude.{◌<◌, ◌^◌, ℕ, ℤ, All, List, [], ◌∷◌, ◌++◌, length, flat_map, IsUtf8, FitsSigned}
use Rattle.std.specs.Int.{to_be_bytes, w32, w64, cast_unsigned}
use Rattle.gq_row.specs.declared.value.Value.{Value}
use Rattle.gq_row.specs.declared.value.Value.TheVariants.{Null, Int, Text, NoCase}

-- bytes after their length, which takes four bytes, big-endian
abbrev pub with_length : List ℕ → List ℕ
with_length bytes = to_be_bytes w32 (length bytes) ++ bytes

-- a number in two's complement, in eight bytes, big-endian
abbrev pub number_bytes : ℤ → List ℕ
number_bytes n = to_be_bytes w64 (cast_unsigned w64 n)

-- the bytes of a value: a tag for its kind, and then nothing, the number, or the length and the bytes of the
-- text
unfoldable pub value_bytes : Value → List ℕ
value_bytes Null = 0 ∷ []
value_bytes (Int n) = 1 ∷ number_bytes n
value_bytes (Text t) = 2 ∷ with_length t
value_bytes (NoCase t) = 3 ∷ with_length t

-- the body of a row: the bytes of its values in order
abbrev pub body_of : List Value → List ℕ
body_of row = flat_map value_bytes row

-- the record of a row
unfoldable pub record_of : List Value → List ℕ
record_of row = with_length (body_of row)

-- the records of rows in order
abbrev pub records_of : List (List Value) → List ℕ
records_of rows = flat_map record_of rows

-- a text of fewer than 2^32 bytes
pub record IsText (t : List ℕ) : Type 0 where
  pub utf8 : IsUtf8 t
  pub short : length t < 2 ^ 32

-- a value that a cell can have: null, a number of 64 bits, or a text of fewer than 2^32 bytes
abbrev pub IsCell : Value → Type 0
IsCell Null = Unit {0}
IsCell (Int n) = FitsSigned w64 n
IsCell (Text t) = IsText t
IsCell (NoCase t) = IsText t

-- a row that has a record: its body is shorter than 2^32 bytes
pub record IsStorable (row : List Value) : Type 0 where
  pub cells : All IsCell row
  pub short : length (body_of row) < 2 ^ 32
