-- Values in one list, as they are stored and borrowed.
use Rattle.std.specs.Prelude.{ℕ, ℤ, List, All, Option, None, Some, map}
use Rattle.gq_row.specs.declared.value.Value.{Value}
use Rattle.gq_row.specs.declared.value.Value.TheVariants.{Null, Int, Text, NoCase}
use Rattle.gq_cells.specs.declared.cell_ref.CellRef.{CellRef}
use Rattle.gq_cells.specs.declared.cell_ref.CellRef.TheVariants as lent
use Rattle.gq_cells.specs.declared.text_ref.TextRef.{TextRef}
use Rattle.gq_cells.specs.declared.text_ref.TextRef.TheVariants as text_at
use Rattle.gq_cells.specs.declared.row_ref.CellSlice.{CellSlice}
use Rattle.gq_cells.specs.declared.row_ref.CellSlice.TheVariants as together
use Rattle.gq_cells.specs.declared.cells.Stored.{Stored}
use Rattle.gq_cells.specs.Words.{HasText, short_in, word_value}
use Rattle.gq_cells.specs.declared.cells.Stored.TheVariants.{Narrow, Numbers, Nullable, Values, Tagged}

-- the value of a number, or null
abbrev pub number_cell : Option ℤ → Value
number_cell None = Null
number_cell (Some n) = Int n

-- a value is a text
abbrev pub IsText : Value → Type 0
IsText Null = ⊥
IsText (Int n) = ⊥
IsText (Text t) = Unit {0}
IsText (NoCase t) = Unit {0}

-- the bytes of a text that is stored or in a word
abbrev pub text_of : TextRef → List ℕ
text_of (text_at.Stored text) = text.now
text_of (text_at.Short text) = short_in text.bytes

-- the value that a reference refers to, and the values that a list stores
abbrev pub value_of : CellRef → Value
value_of lent.Null = Null
value_of (lent.Int n) = Int n
value_of (lent.Text text) = Text (text_of text)
value_of (lent.NoCase text) = NoCase (text_of text)

abbrev pub cells_of : Stored → List Value
cells_of (Narrow numbers) = map Int numbers.items
cells_of (Numbers numbers) = map Int numbers.items
cells_of (Nullable numbers) = map number_cell numbers.items
cells_of (Values values) = values.items
cells_of (Tagged values) = values

-- the values of a borrowed range
abbrev pub slice_values : CellSlice → List Value
slice_values (together.Narrow numbers) = map Int numbers.now
slice_values (together.Numbers numbers) = map Int numbers.now
slice_values (together.Nullable numbers) = map number_cell numbers.now
slice_values (together.Values values) = values.now
slice_values (together.Tagged words overflow) = map (word_value overflow.now) words.now

-- each word of a borrowed range has UTF-8 if it is a text
abbrev pub HaveUtf8 : CellSlice → Type 0
HaveUtf8 (together.Narrow numbers) = Unit {0}
HaveUtf8 (together.Numbers numbers) = Unit {0}
HaveUtf8 (together.Nullable numbers) = Unit {0}
HaveUtf8 (together.Values values) = Unit {0}
HaveUtf8 (together.Tagged words overflow) = All HasText words.now

-- values are stored as numbers of 32 bits
abbrev pub IsNarrow : Stored → Type 0
IsNarrow (Narrow numbers) = Unit {0}
IsNarrow (Numbers numbers) = ⊥
IsNarrow (Nullable numbers) = ⊥
IsNarrow (Values values) = ⊥
IsNarrow (Tagged values) = ⊥

-- values are stored as numbers and nulls
abbrev pub HasNullable : Stored → Type 0
HasNullable (Narrow numbers) = ⊥
HasNullable (Numbers numbers) = ⊥
HasNullable (Nullable numbers) = Unit {0}
HasNullable (Values values) = ⊥
HasNullable (Tagged values) = ⊥

-- values are stored as such
abbrev pub HasValues : Stored → Type 0
HasValues (Narrow numbers) = ⊥
HasValues (Numbers numbers) = ⊥
HasValues (Nullable numbers) = ⊥
HasValues (Values values) = Unit {0}
HasValues (Tagged values) = ⊥

-- values are stored in a layout that admits texts
abbrev pub HasTexts : Stored → Type 0
HasTexts (Narrow numbers) = ⊥
HasTexts (Numbers numbers) = ⊥
HasTexts (Nullable numbers) = ⊥
HasTexts (Values values) = Unit {0}
HasTexts (Tagged values) = Unit {0}
