-- The kind of a column, by its fields.
use Rattle.std.specs.Prelude.{ℕ, Bool, ◌&&◌, ◌||◌, List, if◌then◌else◌, is_some}
use Rattle.std.specs.List.{list_all, list_any}
use Rattle.gq_row.specs.declared.schema.Kind.{Kind}
use Rattle.gq_row.specs.declared.schema.Kind.TheVariants as kind
use Rattle.gq_load.specs.Fields.{is_null_field}
use Rattle.gq_load.specs.Numbers.{int_of}
use Rattle.gq_infer.specs.declared.seen.Seen.{Seen}
use Rattle.gq_infer.specs.declared.seen.Seen.TheVariants.{Nulls, Numbers, Texts}

-- whether a field is a whole number of 64 bits
abbrev pub is_int : List ℕ → Bool
is_int field = is_some (int_of field)

-- whether a field may be in a column of numbers
abbrev pub is_int_or_null : List ℕ → Bool
is_int_or_null field = is_null_field kind.Int field || is_int field

-- INT if each field may be in a column of numbers, and one at least is a number
abbrev pub kind_of : List (List ℕ) → Kind
kind_of fields = if list_all is_int_or_null fields && list_any is_int fields then kind.Int else kind.Text

-- what fields are
abbrev pub seen_in : List (List ℕ) → Seen
seen_in fields = if list_all is_int_or_null fields then (if list_any is_int fields then Numbers else Nulls) else Texts

-- what they are with one more
abbrev pub with_field : Seen → List ℕ → Seen
with_field Texts field = Texts
with_field Nulls field = if is_int field then Numbers else if is_null_field kind.Int field then Nulls else Texts
with_field Numbers field = if is_int field then Numbers else if is_null_field kind.Int field then Numbers else Texts

-- the kind of a column with such fields
abbrev pub kind_seen : Seen → Kind
kind_seen Nulls = kind.Text
kind_seen Numbers = kind.Int
kind_seen Texts = kind.Text
