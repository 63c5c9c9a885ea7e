-- Worked payloads, which the checker computes.
use Rattle.std.proofs.Common.{◌≡◌, ◌<◌, ℕ, zero, suc, Bool, true, List, [], ◌∷◌, Some, None, Ok, Err, refl, arith}
use Rattle.std.specs.Prelude.{codes, nat_lt, pos, neg_ℤ, slice_index}
use Rattle.std.specs.List.{list_all}
use Rattle.std.specs.Str.{is_utf8}
use Rattle.std.proofs.lemmas.Bool.{ltb-true}
use Rattle.std.proofs.lemmas.Str.{IsUtf8-from_ascii, is_utf8-from_IsUtf8}
use Rattle.csv.specs.Machine.{next_record}
use Rattle.csv.specs.Reading.{strip_bom, records_from}
use Rattle.gq_row.specs.Schemas.{PlainSchema}
use Rattle.gq_row.specs.Limits.{GREATEST}
use Rattle.gq_row.specs.declared.limits.Bounds.{Bounds}
use Rattle.gq_row.specs.declared.schema.Kind.TheVariants as kind
use Rattle.gq_row.specs.declared.value.Value.TheVariants.{Null, Int, Text, NoCase}
use Rattle.gq_load.specs.declared.load_refusal.LoadRefusal.TheVariants.{NullKey, Header, FieldCount, BadInt, Limit}
use Rattle.gq_load.specs.declared.short_records.Short.TheVariants.{Refused, Completed}
use Rattle.gq_load.specs.Fields.{text_value, value_of}
use Rattle.gq_load.specs.Numbers.{int_of, number_of}
use Rattle.gq_load.specs.Payloads.{cells_of, keyed, load, row_of, rows_from, rows_of, data_rows, values_of}
use Rattle.gq_load.specs.Headers.{places_of}
use Rattle.gq_load.proofs.Places.{both}

-- s (id int, city text, key (id))
abbrev s : PlainSchema
s = record { columns = record { name = codes "id"; kind = kind.Int } ∷ record { name = codes "city"; kind = kind.Text } ∷ []; key = 0 ∷ [] }

-- n (a int, b int)
abbrev n : PlainSchema
n = record { columns = record { name = codes "a"; kind = kind.Int } ∷ record { name = codes "b"; kind = kind.Int } ∷ []; key = [] }

abbrev two_rows : Bounds
two_rows = record GREATEST { rows = 2 }

-- whole numbers

plain : int_of (codes "7") ≡ Some (pos 7)
unfolding int_of number_of
plain = refl

spaced : int_of (codes "  -42 ") ≡ Some (neg_ℤ (pos 42))
unfolding int_of number_of
spaced = refl

greatest : int_of (codes "+9223372036854775807") ≡ Some (pos 9223372036854775807)
unfolding int_of number_of
greatest = refl

least : int_of (codes "-9223372036854775808") ≡ Some (neg_ℤ (pos 9223372036854775808))
unfolding int_of number_of
least = refl

too_great : int_of (codes "9223372036854775808") ≡ None
unfolding int_of number_of
too_great = refl

sign_alone : int_of (codes "+") ≡ None
unfolding int_of number_of
sign_alone = refl

two_numbers : int_of (codes "1 2") ≡ None
unfolding int_of number_of
two_numbers = refl

spaces_alone : int_of (codes "  ") ≡ None
unfolding int_of number_of
spaces_alone = refl

-- payloads

a_null : load Refused s GREATEST (codes "id,city\r\n+7,\\N\r\n") ≡ Ok ((Int (pos 7) ∷ Null ∷ []) ∷ [])
unfolding next_record records_from strip_bom rows_of data_rows places_of rows_from row_of cells_of values_of value_of keyed int_of number_of
a_null = refl

nothing : load Refused s GREATEST [] ≡ Err Header
unfolding next_record records_from strip_bom rows_of data_rows places_of rows_from row_of cells_of values_of value_of keyed int_of number_of
nothing = refl

a_column_missing : load Refused s GREATEST (codes "id\n1\n") ≡ Err Header
unfolding next_record records_from strip_bom rows_of data_rows places_of rows_from row_of cells_of values_of value_of keyed int_of number_of
a_column_missing = refl

a_column_twice : load Refused s GREATEST (codes "id,city,id\n") ≡ Err Header
unfolding next_record records_from strip_bom rows_of data_rows places_of rows_from row_of cells_of values_of value_of keyed int_of number_of
a_column_twice = refl

turned : load Refused n GREATEST (239 ∷ 187 ∷ 191 ∷ codes "b,a\n1,2\n\n3,") ≡ Ok ((Int (pos 2) ∷ Int (pos 1) ∷ []) ∷ (Null ∷ Int (pos 3) ∷ []) ∷ [])
unfolding next_record records_from strip_bom rows_of data_rows places_of rows_from row_of cells_of values_of value_of keyed int_of number_of
turned = refl

the_second_record : load Refused n GREATEST (codes "a,b\n1,2\n3\n") ≡ Err (FieldCount 2)
unfolding next_record records_from strip_bom rows_of data_rows places_of rows_from row_of cells_of values_of value_of keyed int_of number_of
the_second_record = refl

from_the_left : load Refused s GREATEST (codes "city,id\n\\N,1.5\n") ≡ Err (BadInt 1)
unfolding next_record records_from strip_bom rows_of data_rows places_of rows_from row_of cells_of values_of value_of keyed int_of number_of
from_the_left = refl

the_key_last : load Refused s GREATEST (codes "id,city\n,\\N\n") ≡ Err (NullKey 1)
unfolding next_record records_from strip_bom rows_of data_rows places_of rows_from row_of cells_of values_of value_of keyed int_of number_of
the_key_last = refl

too_many : load Refused n two_rows (codes "a,b\n1,2\n3,4\n5,6\n") ≡ Err Limit
unfolding next_record records_from strip_bom rows_of data_rows places_of rows_from row_of cells_of values_of value_of keyed int_of number_of
too_many = refl

faults_before_too_many : load Refused n two_rows (codes "a,b\n1,2\n3,4\n5,6\nx,7\n") ≡ Err (BadInt 4)
unfolding next_record records_from strip_bom rows_of data_rows places_of rows_from row_of cells_of values_of value_of keyed int_of number_of
faults_before_too_many = refl

-- records with fewer fields than the header, and one with more

a_short_one_is_completed : load Completed n GREATEST (codes "b,a\n1\n") ≡ Ok ((Null ∷ Int (pos 1) ∷ []) ∷ [])
unfolding next_record records_from strip_bom rows_of data_rows places_of rows_from row_of cells_of values_of value_of keyed int_of number_of
a_short_one_is_completed = refl

null_and_not_empty : load Completed s GREATEST (codes "id,city\n7\n") ≡ Ok ((Int (pos 7) ∷ Null ∷ []) ∷ [])
unfolding next_record records_from strip_bom rows_of data_rows places_of rows_from row_of cells_of values_of value_of keyed int_of number_of
null_and_not_empty = refl

a_long_one_is_not : load Completed n GREATEST (codes "a,b\n1\n1,2,3\n") ≡ Err (FieldCount 2)
unfolding next_record records_from strip_bom rows_of data_rows places_of rows_from row_of cells_of values_of value_of keyed int_of number_of
a_long_one_is_not = refl

a_key_is_not_completed : load Completed s GREATEST (codes "city,id\n\\N\n") ≡ Err (NullKey 1)
unfolding next_record records_from strip_bom rows_of data_rows places_of rows_from row_of cells_of values_of value_of keyed int_of number_of
a_key_is_not_completed = refl

-- a text of ASCII

is_ascii : List ℕ → Bool
is_ascii = list_all (λ b. nat_lt b 128)

ascii : (bs : List ℕ) → list_all (λ b. nat_lt b 128) bs ≡ true → (i : ℕ) → slice_index bs i < 128
ascii [] h i = omega arith
ascii (b ∷ bs) h zero = ltb-true b 128 (both (nat_lt b 128) (list_all (λ b. nat_lt b 128) bs) h).0
ascii (b ∷ bs) h (suc i) = ascii bs (both (nat_lt b 128) (list_all (λ b. nat_lt b 128) bs) h).1 i

oslo_is : is_utf8 (codes "Oslo") ≡ true
oslo_is = is_utf8-from_IsUtf8 (codes "Oslo") (IsUtf8-from_ascii (codes "Oslo") (ascii (codes "Oslo") refl))

oslo : text_value 4 1 (codes "Oslo") ≡ Ok (Text (codes "Oslo"))
unfolding text_value
oslo = rw oslo_is refl

as_written : value_of 4 1 kind.NoCase (codes "Oslo") ≡ Ok (NoCase (codes "Oslo"))
unfolding value_of text_value
as_written = rw oslo_is refl

too_long : text_value 3 1 (codes "Oslo") ≡ Err Limit
unfolding text_value
too_long = rw oslo_is refl
