-- Worked examples, computed by the definitions.
use Rattle.std.proofs.Common.{◌≡◌, ℕ, true, false, List, [], ◌∷◌, Some, refl, replicate}
use Rattle.std.specs.Prelude.{codes}
use Rattle.csv.specs.Machine.{next_record}
use Rattle.csv.specs.Reading.{strip_bom, records_from}
use Rattle.csv.specs.Records.{field_at}
use Rattle.gq_row.specs.Limits.{GREATEST}
use Rattle.gq_row.specs.declared.schema.Column.{Column}
use Rattle.gq_row.specs.declared.schema.Kind.{Kind}
use Rattle.gq_row.specs.declared.schema.Kind.TheVariants as kind
use Rattle.gq_load.specs.Numbers.{int_of, number_of}
use Rattle.gq_infer.specs.declared.fault.InferFault.TheVariants.{Header, Limit}
use Rattle.gq_infer.specs.Files.{header_fault, names_fault, same_columns, table_columns}
use Rattle.gq_infer.specs.Kinds.{kind_of}
use Rattle.gq_infer.specs.Messages.{bad_table_text}
use Rattle.gq_infer.specs.Words.{cut_of, file_of, declaration_of, has_columns, is_name, name_of}
use Rattle.gq_infer.specs.declared.bad_table.BadTable.TheVariants.{NoName}

-- kinds of fields

zeros_before : kind_of (codes "007" ∷ []) ≡ kind.Int
unfolding int_of number_of
zeros_before = refl

signs_and_spaces : kind_of (codes "+5" ∷ codes " 12 " ∷ codes "-3" ∷ []) ≡ kind.Int
unfolding int_of number_of
signs_and_spaces = refl

greatest : kind_of (codes "9223372036854775807" ∷ []) ≡ kind.Int
unfolding int_of number_of
greatest = refl

past_64_bits : kind_of (codes "1" ∷ codes "9223372036854775808" ∷ []) ≡ kind.Text
unfolding int_of number_of
past_64_bits = refl

nulls_among : kind_of ([] ∷ codes "1" ∷ codes "\\N" ∷ []) ≡ kind.Int
unfolding int_of number_of
nulls_among = refl

empties_alone : kind_of ([] ∷ [] ∷ []) ≡ kind.Text
unfolding int_of number_of
empties_alone = refl

nulls_alone : kind_of (codes "\\N" ∷ codes "\\N" ∷ []) ≡ kind.Text
unfolding int_of number_of
nulls_alone = refl

no_fields : kind_of [] ≡ kind.Text
no_fields = refl

a_fraction : kind_of (codes "1" ∷ codes "1.5" ∷ []) ≡ kind.Text
unfolding int_of number_of
a_fraction = refl

spaces_alone : kind_of (codes "1" ∷ codes " " ∷ []) ≡ kind.Text
unfolding int_of number_of
spaces_alone = refl

-- columns of files

unfoldable column : List ℕ → Kind → Column
column name k = record { name = name; kind = k }

-- a byte-order mark, and lines that end with CR LF
marked : table_columns (239 ∷ 187 ∷ 191 ∷ codes "id,city\r\n007,Oslo\r\n,Rome\r\n") [] ≡ column (codes "id") kind.Int ∷ column (codes "city") kind.Text ∷ []
unfolding next_record records_from strip_bom field_at int_of number_of column
marked = refl

-- a field too many and one too few
uneven : table_columns (codes "a,b\n1,2,x\n3\n") [] ≡ column (codes "a") kind.Int ∷ column (codes "b") kind.Int ∷ []
unfolding next_record records_from strip_bom field_at int_of number_of column
uneven = refl

-- quotes are no part of a field
quoted : table_columns (codes "\"a\"\n\"1\"\n") [] ≡ column (codes "a") kind.Int ∷ []
unfolding next_record records_from strip_bom field_at int_of number_of column
quoted = refl

-- two files in their own orders: b is 2 and 3, and a is x and 1
turned : table_columns (codes "a,b\nx,2\n") (codes "b,a\n3,1\n" ∷ []) ≡ column (codes "a") kind.Text ∷ column (codes "b") kind.Int ∷ []
unfolding next_record records_from strip_bom field_at int_of number_of column
turned = refl

a_text_in_the_last_file : table_columns (codes "a\n1\n") (codes "a\n2\n" ∷ codes "a\nx\n" ∷ []) ≡ column (codes "a") kind.Text ∷ []
unfolding next_record records_from strip_bom field_at int_of number_of column
a_text_in_the_last_file = refl

a_number_in_the_last_file : table_columns (codes "a\n\\N\n") (codes "a\n" ∷ codes "a\n7\n" ∷ []) ≡ column (codes "a") kind.Int ∷ []
unfolding next_record records_from strip_bom field_at int_of number_of column
a_number_in_the_last_file = refl

-- headers

nothing : header_fault GREATEST [] ≡ Some Header
unfolding next_record records_from strip_bom
nothing = refl

two_columns_of_one : header_fault (record GREATEST { columns = 1 }) (codes "a,b\n") ≡ Some Limit
unfolding next_record records_from strip_bom names_fault
two_columns_of_one = refl

in_any_order : same_columns (codes "a" ∷ codes "b" ∷ []) (codes "b,a\n") ≡ true
unfolding next_record records_from strip_bom
in_any_order = refl

one_missing : same_columns (codes "a" ∷ codes "b" ∷ []) (codes "a\n") ≡ false
unfolding next_record records_from strip_bom
one_missing = refl

one_more : same_columns (codes "a" ∷ []) (codes "a,b\n") ≡ false
unfolding next_record records_from strip_bom
one_more = refl

one_twice : same_columns (codes "a" ∷ codes "b" ∷ []) (codes "a,a\n") ≡ false
unfolding next_record records_from strip_bom
one_twice = refl

in_another_case : same_columns (codes "a" ∷ []) (codes "A\n") ≡ false
unfolding next_record records_from strip_bom
in_another_case = refl

-- words

base : name_of (codes "rows.csv") ≡ codes "rows"
unfolding cut_of
base = refl

in_a_folder : name_of (codes "/data/2026.07/rows.csv") ≡ codes "rows"
unfolding cut_of
in_a_folder = refl

two_extensions : name_of (codes "rows.tar.gz") ≡ codes "rows.tar"
unfolding cut_of
two_extensions = refl

no_extension : name_of (codes "a.b/rows") ≡ codes "rows"
unfolding cut_of
no_extension = refl

an_extension_alone : name_of (codes "data/.csv") ≡ codes ".csv"
unfolding cut_of
an_extension_alone = refl

a_folder : is_name 63 (name_of (codes "data/")) ≡ false
unfolding cut_of
a_folder = refl

the_whole_word : file_of (codes "data/rows.csv") ≡ codes "data/rows.csv"
unfolding cut_of
the_whole_word = refl

named : (name_of (codes "t=a=b.csv") ≡ codes "t") × (file_of (codes "t=a=b.csv") ≡ codes "a=b.csv")
unfolding cut_of
named = (refl, refl)

as_it_is : name_of (codes "a/b.c=rows.csv") ≡ codes "a/b.c"
unfolding cut_of
as_it_is = refl

no_name : is_name 63 (name_of (codes "=rows.csv")) ≡ false
unfolding cut_of
no_name = refl

no_file : (name_of (codes "t=") ≡ codes "t") × (file_of (codes "t=") ≡ [])
unfolding cut_of
no_file = (refl, refl)

by_hand : (has_columns (codes "t (a int)=x.csv") ≡ true) × (declaration_of (codes "t (a int)=x.csv") ≡ codes "t (a int)")
unfolding cut_of
by_hand = (refl, refl)

inside_quotes : (declaration_of (codes "t (\"a=b\" int)=x.csv") ≡ codes "t (\"a=b\" int)") × (file_of (codes "t (\"a=b\" int)=x.csv") ≡ codes "x.csv")
unfolding cut_of
inside_quotes = (refl, refl)

a_parenthesis_in_the_file : has_columns (codes "t=rows (1).csv") ≡ false
unfolding cut_of
a_parenthesis_in_the_file = refl

of_63_bytes : is_name 63 (replicate 63 97) ≡ true
of_63_bytes = refl

of_64_bytes : is_name 63 (replicate 64 97) ≡ false
of_64_bytes = refl

message : bad_table_text (codes "=x") NoName ≡ codes "error: invalid value '=x' for '--table <[NAME=]FILE>': write NAME=FILE, with a name of 1 to 63 bytes\n\nFor more information, try '--help'.\n"
message = refl
