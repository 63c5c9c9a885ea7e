-- Worked examples, computed by the definitions. The CSV and JSON texts are those of Python's csv and json.
use Rattle.std.proofs.Common.{◌≡◌, List, ℕ, [], ◌∷◌, ◌++◌, pos, negsuc, None, Some, refl, codes}
use Rattle.std.specs.Fmt.{digits}
use Rattle.csv.specs.Writing.{fields_text, is_blank, escaped}
use Rattle.json.specs.Print.{escape_byte}
use Rattle.unicode_width.proofs.Computing.{unicode_width}
use Rattle.gq_row.specs.declared.value.Value.{Value}
use Rattle.gq_row.specs.declared.value.Value.TheVariants.{Null, Int, Text, NoCase}
use Rattle.gq_reply.specs.declared.refusal.Refusal.TheVariants as refusal
use Rattle.gq_format.specs.declared.format.Format.TheVariants as format
use Rattle.gq_format.specs.Boxes.{box_lines, count_text}
use Rattle.gq_format.specs.Formats.{result_text}
use Rattle.gq_format.specs.Names.{distinct_names}
use Rattle.gq_format.specs.Refusals.{diagnosis, refusal_text}
use Rattle.gq_reply.specs.Refusals.{words_of}

-- refusals

refused : refusal_text 3 refusal.NoColumn None (words_of refusal.NoColumn) ≡ codes "groupsh: line 3: err 5 NoColumn\n  no column of the table has that name\n"
unfolding digits
refused = refl

refused_record : refusal_text 3 refusal.FieldCount (Some 17) (words_of refusal.FieldCount) ≡ codes "groupsh: line 3: err 10 FieldCount 17\n  the record has more or fewer fields than the header\n"
unfolding digits
refused_record = refl

diagnosed : refusal_text 12 refusal.Syntax None (diagnosis 8 (codes "expected 'by'")) ≡ codes "groupsh: line 12: err 1 Syntax\n  column 8: expected 'by'\n"
unfolding digits
diagnosed = refl

-- null, a number below zero, an empty text
abbrev plain_header : List (List ℕ)
plain_header = codes "city" ∷ codes "n" ∷ []

abbrev plain_rows : List (List Value)
plain_rows = (Null ∷ Int (negsuc 2) ∷ []) ∷ (Text [] ∷ Int (pos 12) ∷ []) ∷ []

-- a quote, a line end, a tab, a backslash, U+0001
abbrev odd_text : List ℕ
odd_text = codes "x\ny" ++ 9 ∷ codes "\"q\"\\ " ++ 1 ∷ []

-- the UTF-8 of U+1F680
abbrev rocket : List ℕ
rocket = 0xF0 ∷ 0x9F ∷ 0x9A ∷ 0x80 ∷ []

csv_plain : result_text format.Csv plain_header plain_rows ≡ codes "city,n\n\\N,-3\n,12\n"
unfolding fields_text is_blank escaped digits
csv_plain = refl

csv_odd : result_text format.Csv (codes "a\"b" ∷ []) ((NoCase odd_text ∷ []) ∷ (Text [] ∷ []) ∷ []) ≡ codes "\"a\"\"b\"\n\"x\ny" ++ 9 ∷ codes "\"\"q\"\"\\ " ++ 1 ∷ codes "\"\n\"\"\n"
unfolding fields_text is_blank escaped
csv_odd = refl

csv_of_none : result_text format.Csv plain_header [] ≡ codes "city,n\n"
unfolding fields_text is_blank escaped
csv_of_none = refl

json_plain : result_text format.Json plain_header plain_rows ≡ codes "{\"city\":null,\"n\":-3}\n{\"city\":\"\",\"n\":12}\n"
unfolding escape_byte digits
json_plain = refl

json_odd : result_text format.Json (codes "a\"b" ∷ codes "c" ∷ []) ((NoCase odd_text ∷ Text rocket ∷ []) ∷ []) ≡ codes "{\"a\\\"b\":\"x\\ny\\t\\\"q\\\"\\\\ \\u0001\",\"c\":\"" ++ rocket ++ codes "\"}\n"
unfolding escape_byte digits
json_odd = refl

json_of_none : result_text format.Json plain_header [] ≡ []
json_of_none = refl

repeated : distinct_names (codes "a" ∷ codes "a" ∷ codes "a_2" ∷ codes "a" ∷ []) ≡ codes "a" ∷ codes "a_3" ∷ codes "a_2" ∷ codes "a_4" ∷ []
unfolding digits
repeated = refl

repeated_count : distinct_names (codes "count(*)" ∷ codes "count(*)" ∷ []) ≡ codes "count(*)" ∷ codes "count(*)_2" ∷ []
unfolding digits
repeated_count = refl

box_plain : box_lines (codes "country" ∷ codes "count(*)" ∷ []) ((Text (codes "NO") ∷ Int (pos 2) ∷ []) ∷ (Null ∷ Int (pos 11) ∷ []) ∷ [])
    ≡ codes "┌─────────┬──────────┐" ∷ codes "│ country │ count(*) │" ∷ codes "├─────────┼──────────┤" ∷ codes "│ NO      │        2 │" ∷ codes "│ NULL    │       11 │" ∷ codes "└─────────┴──────────┘" ∷ []
unfolding digits unicode_width
box_plain = refl

-- null in a column of numbers, and an empty text
box_of_null : box_lines plain_header ((Text [] ∷ Null ∷ []) ∷ (Text [] ∷ Int (negsuc 99999) ∷ []) ∷ [])
    ≡ codes "┌──────┬─────────┐" ∷ codes "│ city │       n │" ∷ codes "├──────┼─────────┤" ∷ codes "│      │    NULL │" ∷ codes "│      │ -100000 │" ∷ codes "└──────┴─────────┘" ∷ []
unfolding digits unicode_width
box_of_null = refl

-- a rocket takes two columns, and control characters are escaped, one of two bytes too
box_odd : box_lines (codes "t" ∷ []) ((Text rocket ∷ []) ∷ (NoCase (codes "a\nb" ++ 0x1B ∷ 0xC2 ∷ 0x85 ∷ codes "\\") ∷ []) ∷ [])
    ≡ codes "┌───────────────────┐" ∷ codes "│ t                 │" ∷ codes "├───────────────────┤" ∷ codes "│ 🚀                │" ∷ codes "│ a\\nb\\u{1b}\\u{85}\\ │" ∷ codes "└───────────────────┘" ∷ []
unfolding digits unicode_width
box_odd = refl

box_of_none : result_text format.Box (codes "n" ∷ []) []
    ≡ 0xE2 ∷ 0x94 ∷ 0x8C ∷ 0xE2 ∷ 0x94 ∷ 0x80 ∷ 0xE2 ∷ 0x94 ∷ 0x80 ∷ 0xE2 ∷ 0x94 ∷ 0x80 ∷ 0xE2 ∷ 0x94 ∷ 0x90 ∷ 10
    ∷ 0xE2 ∷ 0x94 ∷ 0x82 ∷ 32 ∷ 110 ∷ 32 ∷ 0xE2 ∷ 0x94 ∷ 0x82 ∷ 10
    ∷ 0xE2 ∷ 0x94 ∷ 0x9C ∷ 0xE2 ∷ 0x94 ∷ 0x80 ∷ 0xE2 ∷ 0x94 ∷ 0x80 ∷ 0xE2 ∷ 0x94 ∷ 0x80 ∷ 0xE2 ∷ 0x94 ∷ 0xA4 ∷ 10
    ∷ 0xE2 ∷ 0x94 ∷ 0x94 ∷ 0xE2 ∷ 0x94 ∷ 0x80 ∷ 0xE2 ∷ 0x94 ∷ 0x80 ∷ 0xE2 ∷ 0x94 ∷ 0x80 ∷ 0xE2 ∷ 0x94 ∷ 0x98 ∷ 10
    ∷ codes "(0 rows)\n"
unfolding digits unicode_width
box_of_none = refl

one_row : count_text 1 ≡ codes "(1 row)\n"
unfolding digits
one_row = refl

two_rows : count_text 2 ≡ codes "(2 rows)\n"
unfolding digits
two_rows = refl
