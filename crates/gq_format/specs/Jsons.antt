-- Results as JSON: an object for each row, on a line of its own.
use Rattle.std.specs.Prelude.{ℕ, List, ◌++◌, codes, flat_map, zip}
use Rattle.std.specs.Fmt.{signed_decimal}
use Rattle.std.specs.List.{join_by}
use Rattle.json.specs.Print.{quoted}
use Rattle.gq_row.specs.declared.value.Value.{Value}
use Rattle.gq_row.specs.declared.value.Value.TheVariants.{Null, Int, Text, NoCase}
use Rattle.gq_format.specs.Names.{distinct_names}

abbrev pub value_text : Value → List ℕ
value_text Null = codes "null"
value_text (Int n) = signed_decimal n
value_text (Text t) = quoted t
value_text (NoCase t) = quoted t

abbrev pub member_text : List ℕ × Value → List ℕ
member_text (name, value) = quoted name ++ codes ":" ++ value_text value

abbrev pub object_text : List (List ℕ) → List Value → List ℕ
object_text names row = codes "{" ++ join_by member_text (codes ",") (zip names row) ++ codes "}"

abbrev pub json_text : List (List ℕ) → List (List Value) → List ℕ
json_text header rows = flat_map (λ row. object_text (distinct_names header) row ++ codes "\n") rows
