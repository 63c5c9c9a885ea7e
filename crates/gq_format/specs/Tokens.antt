-- The tokens of a row's object.
use Rattle.std.specs.Prelude.{ℕ, List, [], ◌∷◌, ◌++◌, flat_map, zip}
use Rattle.std.specs.Fmt.{signed_decimal}
use Rattle.json.specs.Token.{Token, begin_object, end_object, key, string, number, null}
use Rattle.gq_row.specs.declared.value.Value.{Value}
use Rattle.gq_row.specs.declared.value.Value.TheVariants.{Null, Int, Text, NoCase}

abbrev pub value_token : Value → Token
value_token Null = null
value_token (Int n) = number (signed_decimal n)
value_token (Text t) = string t
value_token (NoCase t) = string t

abbrev pub member_tokens : List ℕ × Value → List Token
member_tokens (name, value) = key name ∷ value_token value ∷ []

abbrev pub object_tokens : List (List ℕ) → List Value → List Token
object_tokens names row = begin_object ∷ flat_map member_tokens (zip names row) ++ end_object ∷ []
