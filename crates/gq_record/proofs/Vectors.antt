-- Worked examples, which the checker computes.
use Rattle.std.proofs.Common.{◌≡◌, [], ◌∷◌, refl}
use Rattle.std.specs.Prelude.{neg_ℤ, pos}
use Rattle.gq_row.specs.declared.value.Value.TheVariants.{Null, Int, Text, NoCase}
use Rattle.gq_record.specs.Records.{record_of, value_bytes}

-- null, -1 and Oslo: 23 bytes
three_values : record_of (Null ∷ Int (neg_ℤ (pos 1)) ∷ Text (79 ∷ 115 ∷ 108 ∷ 111 ∷ []) ∷ [])
    ≡ 0 ∷ 0 ∷ 0 ∷ 0x13 ∷ 0 ∷ 1 ∷ 0xff ∷ 0xff ∷ 0xff ∷ 0xff ∷ 0xff ∷ 0xff ∷ 0xff ∷ 0xff ∷ 2 ∷ 0 ∷ 0 ∷ 0 ∷ 4 ∷ 0x4f ∷ 0x73 ∷ 0x6c ∷ 0x6f ∷ []
unfolding record_of value_bytes
three_values = refl

-- Oslo without case: as it is written, after a tag of its own
one_without_case : record_of (NoCase (79 ∷ 115 ∷ 108 ∷ 111 ∷ []) ∷ []) ≡ 0 ∷ 0 ∷ 0 ∷ 9 ∷ 3 ∷ 0 ∷ 0 ∷ 0 ∷ 4 ∷ 0x4f ∷ 0x73 ∷ 0x6c ∷ 0x6f ∷ []
unfolding record_of value_bytes
one_without_case = refl

-- no value at all
no_value : record_of [] ≡ 0 ∷ 0 ∷ 0 ∷ 0 ∷ []
unfolding record_of
no_value = refl
