-- Worked values, which the checker computes. Each was worked out by hand.
use Rattle.std.proofs.Common.{◌≡◌, ◌∷◌, [], List, pos, false, Some, codes, refl}
use Rattle.gq_row.specs.declared.value.Value.{Value}
use Rattle.gq_row.specs.declared.value.Value.TheVariants.{Null, Int, Text, NoCase}
use Rattle.gq_agg.specs.declared.kind.AggKind.TheVariants.{Count, Sum, Min, Max}
use Rattle.gq_agg.specs.Aggregates.{aggregate, takes}
use Rattle.gq_agg.specs.Values.{different}

-- ---- three spellings of a name in texts without case, and null

abbrev spellings : List Value
spellings = NoCase (codes "oslo") ∷ NoCase (codes "OSLO") ∷ Null ∷ NoCase (codes "Oslo") ∷ []

capitals_are_the_least_spelling : aggregate Min spellings ≡ Some (NoCase (codes "OSLO"))
capitals_are_the_least_spelling = refl

small_letters_are_the_greatest_spelling : aggregate Max spellings ≡ Some (NoCase (codes "oslo"))
small_letters_are_the_greatest_spelling = refl

each_spelling_is_counted : aggregate Count spellings ≡ Some (Int (pos 3))
each_spelling_is_counted = refl

they_are_one_value : different spellings ≡ 1
they_are_one_value = refl

-- by bytes the capitals would come first; folds decide
a_name_of_capitals_comes_after : aggregate Min (NoCase (codes "ROME") ∷ NoCase (codes "oslo") ∷ []) ≡ Some (NoCase (codes "oslo"))
a_name_of_capitals_comes_after = refl

with_case_they_are_two : different (Text (codes "oslo") ∷ Text (codes "OSLO") ∷ []) ≡ 2
with_case_they_are_two = refl

a_sum_takes_no_text_without_case : takes Sum (NoCase (codes "1")) ≡ false
a_sum_takes_no_text_without_case = refl
