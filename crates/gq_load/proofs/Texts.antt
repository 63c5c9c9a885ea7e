-- Fields that are texts, or none.
use Rattle.std.proofs.Common.{◌≡◌, ◌<◌, ◌≤◌, ℕ, Bool, true, false, List, [], length, Ok, Err, refl, ap, arith}
use Rattle.std.specs.Prelude.{codes, nat_lt}
use Rattle.std.specs.Str.{IsUtf8, is_utf8}
use Rattle.std.proofs.lemmas.Str.{IsUtf8-from_ascii, IsUtf8-from_is_utf8, is_utf8-from_IsUtf8}
use Rattle.std.proofs.lemmas.Bool.Decides.{nat_tests}
use Rattle.gq_row.specs.declared.value.Value.TheVariants.{Null, Text, NoCase}
use Rattle.gq_row.specs.declared.schema.Kind.{Kind}
use Rattle.gq_row.specs.declared.schema.Kind.TheVariants as kind
use Rattle.gq_row.specs.Folding.{without_case}
use Rattle.gq_load.specs.Answers.{◌>>=◌}
use Rattle.gq_load.specs.declared.load_refusal.LoadRefusal.TheVariants.{BadText, Limit}
use Rattle.gq_load.specs.Fields.{text_value, value_of}

no_text : (bs : List ℕ) → ¬ (IsUtf8 bs) → (b : Bool) → is_utf8 bs ≡ b → is_utf8 bs ≡ false
no_text bs bad true e = absurd (bad (IsUtf8-from_is_utf8 bs e))
no_text bs bad false e = e

pub bad_text : (most number : ℕ) (bs : List ℕ) → ¬ (IsUtf8 bs) → text_value most number bs ≡ Err (BadText number)
unfolding text_value
bad_text most number bs bad = rw (no_text bs bad (is_utf8 bs) refl) refl

pub long_text : (most number : ℕ) (bs : List ℕ) → IsUtf8 bs → most < length bs → text_value most number bs ≡ Err Limit
unfolding text_value
long_text most number bs text long =
    let over : nat_lt most (length bs) ≡ true = grind (arith, nat_tests) in
    rw (is_utf8-from_IsUtf8 bs text, over) refl

pub good_text : (most number : ℕ) (bs : List ℕ) → IsUtf8 bs → length bs ≤ most → text_value most number bs ≡ Ok (Text bs)
unfolding text_value
good_text most number bs text short =
    let under : nat_lt most (length bs) ≡ false = grind (arith, nat_tests) in
    rw (is_utf8-from_IsUtf8 bs text, under) refl

-- nulls, and the empty field

pub marked : (longest number : ℕ) (k : Kind) → value_of longest number k (codes "\\N") ≡ Ok Null
unfolding value_of
marked longest number kind.Int = refl
marked longest number kind.Text = refl
marked longest number kind.NoCase = refl

pub empty_int : (longest number : ℕ) → value_of longest number kind.Int [] ≡ Ok Null
unfolding value_of
empty_int longest number = refl

pub empty_text : (longest number : ℕ) → value_of longest number kind.Text [] ≡ Ok (Text [])
unfolding value_of
empty_text longest number = good_text longest number [] (IsUtf8-from_ascii [] (λ i. omega arith)) (omega arith)

pub empty_no_case : (longest number : ℕ) → value_of longest number kind.NoCase [] ≡ Ok (NoCase [])
unfolding value_of
empty_no_case longest number = ap (λ r. r >>= λ text. Ok (without_case text)) (good_text longest number [] (IsUtf8-from_ascii [] (λ i. omega arith)) (omega arith))
