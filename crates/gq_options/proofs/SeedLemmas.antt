-- Command lines with a seed.
use Rattle.std.proofs.Common.{arith, refl, sym, ap, subst, codes, ℕ, Bool, true, false, true≢false, Option, Some, None, Ok, Err, List, [], ◌∷◌, ◌++◌, ◌≡◌, ◌&&◌, ◌^◌, nat_le, nat_lt, ltb-true, le-leb, ◌∙◌}
use Rattle.std.proofs.lemmas.Slice.Eq.{bytes_eq-Decides}
use Rattle.std.specs.Str.Parse.{ParsesUnsigned, without_leading_plus}
use Rattle.clap.specs.Words.{Text}
use Rattle.clap.specs.Kinds.{Kinds, or_else}
use Rattle.clap.specs.ValueTests.{is_numeral, is_unsigned_in}
use Rattle.clap.specs.Walk.{Row, first_of, idle}
use Rattle.clap.specs.declared.builder.value_parser.ValueParser.TheVariants.{Unsigned}
use Rattle.clap.specs.declared.error.kind.ErrorKind.TheVariants.{ValueValidation}
use Rattle.clap.proofs.OnLiterals.{clap_on_literals}
use Rattle.clap.proofs.ValueTestLemmas.{Accepts-accepts, accepts-Accepts}
use Rattle.clap.proofs.WalkLemmas.{both}
use Rattle.gq_options.specs.CommandLine.{Asked, SeedsWorked, TakesOneSeed, asked_in, has_dash, is_random, is_seed, number_of, output_fault, script_fault, seed_by, seed_fault, seed_named, values_in}
use Rattle.gq_options.specs.declared.options.Seed.{Seed}
use Rattle.gq_options.specs.declared.options.Seed.TheVariants.{Number}
use Rattle.gq_options.proofs.OptionLemmas.{Puts, Waits, alone, before, behind, numeral-plain, twice-refused, value-turns, word-alone, word-before, word-behind}
use Rattle.gq_options.proofs.StepLemmas.{Asks, fails-on, holding, names-no-seed, next-word, nothing-waits, path-settles, path-turns, put, refuses, with-defaults}
use Rattle.gq_options.proofs.KeptLemmas.{refused-behind}

-- a seed begins with no dash
seed-plain : (text : Text) → is_seed text ≡ true → has_dash text ≡ false
seed-plain text is = numeral-plain text (both (is_numeral (without_leading_plus text)) (nat_lt (number_of text) (2 ^ 64)) is).0

-- clap's test of a number is that of a seed
pub same-test : (text : Text) → is_unsigned_in 0 18446744073709551615 text ≡ is_seed text
same-test text = ap (λ b. is_numeral (without_leading_plus text) && b) (by-size (nat_lt (number_of text) (2 ^ 64)) refl)
  where
    by-size : (b : Bool) → nat_lt (number_of text) (2 ^ 64) ≡ b → (b && (nat_le 0 (number_of text) && nat_le (number_of text) 18446744073709551615)) ≡ b
    by-size false e = refl
    by-size true e =
        let low : nat_le 0 (number_of text) ≡ true = le-leb 0 (number_of text) (omega arith) in
        let small = ltb-true (number_of text) (2 ^ 64) e in
        let high : nat_le (number_of text) 18446744073709551615 ≡ true = le-leb (number_of text) 18446744073709551615 (omega arith) in
        rw (low, high) refl

-- the digits of a number are not the word
pub number-no-word : (text : Text) → is_seed text ≡ true → is_random text ≡ false
number-no-word text is = by-word (is_random text) refl
  where
    by-word : (b : Bool) → is_random text ≡ b → b ≡ false
    by-word false e = refl
    by-word true e =
        let bad : is_seed (codes "random") ≡ true = subst (λ t. is_seed t ≡ true) ((bytes_eq-Decides text (codes "random")).0 e) is in
        absurd (true≢false (sym bad))

pub number-named : (text : Text) → is_seed text ≡ true → seed_named text ≡ Number (number_of text)
number-named text is = rw (number-no-word text is) refl

-- what `parse` reads of a text that is not the word
pub parsed-seed : (E : Type 0) (text : Text) (n : ℕ) → ParsesUnsigned {E = E} 64 10 text (Ok n) → is_seed text ≡ true
parsed-seed E text n parsed =
    sym (same-test text) ∙ Accepts-accepts false (Unsigned 0 18446744073709551615) text (parsed.0.0, parsed.0.1, omega arith, omega (arith, parsed.0.1))

pub unparsed-seed : (E : Type 0) (text : Text) (e : E) → ParsesUnsigned {E = E} 64 10 text (Err e) → is_seed text ≡ false
unparsed-seed E text e unparsed = by-test (is_seed text) refl
  where
    by-test : (b : Bool) → is_seed text ≡ b → b ≡ false
    by-test false e = refl
    by-test true e =
        let passes = accepts-Accepts false (Unsigned 0 18446744073709551615) text (same-test text ∙ e) in
        absurd (unparsed (passes.0, passes.1))

-- what the matches' text of the seed is read as
pub number-read : (named : Option Text) (text : Text) (n : ℕ) → named ≡ Some text → is_random text ≡ false → is_seed text ≡ true → n ≡ number_of text
    → (seed_fault named ≡ []) × (seed_by named ≡ Number n)
number-read named text n is plain number n_is = (rw (is, plain, number) refl, rw (is, plain) (ap Number (sym n_is)))

pub text-refused : (named : Option Text) (text : Text) → named ≡ Some text → is_random text ≡ false → is_seed text ≡ false → seed_fault named ≡ ValueValidation ∷ []
text-refused named text is plain number = rw (is, plain, number) refl

-- the faults of rows after the seed's
abbrev other-faults : List Row → Kinds
other-faults rows = or_else (output_fault (first_of (codes "output") rows)) (script_fault (first_of (codes "SCRIPT") rows) (values_in (codes "command") rows))

-- rows whose seed is a number
pub asks-number : {rows : List Row} {asked : Asked} (text : Text) → is_seed text ≡ true → first_of (codes "seed") (with-defaults rows) ≡ Some text
    → other-faults (with-defaults rows) ≡ [] → record (asked_in (with-defaults rows)) { seed = Number (number_of text) } ≡ asked → Asks rows asked
asks-number {rows} text is there others asked_is = record {
  faultless = rw (there, number-no-word text is, is) others;
  asked_is = ap (λ (s : Seed). record (asked_in (with-defaults rows)) { seed = s }) (ap seed_by there ∙ number-named text is) ∙ asked_is;
}

-- `--seed N`; any text is its value, and is read after the last word
pub seed-waits : Waits (codes "--seed") (codes "seed") (λ text. true)
unfolding clap_on_literals
seed-waits = record {
  turns = λ settles. record { faultless = rw settles.faultless refl; leads = rw settles.put_in refl };
  value = λ plain. value-turns plain refl;
  settles = λ new is. record { faultless = rw new refl; put_in = refl };
  refused = λ text is. absurd (true≢false is);
}

-- `--seed=N`
pub seed-puts : (text : Text) → Puts (codes "--seed=" ++ text) (codes "seed") text
unfolding clap_on_literals
seed-puts text = record {
  turns = λ settles new. record { faultless = rw (settles.faultless, settles.put_in, new) refl; leads = rw settles.put_in refl };
}

pub takes-one-seed : TakesOneSeed
unfolding clap_on_literals
takes-one-seed = record {
  alone = λ name seed is. alone seed-waits name refl (seed-plain seed is) (asks-number seed is refl refl refl);
  before = λ name seed path is plain. before seed-waits name refl (seed-plain seed is) plain refl (asks-number seed is refl refl refl);
  behind = λ name seed path is plain. behind seed-waits name refl (seed-plain seed is) plain refl (asks-number seed is refl refl refl);
  joined = λ name seed is. word-alone (seed-puts seed) name (asks-number seed is refl refl refl);
  joined_before = λ name seed path is plain. word-before (seed-puts seed) name plain refl (asks-number seed is refl refl refl);
  joined_after = λ name seed path is plain. word-behind (seed-puts seed) name plain refl (asks-number seed is refl refl refl);
  no_seed = λ name text is plain.
      refuses name
      (fails-on (seed-waits.turns nothing-waits)
      (fails-on (seed-waits.value plain)
      (names-no-seed text (seed-waits.settles refl refl) refl is)));
  joined_no_seed = λ name text more is e.
      refused-behind text more (holding (put (codes "seed") text []) None idle 1) refl refl is
      (sym (next-word (holding [] None idle 1) (holding (put (codes "seed") text []) None idle 1) (codes "--seed=" ++ text) more ((seed-puts text).turns nothing-waits refl)) ∙ e);
  no_seed_alone = λ name text is.
      refuses name
      (fails-on ((seed-puts text).turns nothing-waits refl)
      (names-no-seed text nothing-waits refl is));
  no_seed_before = λ name text path is plain.
      refuses name
      (fails-on ((seed-puts text).turns nothing-waits refl)
      (fails-on (path-turns {path = path} nothing-waits plain)
      (names-no-seed text (path-settles refl) refl is)));
  no_seed_after = λ name text path is plain.
      refuses name
      (fails-on (path-turns {path = path} nothing-waits plain)
      (fails-on ((seed-puts text).turns (path-settles refl) refl)
      (names-no-seed text nothing-waits refl is)));
  below_zero = λ name more. refl;
  without_value = λ name. refl;
  twice = λ name one two. twice-refused seed-waits seed-waits (λ one two. refl) name one two refl;
}

pub seeds-worked : SeedsWorked
unfolding clap_on_literals
seeds-worked = record {
  five = λ name. record { accepted = refl; asked_is = refl };
  joined_five = λ name. record { accepted = refl; asked_is = refl };
  with_plus = λ name. record { accepted = refl; asked_is = refl };
  greatest = λ name. record { accepted = refl; asked_is = refl };
  too_great = λ name. refl;
  letter = λ name. refl;
  empty = λ name. refl;
}
