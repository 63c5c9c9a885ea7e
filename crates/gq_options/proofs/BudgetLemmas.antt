-- Command lines with a budget.
use Rattle.std.proofs.Common.{arith, refl, sym, ap, subst, codes, Bool, true, false, true≢false, Some, ◌++◌, ◌≡◌, ◌&&◌, ◌^◌, nat_le, nat_lt, leb-true, lt-ltb, ◌∙◌}
use Rattle.std.proofs.Math.Bool.{and-false}
use Rattle.std.specs.Prelude.{ℤ, pos}
use Rattle.std.specs.Str.Parse.{without_leading_plus}
use Rattle.clap.specs.Words.{NarrowsTo, Text}
use Rattle.clap.specs.ValueTests.{is_numeral, is_unsigned_in}
use Rattle.clap.specs.declared.builder.value_parser.ValueParser.{ValueParser}
use Rattle.clap.specs.declared.builder.value_parser.ValueParser.TheVariants.{Unsigned}
use Rattle.clap.proofs.OnLiterals.{clap_on_literals}
use Rattle.clap.proofs.WalkLemmas.{both}
use Rattle.gq_options.specs.CommandLine.{BudgetsWorked, TakesOneBudget, has_dash, is_budget, number_of}
use Rattle.gq_options.proofs.OptionLemmas.{Puts, Waits, alone, before, behind, both-words, numeral-plain, twice-refused, value-refused, value-turns, word-alone, word-before, word-behind}
use Rattle.gq_options.proofs.SeedLemmas.{asks-number, seed-puts}
use Rattle.gq_options.proofs.StepLemmas.{asks}

-- clap's parser of numbers, narrowed to budgets
pub narrowed-to : (parser narrow : ValueParser) (least most : ℤ) → parser ≡ Unsigned 0 18446744073709551615 → least ≡ pos 1 → most ≡ pos 1048576
    → NarrowsTo parser (Some least) (Some most) narrow → narrow ≡ Unsigned 1 1048576
narrowed-to parser narrow least most p_is l_is m_is n =
    let parsed = subst (λ p. NarrowsTo p (Some least) (Some most) narrow) p_is n in
    let from = subst (λ l. NarrowsTo (Unsigned 0 18446744073709551615) (Some l) (Some most) narrow) l_is parsed in
    subst (λ m. NarrowsTo (Unsigned 0 18446744073709551615) (Some (pos 1)) (Some m) narrow) m_is from

-- a budget begins with no dash
budget-plain : (text : Text) → is_budget text ≡ true → has_dash text ≡ false
budget-plain text is = numeral-plain text (both (is_numeral (without_leading_plus text)) (nat_le 1 (number_of text) && nat_le (number_of text) 1048576) is).0

-- clap's test of a number of 1 to 1,048,576 is that of a budget
pub same-test : (text : Text) → is_unsigned_in 1 1048576 text ≡ is_budget text
same-test text = ap (λ b. is_numeral (without_leading_plus text) && b) (by-size (nat_lt (number_of text) (2 ^ 64)) refl (nat_le (number_of text) 1048576) refl)
  where
    by-size : (b : Bool) → nat_lt (number_of text) (2 ^ 64) ≡ b → (c : Bool) → nat_le (number_of text) 1048576 ≡ c
        → (b && (nat_le 1 (number_of text) && c)) ≡ (nat_le 1 (number_of text) && c)
    by-size true e c f = refl
    by-size false e false f = sym (and-false (nat_le 1 (number_of text)))
    by-size false e true f =
        let few = leb-true (number_of text) 1048576 f in
        let small : nat_lt (number_of text) (2 ^ 64) ≡ true = lt-ltb (number_of text) (2 ^ 64) (omega arith) in
        absurd (true≢false (sym small ∙ e))

-- `--budget N`
budget-waits : Waits (codes "--budget") (codes "budget") is_budget
unfolding clap_on_literals
budget-waits = record {
  turns = λ settles. record { faultless = rw settles.faultless refl; leads = rw settles.put_in refl };
  value = λ plain. value-turns plain refl;
  settles = λ {rows} {text} new is. record { faultless = rw (new, same-test text ∙ is) refl; put_in = refl };
  refused = λ text is. rw (same-test text ∙ is) refl;
}

-- `--budget=N`
pub budget-puts : (budget : Text) → is_budget budget ≡ true → Puts (codes "--budget=" ++ budget) (codes "budget") budget
unfolding clap_on_literals
budget-puts budget is = record {
  turns = λ settles new. record { faultless = rw (settles.faultless, settles.put_in, new, same-test budget ∙ is) refl; leads = rw settles.put_in refl };
}

pub takes-one-budget : TakesOneBudget
unfolding clap_on_literals
takes-one-budget = record {
  alone = λ name budget is. alone budget-waits name is (budget-plain budget is) (asks refl refl);
  before = λ name budget path is plain. before budget-waits name is (budget-plain budget is) plain refl (asks refl refl);
  behind = λ name budget path is plain. behind budget-waits name is (budget-plain budget is) plain refl (asks refl refl);
  joined = λ name budget is. word-alone (budget-puts budget is) name (asks refl refl);
  joined_before = λ name budget path is plain. word-before (budget-puts budget is) name plain refl (asks refl refl);
  joined_after = λ name budget path is plain. word-behind (budget-puts budget is) name plain refl (asks refl refl);
  no_budget = value-refused budget-waits;
  joined_no_budget = λ name text more is. rw (same-test text ∙ is) refl;
  below_zero = λ name more. refl;
  without_value = λ name. refl;
  twice = λ name one two is. twice-refused budget-waits budget-waits (λ one two. refl) name one two is (budget-plain one is);
  seed_first = λ name seed budget is_s is_b. both-words name (seed-puts seed) (budget-puts budget is_b) refl (asks-number seed is_s refl refl refl);
  budget_first = λ name seed budget is_s is_b. both-words name (budget-puts budget is_b) (seed-puts seed) refl (asks-number seed is_s refl refl refl);
}

pub budgets-worked : BudgetsWorked
unfolding clap_on_literals
budgets-worked = record {
  ten = λ name. record { accepted = refl; asked_is = refl };
  least = λ name. record { accepted = refl; asked_is = refl };
  greatest = λ name. record { accepted = refl; asked_is = refl };
  none = λ name. refl;
  too_great = λ name. refl;
  letter = λ name. refl;
  with_seed = λ name. record { accepted = refl; asked_is = refl };
}
