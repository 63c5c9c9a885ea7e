-- Command lines with an output format.
use Rattle.std.proofs.Common.{refl, sym, ap, subst, codes, ℕ, Bool, true, false, true≢false, Option, Some, None, is_some, List, [], ◌∷◌, ◌++◌, ◌≡◌, ◌==◌, ◌∙◌, eqb-true}
use Rattle.clap.specs.Walk.{Row, Text, Waiting, first_of}
use Rattle.clap.specs.declared.error.kind.ErrorKind.TheVariants.{InvalidValue}
use Rattle.clap.proofs.OnLiterals.{clap_on_literals}
use Rattle.gq_options.specs.CommandLine.{Asked, OutputsWorked, TakesOutput, asked_in, has_dash, is_output, output_by, output_named, script_fault, seed_fault, values_in}
use Rattle.gq_options.specs.declared.options.Output.{Output}
use Rattle.gq_options.proofs.OptionLemmas.{Puts, Waits, alone, before, behind, twice-refused, value-turns, word-alone}
use Rattle.gq_options.proofs.StepLemmas.{Asks, Fails, Settles, fails-last, fails-on, holding, nothing-waits, refuses, with-defaults}

none≢some : (output : Output) → None ≡ Some output → ⊥
none≢some output e = let bad : false ≡ true = ap is_some e in true≢false (sym bad)

-- the name of an output format begins with no dash
output-plain : (text : Text) (output : Output) → output_named text ≡ Some output → has_dash text ≡ false
output-plain [] output is = refl
output-plain (c ∷ cs) output is = by-dash (c == 45) refl
  where
    by-dash : (b : Bool) → (c == 45) ≡ b → b ≡ false
    by-dash false e = refl
    by-dash true e = absurd (none≢some output (subst (λ x. output_named (x ∷ cs) ≡ Some output) (eqb-true c 45 e) is))

-- rows with the name of an output format
asks-output : {rows : List Row} {asked : Asked} (text : Text) (output : Output) → output_named text ≡ Some output → first_of (codes "output") (with-defaults rows) ≡ Some text
    → seed_fault (first_of (codes "seed") (with-defaults rows)) ≡ [] → script_fault (first_of (codes "SCRIPT") (with-defaults rows)) (values_in (codes "command") (with-defaults rows)) ≡ []
    → record (asked_in (with-defaults rows)) { output = output } ≡ asked → Asks rows asked
asks-output {rows} text output is there seed script asked_is = record {
  faultless = rw (seed, there, is) script;
  asked_is = ap (λ (o : Output). record (asked_in (with-defaults rows)) { output = o }) (ap output_by there ∙ rw is refl) ∙ asked_is;
}

-- the text names no output format, which is found after the last word
names-no-output : {rows after : List Row} {pending : Option (Text × List Text)} {waiting : Waiting} {position : ℕ} (text : Text)
    → Settles rows pending after → seed_fault (first_of (codes "seed") (with-defaults after)) ≡ [] → first_of (codes "output") (with-defaults after) ≡ Some text → is_output text ≡ false
    → Fails (holding rows pending waiting position) [] InvalidValue
names-no-output text settles seed there is = fails-last settles (rw (seed, there, is) refl)

-- `--output FORMAT`, and `-o FORMAT`; any text is its value, and is read after the last word
output-waits : Waits (codes "--output") (codes "output") (λ text. true)
unfolding clap_on_literals
output-waits = record {
  turns = λ settles. record { faultless = rw settles.faultless refl; leads = rw settles.put_in refl };
  value = λ plain. value-turns plain refl;
  settles = λ new is. record { faultless = rw new refl; put_in = refl };
  refused = λ text is. absurd (true≢false is);
}

o-waits : Waits (codes "-o") (codes "output") (λ text. true)
unfolding clap_on_literals
o-waits = record {
  turns = λ settles. record { faultless = rw settles.faultless refl; leads = rw settles.put_in refl };
  value = λ plain. value-turns plain refl;
  settles = λ new is. record { faultless = rw new refl; put_in = refl };
  refused = λ text is. absurd (true≢false is);
}

-- `--output=FORMAT`
pub output-puts : (text : Text) → Puts (codes "--output=" ++ text) (codes "output") text
unfolding clap_on_literals
output-puts text = record {
  turns = λ settles new. record { faultless = rw (settles.faultless, settles.put_in, new) refl; leads = rw settles.put_in refl };
}

pub takes-output : TakesOutput
unfolding clap_on_literals
takes-output = record {
  alone = λ name text output is. alone output-waits name refl (output-plain text output is) (asks-output text output is refl refl refl refl);
  short = λ name text output is. alone o-waits name refl (output-plain text output is) (asks-output text output is refl refl refl refl);
  before = λ name text path output is plain. before o-waits name refl (output-plain text output is) plain refl (asks-output text output is refl refl refl refl);
  behind = λ name text path output is plain. behind o-waits name refl (output-plain text output is) plain refl (asks-output text output is refl refl refl refl);
  joined = λ name text output is. word-alone (output-puts text) name (asks-output text output is refl refl refl refl);
  no_output = λ name text is plain.
      refuses name
      (fails-on (o-waits.turns nothing-waits)
      (fails-on (o-waits.value plain)
      (names-no-output text (o-waits.settles refl refl) refl refl is)));
  joined_no_output = λ name text is.
      refuses name
      (fails-on ((output-puts text).turns nothing-waits refl)
      (names-no-output text nothing-waits refl refl is));
  without_value = λ name. refl;
  twice = λ name one two. twice-refused o-waits output-waits (λ one two. refl) name one two refl;
}

pub outputs-worked : OutputsWorked
unfolding clap_on_literals
outputs-worked = record {
  replies = λ name. record { accepted = refl; asked_is = refl };
  csv = λ name. record { accepted = refl; asked_is = refl };
  json = λ name. record { accepted = refl; asked_is = refl };
  box = λ name. record { accepted = refl; asked_is = refl };
  capitals = λ name. refl;
  longer = λ name. refl;
  empty = λ name. refl;
}
