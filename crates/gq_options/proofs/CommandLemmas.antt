-- Command lines with commands.
use Rattle.std.proofs.Common.{refl, codes, ℕ, true, false, true≢false, Some, List, [], ◌∷◌, ◌++◌, ◌≡◌, ◌==◌}
use Rattle.clap.specs.Words.{Row, Text}
use Rattle.clap.proofs.OnLiterals.{clap_on_literals}
use Rattle.gq_options.specs.CommandLine.{DEFAULTS, TakesCommands}
use Rattle.gq_options.proofs.OptionLemmas.{Waits, alone, value-turns, word-alone}
use Rattle.gq_options.proofs.RepeatLemmas.{Adds, add, adds-puts, both-values, listed, names-many, put-settles}
use Rattle.gq_options.proofs.StepLemmas.{Asks, Settles, asks, fails-last, fails-on, nothing-waits, path-settles, path-turns, refuses}

command-settles : (rows : List Row) (text : Text) → Settles rows (Some (codes "command", text ∷ [])) (add (codes "command") text rows)
command-settles rows text = record { faultless = refl; put_in = refl }

-- `--command LINES`, and `-c LINES`; any text is a value
command-waits : Waits (codes "--command") (codes "command") (λ text. true)
unfolding clap_on_literals
command-waits = record {
  turns = λ settles. record { faultless = rw settles.faultless refl; leads = rw settles.put_in refl };
  value = λ plain. value-turns plain refl;
  settles = λ {rows} {text} new is. put-settles (command-settles rows text) new;
  refused = λ text is. absurd (true≢false is);
}

c-waits : Waits (codes "-c") (codes "command") (λ text. true)
unfolding clap_on_literals
c-waits = record {
  turns = λ settles. record { faultless = rw settles.faultless refl; leads = rw settles.put_in refl };
  value = λ plain. value-turns plain refl;
  settles = λ {rows} {text} new is. put-settles (command-settles rows text) new;
  refused = λ text is. absurd (true≢false is);
}

-- `--command=LINES`, `-cLINES` and `-c=LINES`
pub command-adds : (lines : Text) → Adds (codes "--command=" ++ lines) (codes "command") lines
unfolding clap_on_literals
command-adds lines = record {
  turns = λ settles. record { faultless = rw settles.faultless refl; leads = rw settles.put_in refl };
}

c-adds : (c : ℕ) (lines : Text) → (c == 61) ≡ false → Adds (codes "-c" ++ c ∷ lines) (codes "command") (c ∷ lines)
unfolding clap_on_literals
c-adds c lines plain = record {
  turns = λ settles. record { faultless = rw (plain, settles.faultless) refl; leads = rw (plain, settles.put_in) refl };
}

c-equals-adds : (lines : Text) → Adds (codes "-c=" ++ lines) (codes "command") lines
unfolding clap_on_literals
c-equals-adds lines = record {
  turns = λ settles. record { faultless = rw settles.faultless refl; leads = rw settles.put_in refl };
}

asks-commands : (all : List Text) → Asks (listed (codes "command") all) (record DEFAULTS { commands = all })
asks-commands [] = asks refl refl
asks-commands (lines ∷ all) = asks refl refl

pub takes-commands : TakesCommands
unfolding clap_on_literals
takes-commands = record {
  alone = λ name lines plain. alone command-waits name refl plain (asks refl refl);
  short = λ name lines plain. alone c-waits name refl plain (asks refl refl);
  dash = λ name. record { accepted = refl; asked_is = refl };
  joined = λ name lines. word-alone (adds-puts (command-adds lines)) name (asks refl refl);
  short_joined = λ name c lines plain. word-alone (adds-puts (c-adds c lines plain)) name (asks refl refl);
  short_equals = λ name lines. word-alone (adds-puts (c-equals-adds lines)) name (asks refl refl);
  two = λ name one two plain two_plain. both-values name c-waits command-settles refl plain two_plain (asks refl refl);
  many = names-many (λ lines. codes "--command=" ++ lines) command-adds refl (λ all. record DEFAULTS { commands = all }) asks-commands;
  before = λ name lines path plain path_plain.
      refuses name
      (fails-on (c-waits.turns nothing-waits)
      (fails-on (c-waits.value plain)
      (fails-on (path-turns {path = path} (command-settles [] lines) path_plain)
      (fails-last (path-settles refl) refl))));
  behind = λ name lines path plain path_plain.
      refuses name
      (fails-on (path-turns {path = path} nothing-waits path_plain)
      (fails-on (c-waits.turns (path-settles refl))
      (fails-on (c-waits.value plain)
      (fails-last (command-settles _ lines) refl))));
  joined_before = λ name lines path plain.
      refuses name
      (fails-on ((command-adds lines).turns nothing-waits)
      (fails-on (path-turns {path = path} nothing-waits plain)
      (fails-last (path-settles refl) refl)));
  joined_after = λ name lines path plain.
      refuses name
      (fails-on (path-turns {path = path} nothing-waits plain)
      (fails-on ((command-adds lines).turns (path-settles refl))
      (fails-last nothing-waits refl)));
  option_after = λ name more. refl;
  without_value = λ name. refl;
  short_without_value = λ name. refl;
}
