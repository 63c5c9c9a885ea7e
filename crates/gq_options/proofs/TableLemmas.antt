-- Command lines with tables.
use Rattle.std.proofs.Common.{refl, codes, ℕ, true, false, true≢false, Some, List, [], ◌∷◌, ◌++◌, ◌≡◌, ◌==◌}
use Rattle.clap.specs.Words.{Row, Text}
use Rattle.clap.proofs.OnLiterals.{clap_on_literals}
use Rattle.gq_options.specs.CommandLine.{DEFAULTS, TablesWorked, TakesTables}
use Rattle.gq_options.proofs.OptionLemmas.{Waits, alone, before, behind, value-turns, word-alone, word-before, word-behind}
use Rattle.gq_options.proofs.RepeatLemmas.{Adds, add, adds-puts, both-values, listed, names-many, put-settles}
use Rattle.gq_options.proofs.StepLemmas.{Asks, Settles, asks}

table-settles : (rows : List Row) (text : Text) → Settles rows (Some (codes "table", text ∷ [])) (add (codes "table") text rows)
table-settles rows text = record { faultless = refl; put_in = refl }

-- `--table FILE`, and `-t FILE`; any text is a value
table-waits : Waits (codes "--table") (codes "table") (λ text. true)
unfolding clap_on_literals
table-waits = record {
  turns = λ settles. record { faultless = rw settles.faultless refl; leads = rw settles.put_in refl };
  value = λ plain. value-turns plain refl;
  settles = λ {rows} {text} new is. put-settles (table-settles rows text) new;
  refused = λ text is. absurd (true≢false is);
}

t-waits : Waits (codes "-t") (codes "table") (λ text. true)
unfolding clap_on_literals
t-waits = record {
  turns = λ settles. record { faultless = rw settles.faultless refl; leads = rw settles.put_in refl };
  value = λ plain. value-turns plain refl;
  settles = λ {rows} {text} new is. put-settles (table-settles rows text) new;
  refused = λ text is. absurd (true≢false is);
}

-- `--table=FILE`, `-tFILE` and `-t=FILE`
pub table-adds : (file : Text) → Adds (codes "--table=" ++ file) (codes "table") file
unfolding clap_on_literals
table-adds file = record {
  turns = λ settles. record { faultless = rw settles.faultless refl; leads = rw settles.put_in refl };
}

t-adds : (c : ℕ) (file : Text) → (c == 61) ≡ false → Adds (codes "-t" ++ c ∷ file) (codes "table") (c ∷ file)
unfolding clap_on_literals
t-adds c file plain = record {
  turns = λ settles. record { faultless = rw (plain, settles.faultless) refl; leads = rw (plain, settles.put_in) refl };
}

t-equals-adds : (file : Text) → Adds (codes "-t=" ++ file) (codes "table") file
unfolding clap_on_literals
t-equals-adds file = record {
  turns = λ settles. record { faultless = rw settles.faultless refl; leads = rw settles.put_in refl };
}

asks-tables : (files : List Text) → Asks (listed (codes "table") files) (record DEFAULTS { tables = files })
asks-tables [] = asks refl refl
asks-tables (file ∷ files) = asks refl refl

pub takes-tables : TakesTables
unfolding clap_on_literals
takes-tables = record {
  alone = λ name file plain. alone table-waits name refl plain (asks refl refl);
  short = λ name file plain. alone t-waits name refl plain (asks refl refl);
  dash = λ name. record { accepted = refl; asked_is = refl };
  before = λ name file path plain path_plain. before t-waits name refl plain path_plain refl (asks refl refl);
  behind = λ name file path plain path_plain. behind t-waits name refl plain path_plain refl (asks refl refl);
  joined = λ name file. word-alone (adds-puts (table-adds file)) name (asks refl refl);
  joined_before = λ name file path plain. word-before (adds-puts (table-adds file)) name plain refl (asks refl refl);
  joined_after = λ name file path plain. word-behind (adds-puts (table-adds file)) name plain refl (asks refl refl);
  short_joined = λ name c file plain. word-alone (adds-puts (t-adds c file plain)) name (asks refl refl);
  short_equals = λ name file. word-alone (adds-puts (t-equals-adds file)) name (asks refl refl);
  two = λ name one two plain two_plain. both-values name t-waits table-settles refl plain two_plain (asks refl refl);
  many = names-many (λ file. codes "--table=" ++ file) table-adds refl (λ files. record DEFAULTS { tables = files }) asks-tables;
  option_after = λ name more. refl;
  without_value = λ name. refl;
  short_without_value = λ name. refl;
}

pub tables-worked : TablesWorked
unfolding clap_on_literals
tables-worked = record {
  files = λ name. record { accepted = refl; asked_is = refl };
  around = λ name. record { accepted = refl; asked_is = refl };
  two_after = λ name. refl;
  flag_after = λ name. refl;
  help_example = λ name. record { accepted = refl; asked_is = refl };
}
