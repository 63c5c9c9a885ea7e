-- Command lines with a folder.
use Rattle.std.proofs.Common.{refl, codes, true, true≢false, ◌++◌}
use Rattle.clap.specs.Words.{Text}
use Rattle.clap.proofs.OnLiterals.{clap_on_literals}
use Rattle.gq_options.specs.CommandLine.{FoldersWorked, TakesOneFolder}
use Rattle.gq_options.proofs.BudgetLemmas.{budget-puts}
use Rattle.gq_options.proofs.OptionLemmas.{Puts, Waits, alone, before, behind, both-words, twice-refused, value-turns, word-alone, word-before, word-behind}
use Rattle.gq_options.proofs.SeedLemmas.{asks-number, seed-puts}
use Rattle.gq_options.proofs.StepLemmas.{asks}

-- `--spill DIR`; any text is a folder's name
spill-waits : Waits (codes "--spill") (codes "spill") (λ text. true)
unfolding clap_on_literals
spill-waits = record {
  turns = λ settles. record { faultless = rw settles.faultless refl; leads = rw settles.put_in refl };
  value = λ plain. value-turns plain refl;
  settles = λ new is. record { faultless = rw new refl; put_in = refl };
  refused = λ text is. absurd (true≢false is);
}

-- `--spill=DIR`
pub spill-puts : (folder : Text) → Puts (codes "--spill=" ++ folder) (codes "spill") folder
unfolding clap_on_literals
spill-puts folder = record {
  turns = λ settles new. record { faultless = rw (settles.faultless, settles.put_in, new) refl; leads = rw settles.put_in refl };
}

pub takes-one-folder : TakesOneFolder
unfolding clap_on_literals
takes-one-folder = record {
  alone = λ name folder plain. alone spill-waits name refl plain (asks refl refl);
  dash = λ name. record { accepted = refl; asked_is = refl };
  before = λ name folder path plain path_plain. before spill-waits name refl plain path_plain refl (asks refl refl);
  behind = λ name folder path plain path_plain. behind spill-waits name refl plain path_plain refl (asks refl refl);
  joined = λ name folder. word-alone (spill-puts folder) name (asks refl refl);
  joined_before = λ name folder path plain. word-before (spill-puts folder) name plain refl (asks refl refl);
  joined_after = λ name folder path plain. word-behind (spill-puts folder) name plain refl (asks refl refl);
  option_after = λ name more. refl;
  without_value = λ name. refl;
  before_dashes = λ name path. refl;
  twice = λ name one two. twice-refused spill-waits spill-waits (λ one two. refl) name one two refl;
  seed_first = λ name seed folder is. both-words name (seed-puts seed) (spill-puts folder) refl (asks-number seed is refl refl refl);
  before_seed = λ name seed folder is. both-words name (spill-puts folder) (seed-puts seed) refl (asks-number seed is refl refl refl);
  budget_first = λ name budget folder is. both-words name (budget-puts budget is) (spill-puts folder) refl (asks refl refl);
  before_budget = λ name budget folder is. both-words name (spill-puts folder) (budget-puts budget is) refl (asks refl refl);
}

pub folders-worked : FoldersWorked
unfolding clap_on_literals
folders-worked = record {
  folder = λ name. record { accepted = refl; asked_is = refl };
  empty = λ name. record { accepted = refl; asked_is = refl };
  dashed = λ name. record { accepted = refl; asked_is = refl };
  flag_after = λ name. refl;
  all = λ name. record { accepted = refl; asked_is = refl };
}
