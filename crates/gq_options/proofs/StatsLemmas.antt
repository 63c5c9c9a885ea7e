-- Command lines that ask for a report.
use Rattle.std.proofs.Common.{refl, codes}
use Rattle.clap.proofs.OnLiterals.{clap_on_literals}
use Rattle.gq_options.specs.CommandLine.{TakesStats}
use Rattle.gq_options.proofs.BudgetLemmas.{budget-puts}
use Rattle.gq_options.proofs.FolderLemmas.{spill-puts}
use Rattle.gq_options.proofs.OptionLemmas.{Puts, both-words, word-alone, word-before, word-behind}
use Rattle.gq_options.proofs.SeedLemmas.{asks-number, seed-puts}
use Rattle.gq_options.proofs.StepLemmas.{asks, ends, goes-on, names, nothing-waits}

pub stats-puts : Puts (codes "--stats") (codes "stats") (codes "true")
unfolding clap_on_literals
stats-puts = record {
  turns = λ settles new. record { faultless = rw (settles.faultless, settles.put_in, new) refl; leads = rw settles.put_in refl };
}

pub takes-stats : TakesStats
unfolding clap_on_literals
takes-stats = record {
  alone = λ name. word-alone stats-puts name (asks refl refl);
  before = λ name path plain. word-before stats-puts name plain refl (asks refl refl);
  behind = λ name path plain. word-behind stats-puts name plain refl (asks refl refl);
  with_value = λ name text more. refl;
  twice = λ name more. refl;
  seed_first = λ name seed is. both-words name (seed-puts seed) stats-puts refl (asks-number seed is refl refl refl);
  before_seed = λ name seed is. both-words name stats-puts (seed-puts seed) refl (asks-number seed is refl refl refl);
  budget_first = λ name budget is. both-words name (budget-puts budget is) stats-puts refl (asks refl refl);
  before_budget = λ name budget is. both-words name stats-puts (budget-puts budget is) refl (asks refl refl);
  folder_first = λ name folder. both-words name (spill-puts folder) stats-puts refl (asks refl refl);
  before_folder = λ name folder. both-words name stats-puts (spill-puts folder) refl (asks refl refl);
  all = λ name seed budget folder is_s is_b.
      names name
      (goes-on ((seed-puts seed).turns nothing-waits refl)
      (goes-on ((budget-puts budget is_b).turns nothing-waits refl)
      (goes-on ((spill-puts folder).turns nothing-waits refl)
      (goes-on (stats-puts.turns nothing-waits refl)
      (ends nothing-waits (asks-number seed is_s refl refl refl))))));
}
