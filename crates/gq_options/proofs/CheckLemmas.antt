-- Command lines that ask for a check.
use Rattle.std.proofs.Common.{refl, codes}
use Rattle.clap.proofs.OnLiterals.{clap_on_literals}
use Rattle.gq_options.specs.CommandLine.{TakesCheck}
use Rattle.gq_options.proofs.BudgetLemmas.{budget-puts}
use Rattle.gq_options.proofs.FolderLemmas.{spill-puts}
use Rattle.gq_options.proofs.OptionLemmas.{Puts, both-words, word-alone, word-before, word-behind}
use Rattle.gq_options.proofs.SeedLemmas.{asks-number, seed-puts}
use Rattle.gq_options.proofs.StatsLemmas.{stats-puts}
use Rattle.gq_options.proofs.StepLemmas.{asks, ends, goes-on, names, nothing-waits}

pub check-puts : Puts (codes "--check") (codes "check") (codes "true")
unfolding clap_on_literals
check-puts = record {
  turns = λ settles new. record { faultless = rw (settles.faultless, settles.put_in, new) refl; leads = rw settles.put_in refl };
}

pub takes-check : TakesCheck
unfolding clap_on_literals
takes-check = record {
  alone = λ name. word-alone check-puts name (asks refl refl);
  before = λ name path plain. word-before check-puts name plain refl (asks refl refl);
  behind = λ name path plain. word-behind check-puts name plain refl (asks refl refl);
  with_value = λ name text more. refl;
  twice = λ name more. refl;
  stats_first = λ name. both-words name stats-puts check-puts refl (asks refl refl);
  before_stats = λ name. both-words name check-puts stats-puts refl (asks refl refl);
  all = λ name seed budget folder is_s is_b.
      names name
      (goes-on ((seed-puts seed).turns nothing-waits refl)
      (goes-on ((budget-puts budget is_b).turns nothing-waits refl)
      (goes-on ((spill-puts folder).turns nothing-waits refl)
      (goes-on (stats-puts.turns nothing-waits refl)
      (goes-on (check-puts.turns nothing-waits refl)
      (ends nothing-waits (asks-number seed is_s refl refl refl)))))));
}
