-- Command lines that ask for a seed from the system.
use Rattle.std.proofs.Common.{refl, codes}
use Rattle.clap.proofs.OnLiterals.{clap_on_literals}
use Rattle.gq_options.specs.CommandLine.{TakesRandom}
use Rattle.gq_options.proofs.BudgetLemmas.{budget-puts}
use Rattle.gq_options.proofs.FolderLemmas.{spill-puts}
use Rattle.gq_options.proofs.OptionLemmas.{before, behind, word-before, word-behind}
use Rattle.gq_options.proofs.SeedLemmas.{seed-puts, seed-waits}
use Rattle.gq_options.proofs.StatsLemmas.{stats-puts}
use Rattle.gq_options.proofs.StepLemmas.{asks, ends, goes-on, names, nothing-waits}

pub takes-random : TakesRandom
unfolding clap_on_literals
takes-random = record {
  alone = λ name. record { accepted = refl; asked_is = refl };
  before = λ name path plain. before seed-waits name refl refl plain refl (asks refl refl);
  behind = λ name path plain. behind seed-waits name refl refl plain refl (asks refl refl);
  joined = λ name. record { accepted = refl; asked_is = refl };
  joined_before = λ name path plain. word-before (seed-puts (codes "random")) name plain refl (asks refl refl);
  joined_after = λ name path plain. word-behind (seed-puts (codes "random")) name plain refl (asks refl refl);
  capital = λ name. refl;
  longer = λ name. refl;
  all = λ name budget folder is_b.
      names name
      (goes-on ((seed-puts (codes "random")).turns nothing-waits refl)
      (goes-on ((budget-puts budget is_b).turns nothing-waits refl)
      (goes-on ((spill-puts folder).turns nothing-waits refl)
      (goes-on (stats-puts.turns nothing-waits refl)
      (ends nothing-waits (asks refl refl))))));
}
