-- Command lines that ask for rows of other lengths.
use Rattle.std.proofs.Common.{refl, codes}
use Rattle.clap.proofs.OnLiterals.{clap_on_literals}
use Rattle.gq_options.specs.CommandLine.{TakesRagged}
use Rattle.gq_options.proofs.BudgetLemmas.{budget-puts}
use Rattle.gq_options.proofs.CheckLemmas.{check-puts}
use Rattle.gq_options.proofs.CommandLemmas.{command-adds}
use Rattle.gq_options.proofs.FolderLemmas.{spill-puts}
use Rattle.gq_options.proofs.OptionLemmas.{Puts, word-alone, word-before, word-behind}
use Rattle.gq_options.proofs.OutputLemmas.{output-puts}
use Rattle.gq_options.proofs.SeedLemmas.{asks-number, seed-puts}
use Rattle.gq_options.proofs.StatsLemmas.{stats-puts}
use Rattle.gq_options.proofs.StepLemmas.{asks, ends, goes-on, names, nothing-waits}
use Rattle.gq_options.proofs.TableLemmas.{table-adds}

ragged-puts : Puts (codes "--ragged") (codes "ragged") (codes "true")
unfolding clap_on_literals
ragged-puts = record {
  turns = λ settles new. record { faultless = rw (settles.faultless, settles.put_in, new) refl; leads = rw settles.put_in refl };
}

pub takes-ragged : TakesRagged
unfolding clap_on_literals
takes-ragged = record {
  alone = λ name. word-alone ragged-puts name (asks refl refl);
  before = λ name path plain. word-before ragged-puts name plain refl (asks refl refl);
  behind = λ name path plain. word-behind ragged-puts name plain refl (asks refl refl);
  with_value = λ name text more. refl;
  twice = λ name more. refl;
  all = λ name seed budget folder file lines is_s is_b.
      names name
      (goes-on ((table-adds file).turns nothing-waits)
      (goes-on ((command-adds lines).turns nothing-waits)
      (goes-on ((output-puts (codes "csv")).turns nothing-waits refl)
      (goes-on (ragged-puts.turns nothing-waits refl)
      (goes-on ((seed-puts seed).turns nothing-waits refl)
      (goes-on ((budget-puts budget is_b).turns nothing-waits refl)
      (goes-on ((spill-puts folder).turns nothing-waits refl)
      (goes-on (stats-puts.turns nothing-waits refl)
      (goes-on (check-puts.turns nothing-waits refl)
      (ends nothing-waits (asks-number seed is_s refl refl refl)))))))))));
}
