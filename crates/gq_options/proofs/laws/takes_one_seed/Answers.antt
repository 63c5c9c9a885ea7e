use Rattle.gq_options.proofs.SeedLemmas.{seeds-worked, takes-one-seed}
use Rattle.gq_options.proofs.laws.takes_one_seed.Goals as goal

pub returns : goal.returns
returns c = record { vary = takes-one-seed; worked = seeds-worked }
