use Rattle.gq_csv.proofs.PlacedLemmas.{covers_after}
use Rattle.gq_csv.proofs.placed_mask.PlacedMask.after.Goals as goal

pub returns-then-from-self : goal.returns-then-from-self
returns-then-from-self c = λ text h. covers_after text c.args.from c.args.self h
