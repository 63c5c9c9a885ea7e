use Rattle.std.proofs.Common.{arith}
use Rattle.gq_csv.proofs.PlacedLemmas.{first_below, passed}
use Rattle.gq_csv.proofs.placed_mask.PlacedMask.pass_first.Goals as goal

pub returns : goal.returns
returns c = λ text from h. passed text from c.args.self.now h c.requires.some

pub overflow_add-result : goal.overflow_add-result
overflow_add-result c =
    let below = first_below c.requires.marks.1.0 c.requires.marks.0 c.args.self.now c.requires.marks.1.1 c.requires.some in
    record { fits = omega (arith, below, c.fits-self) }
