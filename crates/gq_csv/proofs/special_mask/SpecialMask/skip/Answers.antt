use Rattle.std.proofs.Common.{arith}
use Rattle.gq_csv.proofs.MaskLemmas.{skipped}
use Rattle.gq_csv.proofs.special_mask.SpecialMask.skip.Goals as goal

pub overflow_shr-self : goal.overflow_shr-self
overflow_shr-self c = omega (arith, c.if-count-self.true, c.requires.1.few)

pub returns-then-count-self : goal.returns-then-count-self
returns-then-count-self c = λ text le h. skipped text c.args.self.now h c.args.count (omega (arith, c.if-count-self.true))
