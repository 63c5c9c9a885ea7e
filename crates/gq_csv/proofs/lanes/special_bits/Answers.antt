use Rattle.std.proofs.Common.{arith}
use Rattle.gq_csv.proofs.LaneLemmas.{bits_are}
use Rattle.gq_csv.proofs.lanes.special_bits.Goals as goal

pub returns : goal.returns
returns c = bits_are 64 (omega arith) c.args.block.now c.requires
