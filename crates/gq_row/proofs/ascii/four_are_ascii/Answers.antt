use Rattle.std.proofs.Common.{take, drop, arith}
use Rattle.std.proofs.lemmas.Simd.{length-chunk}
use Rattle.gq_row.proofs.AsciiLemmas.{lanes_small}
use Rattle.gq_row.proofs.ascii.four_are_ascii.Goals as goal

pub returns : goal.returns
returns c = lanes_small 4 (take 4 (drop c.args.at c.args.bytes.now)) (length-chunk c.args.at 4 c.args.bytes.now c.requires) (omega arith)
