use Rattle.std.proofs.Common.{take, drop, arith}
use Rattle.std.proofs.lemmas.Simd.{length-chunk}
use Rattle.gq_row.proofs.LaneLemmas.{same_lanes_of}
use Rattle.gq_row.proofs.short_text.same_lanes.Goals as goal

pub returns : goal.returns
returns c =
    let xs = take 16 (drop c.args.at c.args.a.now) in
    let ys = take 16 (drop c.args.at c.args.b.now) in
    same_lanes_of 16 xs ys (omega arith) (length-chunk c.args.at 16 c.args.a.now c.requires.a) (length-chunk c.args.at 16 c.args.b.now c.requires.b)
