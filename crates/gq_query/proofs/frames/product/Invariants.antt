use Rattle.std.proofs.Common.{◌≡◌, ◌*◌, drop}
use Rattle.gq_query.specs.Frames.{product}
use Rattle.gq_query.proofs.frames.product.Given as goal

abbrev pub invariant-loop-frame : goal.invariant-loop-frame
invariant-loop-frame l = l.product * product (drop l.frame-index l.frames) ≡ product l.frames
