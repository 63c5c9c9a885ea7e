use Rattle.std.proofs.Common.{drop}
use Rattle.gq_query.specs.SortPrefixes.{Place}
use Rattle.gq_query.specs.Frames.{Follow}
use Rattle.gq_query.proofs.frames.end_of.Given as goal

abbrev pub invariant-loop-frame : goal.invariant-loop-frame
invariant-loop-frame l = (end : Place) → Follow l.width (drop l.frame-index l.frames) l.place end → Follow l.width l.frames l.fn.start end
