use Rattle.std.proofs.Common.{drop}
use Rattle.gq_query.specs.declared.frames.Code.{Code}
use Rattle.gq_query.specs.GroupSpans.{key_at}
use Rattle.gq_query.specs.Frames.{IsNumber, none_before}
use Rattle.gq_query.proofs.frames.number.Given as goal

abbrev pub invariant-loop-frame : goal.invariant-loop-frame
invariant-loop-frame l =
    (number : Code) → IsNumber (drop l.frame-index l.frames) (key_at l.cells l.group) l.sum number → IsNumber l.frames (key_at l.cells l.group) (none_before l.known) number
