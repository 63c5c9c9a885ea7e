use Rattle.std.proofs.Common.{◌≡◌, ◌++◌, drop, map}
use Rattle.gq_plan.specs.Headers.{group_header, text_of}
use Rattle.gq_plan.proofs.header.header_of.Given as goal

abbrev pub invariant-loop-aggregate : goal.invariant-loop-aggregate
invariant-loop-aggregate l = l.names.items ++ map text_of (drop l.aggregate-index l.aggregates) ≡ group_header l.fn.by l.aggregates
