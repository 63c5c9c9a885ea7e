use Rattle.gq_script.specs.Numbering.{Passed}
use Rattle.gq_command.proofs.reader.next_item.Given as goal

abbrev pub invariant-loop : goal.invariant-loop
invariant-loop g l = Passed l.limits.bounds l.fn.source l.source
