use Rattle.gq_infer.proofs.FileLemmas.{Onward}
use Rattle.gq_infer.proofs.scan.read_records.Given as goal

abbrev pub invariant-loop : goal.invariant-loop
invariant-loop g l = Onward l.places l.fn.seen l.fn.reader.rest l.seen l.reader.rest
