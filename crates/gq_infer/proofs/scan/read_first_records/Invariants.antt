use Rattle.gq_infer.proofs.FileLemmas.{FirstRead}
use Rattle.gq_infer.proofs.scan.read_first_records.Given as goal

abbrev pub invariant-loop : goal.invariant-loop
invariant-loop g l = FirstRead l.places l.fn.seen l.fn.reader.rest l.seen l.reader.rest
