use Rattle.gq_csv.specs.Inputs.{known}
use Rattle.gq_csv.specs.Steps.{machine_state}
use Rattle.gq_csv.proofs.CopyLemmas.{Tracks}
use Rattle.gq_csv.proofs.copied.copy_record.Given as goal

abbrev pub invariant-bytes : goal.invariant-bytes
invariant-bytes g l = Tracks (known l.fn.input) (machine_state l.state) l.copied.fields l.copied.field (known l.input)
