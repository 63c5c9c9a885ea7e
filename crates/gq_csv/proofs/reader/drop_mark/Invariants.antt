use Rattle.std.proofs.Common.{◌-◌, length}
use Rattle.std.specs.Io.KnownBytes.{Keeps}
use Rattle.gq_csv.specs.Inputs.{known}
use Rattle.gq_csv.proofs.reader.drop_mark.Given as goal

abbrev pub invariant-bytes : goal.invariant-bytes
invariant-bytes g l = Keeps (known l.fn.input) (known l.input)

abbrev pub decreases-bytes : goal.decreases-bytes
decreases-bytes g l = 3 - length l.input.ahead
