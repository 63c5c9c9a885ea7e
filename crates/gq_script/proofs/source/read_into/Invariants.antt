use Rattle.std.proofs.Common.{◌-◌, ◌≤◌, length, take}
use Rattle.std.specs.Io.KnownBytes.{Consumes}
use Rattle.gq_script.proofs.source.read_into.Given as goal

abbrev pub invariant-loop-len : goal.invariant-loop-len
invariant-loop-len g l = record {
  within : l.len ≤ length l.buffer;
  size : 4 ≤ length l.buffer;
  read : Consumes (g.R.Read.remaining l.fn.reader) (g.R.Read.remaining l.reader) (take l.len l.buffer);
}

abbrev pub decreases-loop-len : goal.decreases-loop-len
decreases-loop-len g l = 4 - l.len
