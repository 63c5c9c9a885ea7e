use Rattle.std.proofs.Common.{◌≡◌, length, take}
use Rattle.sw_index.proofs.index.Index.truncate.Given as goal

abbrev pub invariant-loop-self : goal.invariant-loop-self
invariant-loop-self g l = record {
  kept : take l.keys l.self.keys ≡ take l.keys l.initial.self.keys;
  hasher : l.self.hasher ≡ l.initial.self.hasher;
}

abbrev pub decreases-loop-self : goal.decreases-loop-self
decreases-loop-self g l = length l.self.keys
