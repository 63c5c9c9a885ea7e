use Rattle.std.proofs.Common.{map, take}
use Rattle.gq_select.specs.KeySets.{AreKeysOf}
use Rattle.gq_select.proofs.join.KeySet.build.Given as goal

-- the keys so far are those of the rows before this one
abbrev pub invariant-loop-row : goal.invariant-loop-row
invariant-loop-row g l = AreKeysOf l.columns (map (λ row. row.now) (take l.row-index l.rows)) l.keys
