use Rattle.std.proofs.Common.{◌≡◌, drop, map}
use Rattle.gq_row.specs.Order.{same_key}
use Rattle.gq_cells.specs.Words.{word_value}
use Rattle.gq_cells.proofs.keys.has_each.Given as goal

abbrev pub invariant-loop-i : goal.invariant-loop-i
invariant-loop-i l = same_key (drop l.i l.key) (map (word_value l.overflow) (drop l.i l.words)) ≡ same_key l.key (map (word_value l.overflow) l.words)
