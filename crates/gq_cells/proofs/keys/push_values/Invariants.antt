use Rattle.std.proofs.Common.{◌≡◌, ◌++◌, length, map, take}
use Rattle.gq_cells.specs.Keys.{AreInOrder}
use Rattle.gq_cells.specs.Words.{word_value}
use Rattle.gq_cells.proofs.keys.push_values.Given as goal

abbrev pub invariant-loop-i : goal.invariant-loop-i
invariant-loop-i l = record {
  pushed : map (word_value l.overflow.items) l.words.items ≡ map (word_value l.fn.overflow.items) l.fn.words.items ++ take l.i l.key;
  ordered : AreInOrder 0 l.words.items (length l.overflow.items);
  words : take (length l.fn.words.items) l.words.items ≡ l.fn.words.items;
  overflow : take (length l.fn.overflow.items) l.overflow.items ≡ l.fn.overflow.items;
}
