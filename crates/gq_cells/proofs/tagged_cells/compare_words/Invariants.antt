use Rattle.std.proofs.Common.{◌≡◌, All, length, map}
use Rattle.std.specs.Cmp.Lexicographic.{slice_cmp}
use Rattle.gq_cells.specs.Words.{HasText, value_order, word_value}
use Rattle.gq_cells.proofs.tagged_cells.compare_words.Given as goal

abbrev pub invariant-words : goal.invariant-words
invariant-words l = record {
  same : slice_cmp (value_order l.by_folds) (map (word_value l.overflow) l.left) (map (word_value l.overflow) l.right) ≡ slice_cmp (value_order l.by_folds) (map (word_value l.overflow) l.fn.a) (map (word_value l.overflow) l.fn.b);
  left_utf8 : All HasText l.left;
  right_utf8 : All HasText l.right;
}

abbrev pub decreases-words : goal.decreases-words
decreases-words l = length l.left
