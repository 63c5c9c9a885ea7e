use Rattle.std.proofs.Common.{ap, [], ◌∷◌}
use Rattle.gq_row.proofs.FoldLemmas.{letter_folds, other_stays, folded_once, same_cells}
use Rattle.gq_row.proofs.laws.folds_case.Goals as goal

pub returns : goal.returns
returns c = record {
  letters = λ c low high. ap (λ d. d ∷ []) (letter_folds c low high);
  others = λ c out. ap (λ d. d ∷ []) (other_stays c out);
  once = folded_once;
  keys = same_cells;
}
