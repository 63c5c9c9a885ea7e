use Rattle.std.proofs.Common.{ℕ, List, subst, sym}
use Rattle.gq_cells.specs.Words.{IsValid, short_in}
use Rattle.gq_cells.proofs.text_ref.WordText.of.Goals as goal

pub invariant_of-result : goal.invariant_of-result
invariant_of-result c = record {
  valid = subst (λ (l : List ℕ). IsValid (short_in l)) (sym c.to_be_bytes.ensures) c.requires;
}
