use Rattle.std.proofs.Common.{◌∙◌, ℕ, List, IfSome, ap, subst, sym}
use Rattle.std.specs.Prelude.{IsUtf8}
use Rattle.gq_row.specs.Texts.{chars_of}
use Rattle.gq_row.proofs.text.Text.padded_number.Goals as goal

pub returns-in-Short-clause-valid : goal.returns-in-Short-clause-valid
returns-in-Short-clause-valid c =
    subst (λ (l : List ℕ). IfSome c.padded_number.result (λ (n : ℕ). ∥ IsUtf8 l ∥₁)) (sym (ap chars_of c.in-Short.is) ∙ c.self.view_is) c.padded_number.ensures.valid
