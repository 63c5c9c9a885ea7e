use Rattle.std.proofs.Common.{◌∙◌, ◌++◌, ◌-◌, ℕ, List, length, replicate, ap, subst, arith, rules}
use Rattle.std.specs.Prelude.{IsUtf8}
use Rattle.gq_row.proofs.NumberLemmas.{padded}
use Rattle.gq_row.proofs.short_text.ShortText.padded_number.Goals as goal

pub returns-clause-valid : goal.returns-clause-valid
returns-clause-valid c = subst (λ (l : List ℕ). ∥ IsUtf8 l ∥₁) c.self.view_is c.self.invariant.text

pub returns-clause-padded : goal.returns-clause-padded
returns-clause-padded c =
    let own = c.self.inside in
    padded own.len own.bytes _ c.self.invariant (search rules) (omega arith) c.from_be_bytes.ensures
    ∙ ap (λ (l : List ℕ). l ++ replicate (8 - length l) 0) c.self.view_is
