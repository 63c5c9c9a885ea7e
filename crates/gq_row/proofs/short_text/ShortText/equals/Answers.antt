use Rattle.std.proofs.Common.{◌∙◌, bytes_eq}
use Rattle.gq_row.proofs.ShortTextLemmas.{same_whole}
use Rattle.gq_row.proofs.short_text.ShortText.equals.Goals as goal

pub returns-then-self-other : goal.returns-then-self-other
returns-then-self-other c = c.same_bytes.ensures ∙ same_whole _ _ _ _ c.self.invariant c.other.invariant c.if-self-other.true
    ∙ (λ i. bytes_eq (c.self.view_is i) (c.other.view_is i))
