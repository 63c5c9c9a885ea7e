use Rattle.std.proofs.Common.{◌≡◌, ◌∙◌, ◌++◌, List, ℕ, length, drop, replicate, ap, subst, sym}
use Rattle.gq_row.specs.ShortTexts.{IsShort}
use Rattle.gq_row.proofs.ShortTextLemmas.{all_zeros, made}
use Rattle.gq_row.proofs.short_text.ShortText.fill_empty.Goals as goal

pub invariant_of-self : goal.invariant_of-self
invariant_of-self c =
    let text = c.args.chars.now in
    let old = c.self.inside in
    let blank : old.bytes ≡ replicate 22 0 = all_zeros old.len old.bytes c.self.invariant (c.self.view_is ∙ c.requires.empty) in
    let new = c.copy_over.ensures ∙ ap (λ (l : List ℕ). l ++ drop (length l) old.bytes) c.as_bytes.ensures.value ∙ ap (λ (l : List ℕ). text ++ drop (length text) l) blank in
    subst (λ (bytes : List ℕ). IsShort (length text) bytes) (sym new) (made text c.requires.short c.utf8.chars)
