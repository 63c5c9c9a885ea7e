use Rattle.std.proofs.Common.{List, ℕ, ◌∙◌, ap, refl, subst, sym, take}
use Rattle.std.specs.Int.{w64, to_be_bytes}
use Rattle.gq_row.specs.ShortTexts.{IsShort}
use Rattle.gq_row.proofs.ShortTextLemmas.{eight_is, padded}
use Rattle.gq_row.proofs.short_text.ShortText.write_padded.Goals as goal

pub invariant_of-self : goal.invariant_of-self
invariant_of-self c =
    let bytes = eight_is c.args.number c.to_be_bytes-b.result c.to_be_bytes-b.ensures in
    subst (λ (l : List ℕ). IsShort c.args.len l) (sym bytes) (padded c.args.len (to_be_bytes w64 c.args.number) refl c.requires).0

pub returns : goal.returns
returns c =
    let bytes = eight_is c.args.number c.to_be_bytes-b.result c.to_be_bytes-b.ensures in
    ap (take c.args.len) bytes ∙ (padded c.args.len (to_be_bytes w64 c.args.number) refl c.requires).1
