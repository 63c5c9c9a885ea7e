use Rattle.std.proofs.Common.{◌∙◌, nat_cmp, sym, ap}
use Rattle.std.specs.Cmp.Lexicographic.{slice_cmp}
use Rattle.gq_cells.specs.Cells.{text_of}
use Rattle.gq_cells.proofs.OrderLemmas.{texts_tie}
use Rattle.gq_cells.proofs.tagged_cells.compare_texts.Goals as goal

pub returns : goal.returns
returns c =
    let both = c.in-Stored-Stored in
    texts_tie both.a.now both.b.now (sym c.eq.ensures ∙ c.if-eq.true)
    ∙ (λ i. slice_cmp nat_cmp (sym (ap text_of both.is-0) i) (sym (ap text_of both.is-1) i))
