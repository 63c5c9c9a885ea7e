use Rattle.std.proofs.Common.{◌≡◌, ◌∙◌, sym, ap, drop}
use Rattle.gq_script.specs.declared.payload.EndMark.{EndMark}
use Rattle.gq_script.specs.declared.payload.EndMark.TheVariants as mark
use Rattle.gq_script.specs.Payloads.{mark_of}
use Rattle.gq_script.proofs.Marks.{is_the_other, other_stays}
use Rattle.gq_script.proofs.payload.EndMark.behind.Goals as goal

pub returns-then-is_other : goal.returns-then-is_other
returns-then-is_other c =
    let rest = drop c.loop-byte.byte-index c.args.piece.now in
    let e : c.loop-byte.mark ≡ mark.Other = is_the_other c.loop-byte.mark (sym c.is_other.ensures ∙ c.if-is_other.true) in
    e ∙ sym (other_stays rest) ∙ ap (λ (v : EndMark). mark_of v rest) (sym e) ∙ c.loop-byte.invariant
