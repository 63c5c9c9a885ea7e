use Rattle.std.proofs.Common.{◌≡◌, ◌∙◌, ◌+◌, ◌-◌, ℕ, true, false, List, length, take, drop, get_or, eqb, ap, subst, arith}
use Rattle.std.proofs.lemmas.Bool.Decides.{nat_tests}
use Rattle.std.proofs.lemmas.List.{take_all, length-drop}
use Rattle.gq_script.specs.Payloads.{IsPiece}
use Rattle.gq_script.proofs.Collected.{one_count_more, one_line_more}
use Rattle.gq_script.proofs.Marks.{piece_end}
use Rattle.gq_script.proofs.payload.escaped_lines_len.Goals as goal

pub loop-len-preserved : goal.loop-len-preserved
loop-len-preserved c =
    let bytes = c.args.bytes.now in
    let len = c.loop-len.len in
    let index = c.in-Some.index in
    let rest : List ℕ = take (length bytes - len) (drop len bytes) in
    let left : length (drop len bytes) ≡ length bytes - len = length-drop len bytes in
    let whole : rest ≡ drop len bytes = take_all (length bytes - len) (drop len bytes) (omega (arith, left)) in
    let size : length rest ≡ length bytes - len = ap length whole ∙ left in
    let piece : IsPiece true (take (index + 1) (drop len bytes)) = subst (λ (l : List ℕ). IsPiece true (take (index + 1) l)) whole (piece_end rest index c.in-Some.ensures.0.high c.in-Some.ensures.0.before c.in-Some.ensures.1) in
    let first : eqb (get_or bytes len 0) 92 ≡ false = grind (arith, nat_tests, c.if-bytes-len-ne92.true) in
    record {
      within = omega (arith, c.in-Some.ensures.0.high, size, c.loop-len.invariant.within);
      lines = one_line_more bytes len index c.loop-len.invariant.lines piece first;
      count = one_count_more bytes len index c.loop-len.count c.loop-len.invariant.count piece;
      few = omega (arith, c.loop-len.invariant.few);
    }
