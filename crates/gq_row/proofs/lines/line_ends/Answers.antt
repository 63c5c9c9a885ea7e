use Rattle.std.proofs.Common.{◌≡◌, ◌∙◌, ◌≤◌, ◌+◌, ◌-◌, ℕ, List, length, take, drop, eqb, count_by, ap, arith}
use Rattle.std.proofs.lemmas.List.{length-drop, length-take-le}
use Rattle.std.proofs.lemmas.List.Sums.{count_by-le-length}
use Rattle.gq_row.proofs.LineFeedLemmas.{piece_more}
use Rattle.gq_row.proofs.lines.line_ends.Goals as goal

pub loop-at-preserved : goal.loop-at-preserved
loop-at-preserved c =
    let bytes = c.args.bytes.now in
    let at = c.loop-at.at in
    let end : ℕ = at + 240 in
    let piece : List ℕ = take (end - at) (drop at bytes) in
    let within : end ≤ length bytes = omega (arith, c.loop-at-test.true, c.loop-at.invariant.within) in
    let left : length (drop at bytes) ≡ length bytes - at = length-drop at bytes in
    let size = length-take-le (end - at) (drop at bytes) (omega (arith, left, within)) in
    let fewest = count_by-le-length (λ byte. eqb byte 10) piece in
    let same : c.from-count.result ≡ c.few_line_ends.result = omega (arith, c.from-count.ensures) in
    let found : c.from-count.result ≡ count_by (λ byte. eqb byte 10) piece = same ∙ c.few_line_ends.ensures in
    record {
      within = within;
      few = omega (arith, c.loop-at.invariant.few, found, fewest, size);
      total = ap (λ (n : ℕ). c.loop-at.count + n + count_by (λ byte. eqb byte 10) (drop end bytes)) found ∙ piece_more bytes c.loop-at.count at end (omega arith) c.loop-at.invariant.total;
    }
