use Rattle.std.proofs.Common.{◌≡◌, ◌∙◌, ◌+◌, ◌-◌, ◌≤◌, not, length, take, drop, ap, arith, length-drop}
use Rattle.std.proofs.lemmas.List.{drop-drop}
use Rattle.std.specs.List.{position_or_len}
use Rattle.gq_csv.specs.Bytes.{is_special}
use Rattle.gq_csv.proofs.FindLemmas.{passes_block, stops_in_block}
use Rattle.gq_csv.proofs.find.find_special.Goals as goal

pub returns-then-plain-lt-LANES : goal.returns-then-plain-lt-LANES
returns-then-plain-lt-LANES c =
    let at = c.blocks-2.at in
    let rest = drop at c.args.text.now in
    let k = at + 16 - at in
    let within : k ≤ length rest = omega (arith, length-drop at c.args.text.now, c.blocks-2-test.true) in
    let found : c.first_special-plain.result ≡ position_or_len is_special (take k rest) = c.first_special-plain.ensures in
    let first = stops_in_block (λ b. not (is_special b)) rest k within (omega (arith, found, c.if-plain-lt-LANES.true)) in
    omega (arith, found, first, c.blocks-2.invariant.found)

pub blocks-2-preserved : goal.blocks-2-preserved
blocks-2-preserved c =
    let at = c.blocks-2.at in
    let rest = drop at c.args.text.now in
    let k = at + 16 - at in
    let sixteen : at + k ≡ at + 16 = omega arith in
    let within : k ≤ length rest = omega (arith, length-drop at c.args.text.now, c.blocks-2-test.true) in
    let found : c.first_special-plain.result ≡ position_or_len is_special (take k rest) = c.first_special-plain.ensures in
    let none = passes_block (λ b. not (is_special b)) rest k within (omega (arith, found, c.if-plain-lt-LANES.false)) in
    let after : position_or_len is_special (drop k rest) ≡ position_or_len is_special (drop (at + 16) c.args.text.now) =
    ap (position_or_len is_special) (drop-drop k at c.args.text.now ∙ ap (λ n. drop n c.args.text.now) sixteen) in
    record {
      within = omega (arith, c.blocks-2-test.true, c.blocks-2.invariant.within);
      found = omega (arith, none, after, c.blocks-2.invariant.found);
    }
