use Rattle.std.proofs.Common.{◌≡◌, ◌∙◌, ◌+◌, ◌-◌, ◌≤◌, length, map, take, drop, ap, arith}
use Rattle.std.specs.Simd.Lanes.{mask_l}
use Rattle.gq_csv.specs.Bytes.{is_special}
use Rattle.gq_csv.proofs.MaskLemmas.{block_covered, goes_on}
use Rattle.gq_csv.proofs.PlacedLemmas.{none_ahead, placed, single}
use Rattle.gq_csv.proofs.placed_mask.PlacedMask.go_on.Goals as goal

pub blocks-2-init : goal.blocks-2-init
blocks-2-init c = record {
  within = c.requires.marks.within;
  found = none_ahead c.args.text.now c.args.from c.args.self.now c.requires.marks c.requires.passed;
}

pub returns-then-bits-ne0-clause-some : goal.returns-then-bits-ne0-clause-some
returns-then-bits-ne0-clause-some c =
    let at = c.blocks-2.at in
    let text = c.args.text.now in
    let room : at + 64 ≤ length text = omega (arith, c.blocks-2-test.true, c.blocks-2.invariant.within) in
    let size : at + 64 - at ≡ 64 = omega arith in
    λ _. record {
      at = at;
      some = omega (arith, c.if-bits-ne0.true);
      marks = placed text at c.special_bits-bits.result 64 room (omega arith) (c.special_bits-bits.ensures ∙ ap (λ n. mask_l (map is_special (take n (drop at text)))) size);
      same = c.blocks-2.invariant.found;
    }

pub blocks-2-preserved : goal.blocks-2-preserved
blocks-2-preserved c =
    let at = c.blocks-2.at in
    let text = c.args.text.now in
    let room : at + 64 ≤ length text = omega (arith, c.blocks-2-test.true, c.blocks-2.invariant.within) in
    let covers = block_covered text at c.special_bits-bits.result (at + 64 - at) (omega arith) room c.special_bits-bits.ensures in
    record {
      within = room;
      found = goes_on text at (record { bits = c.special_bits-bits.result; len = 64 }) covers (omega (arith, c.if-bits-ne0.false)) ∙ c.blocks-2.invariant.found;
    }

pub returns-clause-some : goal.returns-clause-some
returns-clause-some c =
    let e = c.find_bytewise-first.ensures in
    λ _. single c.args.text.now c.blocks-2.at c.args.from c.find_bytewise-first.result e.first c.blocks-2.invariant.found (omega (arith, c.if-first-text.false))
