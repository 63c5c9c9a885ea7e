use Rattle.std.proofs.Common.{◌≡◌, ◌+◌, ◌-◌, ◌≤◌, ◌++◌, ◌∙◌, ap, map, take, drop, length, arith}
use Rattle.sw_ctrl.specs.Bytes.{marked}
use Rattle.sw_ctrl.proofs.Marks.{marked_more, length_so_far}
use Rattle.sw_ctrl.proofs.ctrl.mark.Goals as goal

pub loop-at-preserved : goal.loop-at-preserved
loop-at-preserved c =
    let i = c.loop-at.invariant in let at = c.loop-at.at in let xs = c.args.bytes.now in let ys = c.loop-at.bytes in
    let k = at + 16 - at in
    let same : length ys ≡ length xs = length_so_far xs ys at i.within i.so_far in
    let within : at + 16 ≤ length xs = omega (arith, i.whole, c.requires, same, c.loop-at-test.true) in
    let sixteen : at + k ≡ at + 16 = omega arith in
    let new : c.write_to.new.bytes ≡ map marked (take k (drop at ys)) = c.write_to.ensures ∙ c.marked-group.ensures ∙ ap (map marked) c.of.ensures in
    record {
      whole = omega (arith, i.whole);
      within = within;
      so_far = marked_more xs ys c.write_to.new.bytes at k (omega arith) i.so_far new ∙ ap (λ n. map marked (take n xs) ++ drop n xs) sixteen;
    }
