use Rattle.std.proofs.Common.{arith, ◌∙◌, ◌++◌, length, take, drop, sym, ap, append_assoc}
use Rattle.std.proofs.lemmas.List.{drop-drop, length-drop}
use Rattle.gq_cells.proofs.KeyLemmas.{take_next}
use Rattle.gq_cells.proofs.cells.push_tagged.Goals as goal

pub returns-in_err-move_to-clause-most : goal.returns-in_err-move_to-clause-most
returns-in_err-move_to-clause-most c =
    let left = ap length c.move_to.ensures.left in
    let one = length-drop 1 c.loop-i.left in
    let here = ap length c.loop-i.invariant.left in
    let all = length-drop c.loop-i.i c.args.left.now in
    omega (arith, left, one, here, all, c.loop-i-test.true)

pub loop-i-preserved : goal.loop-i-preserved
loop-i-preserved c =
    let inv = c.loop-i.invariant in
    let i = c.loop-i.i in
    let all = c.args.left.now in
    record {
      pushed =
          c.in_ok-move_to.ensures.pushed
          ∙ (λ z. inv.pushed z ++ take 1 (sym inv.left z))
          ∙ append_assoc c.args.cells.now (take i all) (take 1 (drop i all))
          ∙ ap (λ l. c.args.cells.now ++ l) (sym (take_next all i));
      left = sym (c.move_to.ensures.left ∙ ap (drop 1) (sym inv.left) ∙ drop-drop 1 i all);
    }
