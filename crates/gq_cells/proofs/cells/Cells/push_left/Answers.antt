use Rattle.std.proofs.Common.{arith, ◌∙◌, ◌++◌, ◌∷◌, [], length, take, sym, ap, append_assoc}
use Rattle.std.proofs.lemmas.List.{length-drop}
use Rattle.gq_cells.proofs.KeyLemmas.{value_next}
use Rattle.gq_cells.proofs.cells.Cells.push_left.Goals as goal

pub returns-in_err-push-clause-most : goal.returns-in_err-push-clause-most
returns-in_err-push-clause-most c =
    let fewer = ap length c.next.ensures in
    let here = ap length c.loop-i.invariant.left in
    let all = length-drop c.loop-i.i c.args.left.now in
    omega (arith, fewer, here, all, c.loop-i-test.true)

pub loop-i-preserved : goal.loop-i-preserved
loop-i-preserved c =
    let inv = c.loop-i.invariant in
    let i = c.loop-i.i in
    let all = c.args.left.now in
    let v = c.next.result in
    let it = value_next all i v c.next.new.self (inv.left ∙ c.next.ensures) in
    record {
      pushed =
          c.in_ok-push.ensures.pushed
          ∙ (λ z. inv.pushed z ++ v ∷ [])
          ∙ append_assoc c.args.self.now (take i all) (v ∷ [])
          ∙ ap (λ l. c.args.self.now ++ l) (sym it.0);
      left = it.1;
    }
