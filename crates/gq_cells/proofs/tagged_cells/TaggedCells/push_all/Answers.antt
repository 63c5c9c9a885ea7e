use Rattle.std.proofs.Common.{◌<◌, ◌∙◌, ◌++◌, ◌∷◌, [], length, take, slice_index_or, sym, ap, arith, append_assoc}
use Rattle.std.proofs.lemmas.List.{length-set, take_more}
use Rattle.gq_cells.proofs.RowsLemmas.{left_next, left_there}
use Rattle.gq_cells.proofs.tagged_cells.TaggedCells.push_all.Goals as goal

pub loop-i-preserved : goal.loop-i-preserved
loop-i-preserved c =
    let i = c.loop-i.i in
    let all = c.args.values.now in
    let inv = c.loop-i.invariant in
    let d = c.index-values-i.result in
    let lt : i < length all = omega (arith, c.loop-i-test.true, inv.size) in
    record {
      size = length-set c.loop-i.values i c.push.new.value ∙ inv.size;
      left = left_next c.loop-i.values all i c.push.new.value inv.left;
      pushed =
          c.in_ok-push.ensures.pushed
          ∙ (λ z. inv.pushed z ++ left_there c.loop-i.values all i d inv.left z ∷ [])
          ∙ append_assoc c.args.self.now (take i all) (slice_index_or all i d ∷ [])
          ∙ ap (λ l. c.args.self.now ++ l) (sym (take_more all i d lt));
    }
