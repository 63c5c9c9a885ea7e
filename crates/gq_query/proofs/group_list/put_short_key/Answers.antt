use Rattle.std.proofs.Common.{◌<◌, ◌+◌, ◌∙◌, ◌++◌, ◌∷◌, [], length, take, drop, slice_index_or, sym, ap, arith, append_assoc}
use Rattle.std.proofs.lemmas.List.{length-set, take_more}
use Rattle.gq_row.specs.declared.value.Value.TheVariants.{Null}
use Rattle.gq_cells.proofs.RowsLemmas.{left_next, left_there}
use Rattle.gq_query.proofs.group_list.put_short_key.Goals as goal

pub loop-i-preserved : goal.loop-i-preserved
loop-i-preserved c =
    let i = c.loop-i.i in
    let all = c.args.key in
    let old = c.args.cells.now in
    let inv = c.loop-i.invariant in
    let lt : i < length all = omega (arith, c.loop-i-test.true, c.len-i-end.ensures) in
    record {
      size = ap length c.take.ensures.left ∙ length-set c.loop-i.key i Null ∙ inv.size;
      left = ap (drop (i + 1)) c.take.ensures.left ∙ left_next c.loop-i.key all i Null inv.left;
      put =
          c.in_ok-push.ensures.pushed
          ∙ (λ z. inv.put z ++ (c.take.ensures.taken ∙ left_there c.loop-i.key all i Null inv.left) z ∷ [])
          ∙ append_assoc old (take i all) (slice_index_or all i Null ∷ [])
          ∙ ap (λ l. old ++ l) (sym (take_more all i Null lt));
    }
