use Rattle.std.proofs.Common.{◌<◌, ◌∙◌, ◌+◌, ◌==◌, [], length, sym, ap, subst, arith}
use Rattle.std.specs.List.{swap}
use Rattle.gq_select.specs.Truths.{keeps}
use Rattle.gq_query.proofs.HavingLemmas.{AreKept, left_out, none_asked, taken}
use Rattle.gq_query.proofs.grouping.rows_having.Goals as goal
use Rattle.gq_query.proofs.grouping.rows_having.Goals.{then-having, else-having}

pub returns-then-is_empty : goal.returns-then-is_empty
returns-then-is_empty c = none_asked c.args.condition.now.tests c.args.rows (ap (λ l. length l == 0) (sym c.as_slice.ensures) ∙ sym c.is_empty.ensures ∙ c.if-is_empty.true)

pub loop-i-preserved : goal.loop-i-preserved
loop-i-preserved c =
    let p = keeps c.args.condition.now.tests in
    let less : c.loop-i.i < length c.args.rows = omega arith in
    let told = sym (c.having.ensures ∙ ap p (c.as_slice-in-loop-i.ensures.value ∙ c.in_ok-copy_row.ensures.copied)) in
    let all = c.args.rows in
    elim c.if-having.branch [
      | then-having w ↦
          let now = w.rows-is ∙ w.swap.ensures in
          subst (λ rows. AreKept p all rows (c.loop-i.i + 1) c.if-having.kept) (sym now)
          (subst (λ kept. AreKept p all (swap c.loop-i.rows c.loop-i.kept c.loop-i.i) (c.loop-i.i + 1) kept) (sym w.kept-is)
          (taken p all c.loop-i.rows c.loop-i.i c.loop-i.kept [] less c.loop-i.invariant (told ∙ w.if-having.true)))
      | else-having w ↦
          subst (λ rows. AreKept p all rows (c.loop-i.i + 1) c.if-having.kept) (sym w.rows-is)
          (subst (λ kept. AreKept p all c.loop-i.rows (c.loop-i.i + 1) kept) (sym w.kept-is)
          (left_out p all c.loop-i.rows c.loop-i.i c.loop-i.kept [] less c.loop-i.invariant (told ∙ w.if-having.false)))
    ]
