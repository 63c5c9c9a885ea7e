use Rattle.std.proofs.Common.{◌∙◌, subst}
use Rattle.std.specs.Prelude.{option_copied}
use Rattle.gq_query.specs.Outcomes.{Answered}
use Rattle.gq_query.specs.Rollups.{group_answer, grouping_sets}
use Rattle.gq_query.specs.Selecting.{other_columns, other_rows}
use Rattle.gq_query.specs.Work.{RisesBy}
use Rattle.gq_query.proofs.KeepingLemmas.{asks_ours, kept_are}
use Rattle.gq_query.proofs.grouping.group_rows.Goals as goal

pub answer-requires-clause-columns : goal.answer-requires-clause-columns
answer-requires-clause-columns g c =
    let selection = c.args.selection.now in
    record {
      by = c.requires.by;
      ours = asks_ours selection.table.now.schema.columns (other_columns (option_copied selection.others)) (option_copied selection.matching) c.requires.matching;
      reads = c.as_slice.ensures.value ∙ c.in-Ok-deciding_columns.ensures;
    }

pub returns : goal.returns
returns g c =
    let selection = c.args.selection.now in
    let asked = c.args.grouping.now in
    let old = g.S.RunStore.runs c.args.store.now in
    let are = kept_are selection.condition.now.tests (option_copied selection.matching) c.in-Ok.keys (other_rows (option_copied selection.others)) selection.table.now.rows c.in-Ok.ensures in
    subst (λ rows. Answered old (g.S.RunStore.runs c.answer.new.store) c.answer.result (group_answer asked.rollup asked.by.now asked.shown.now asked.having.now.tests rows)
    (RisesBy old.honest asked.budget.entries rows (grouping_sets asked.rollup asked.by.now) c.args.spent)) are c.answer.ensures
