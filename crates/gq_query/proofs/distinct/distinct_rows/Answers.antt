use Rattle.std.proofs.Common.{◌≡◌, ◌∙◌, subst}
use Rattle.std.specs.Prelude.{option_copied}
use Rattle.gq_query.specs.Answers.{distinct_keys}
use Rattle.gq_query.specs.Outcomes.{Found}
use Rattle.gq_query.specs.Selecting.{other_columns, other_rows}
use Rattle.gq_query.proofs.KeepingLemmas.{asks_ours, kept_are}
use Rattle.gq_query.proofs.distinct.distinct_rows.Goals as goal

pub different-requires-clause-columns : goal.different-requires-clause-columns
different-requires-clause-columns g c =
    let selection = c.args.selection.now in
    record {
      by = c.requires.on;
      ours = asks_ours selection.table.now.schema.columns (other_columns (option_copied selection.others)) (option_copied selection.matching) c.requires.matching;
      reads = c.as_slice.ensures.value ∙ c.in-Ok-deciding_columns.ensures;
    }

pub returns : goal.returns
returns g c =
    let selection = c.args.selection.now in
    let are = kept_are selection.condition.now.tests (option_copied selection.matching) c.in-Ok.keys (other_rows (option_copied selection.others)) selection.table.now.rows c.in-Ok.ensures in
    subst (λ rows. Found (g.S.RunStore.runs c.args.store.now) (g.S.RunStore.runs c.different.new.store) c.different.result (λ found. found ≡ distinct_keys c.args.on.now rows)) are c.different.ensures
