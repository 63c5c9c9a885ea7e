use Rattle.std.proofs.Common.{◌≡◌}
use Rattle.std.proofs.lemmas.Result.{IfOk-weaker}
use Rattle.gq_row.specs.Laws.{IsArranged}
use Rattle.gq_query.specs.Answers.{ordered_by, rows_shown}
use Rattle.gq_query.proofs.OrderingLemmas.{shown}
use Rattle.gq_query.proofs.showing.show_rows.Goals as goal

pub returns : goal.returns
returns g c =
    let table = c.args.table.now in
    IfOk-weaker c.sort_rows.result (IsArranged (ordered_by c.key.result.now) c.in_ok-rows.rows) (λ rows. rows ≡ rows_shown table)
    (λ rows arranged. shown table rows c.len-valid.ensures.valid (rw (c.key.ensures.positions, c.schema.ensures, c.in_ok-rows.ensures) at arranged))
    c.sort_rows.ensures
