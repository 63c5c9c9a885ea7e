use Rattle.std.proofs.Common.{◌∙◌, sym, ap, Some}
use Rattle.gq_row.specs.Fitting.{fits_columns}
use Rattle.gq_query.specs.Keeping.{is_kept, kept_rows}
use Rattle.gq_query.proofs.Joined.{shown_answer}
use Rattle.gq_query.proofs.KeepingLemmas.{all_kept}
use Rattle.gq_query.proofs.OutcomeLemmas.{grouped_ok, grouped_passed}
use Rattle.gq_query.proofs.SpellingLemmas.{answer_alone, plain_rows}
use Rattle.gq_query.proofs.query.Query.rows_alone.Goals as goal

pub returns-in_err-groups : goal.returns-in_err-groups
returns-in_err-groups g c =
    let by = c.args.self.now.by.now in
    let table = c.args.self.now.table.now in
    let mine = kept_rows c.args.self.now in
    let fit = all_kept (fits_columns table.schema.columns) (is_kept c.args.self.now.kept.now) table.rows c.requires.fitting in
    grouped_passed c.from_residual.result c.from_residual.ensures.1
    (λ none. sym (answer_alone by mine c.args.shown.now (plain_rows table.schema.columns by mine fit c.requires.alone)) ∙ none) c.in_err-groups.ensures

pub returns-in-Ok : goal.returns-in-Ok
returns-in-Ok g c =
    let by = c.args.self.now.by.now in
    let table = c.args.self.now.table.now in
    let mine = kept_rows c.args.self.now in
    let fit = all_kept (fits_columns table.schema.columns) (is_kept c.args.self.now.kept.now) table.rows c.requires.fitting in
    let earlier = c.in_ok-groups.ensures in
    grouped_ok
    (λ h. sym (answer_alone by mine c.args.shown.now (plain_rows table.schema.columns by mine fit c.requires.alone))
    ∙ shown_answer by c.args.shown.now mine c.in_ok-groups.groups (earlier.found h)
    ∙ ap Some (sym c.in-Ok.ensures))
    earlier.spent earlier.others
