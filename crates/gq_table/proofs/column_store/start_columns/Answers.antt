use Rattle.std.proofs.Common.{◌∙◌, refl, sym, ap, arith}
use Rattle.gq_table.specs.Columns.{rows_across}
use Rattle.gq_table.proofs.ColumnStoreLemmas.{as_wide, none_across}
use Rattle.gq_table.proofs.column_store.start_columns.Goals as goal

pub returns-in_ok-columns-clause-same : goal.returns-in_ok-columns-clause-same
returns-in_ok-columns-clause-same c =
    let made = c.in_ok-columns.field-0.items in
    let old = c.args.columns.now.items in
    ap (λ n. rows_across n made) c.if-rows-eq0.true ∙ none_across made ∙ sym (none_across old) ∙ ap (λ n. rows_across n old) (sym c.if-rows-eq0.true)

pub returns-else-rows-eq0-clause-wide : goal.returns-else-rows-eq0-clause-wide
returns-else-rows-eq0-clause-wide c =
    let old = c.args.columns.now.items in
    as_wide c.args.rows c.args.width old (rows_across c.args.rows old) refl c.requires.long (omega (arith, c.if-rows-eq0.false)) c.requires.even
