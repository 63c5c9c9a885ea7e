use Rattle.std.proofs.Common.{◌∙◌, slice_index_or, ap}
use Rattle.std.specs.Prelude.{option_copied}
use Rattle.gq_row.specs.Rows.{cell}
use Rattle.gq_query.proofs.KeepingLemmas.{kept_same}
use Rattle.gq_query.proofs.row_filter.RowFilter.keeps_here.Goals as goal

pub returns-clause-kept : goal.returns-clause-kept
returns-clause-kept g c =
    let kept = c.args.self.now in
    let columns = kept.columns.now in
    c.keeps.ensures
    ∙ kept_same kept.condition.now.tests (option_copied kept.matching) kept.keys.now columns c.row.result.now c.args.rows.now.row c.requires.reads
    (λ k d lt. ap (λ r. cell r (slice_index_or columns k d)) c.row.ensures ∙ c.in_ok-read_columns.ensures.read.cells k d lt)
