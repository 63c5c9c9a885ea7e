use Rattle.std.proofs.Common.{◌==◌, ap, sym, ◌∙◌, length, true≢false}
use Rattle.gq_table.proofs.StoredLemmas.{stored_empty}
use Rattle.gq_table.proofs.table.Table.new.Goals as goal

pub invariant_of-result-2 : goal.invariant_of-result-2
invariant_of-result-2 g c =
    stored_empty c.args.schema c.new-2.result c.key.ensures.schema
    (λ e. true≢false (sym (c.if-is_empty.ensures ∙ ap (λ k. length k == 0) (c.key.ensures.positions ∙ e))))
    c.new-2.ensures.keys c.new-2.ensures.rows
