use Rattle.std.proofs.Common.{◌∙◌, length, nat_eq, sym, ap}
use Rattle.gq_table.proofs.ColumnStoreLemmas.{length-across}
use Rattle.gq_table.proofs.column_store.ColumnStore.is_empty.Goals as goal

pub returns : goal.returns
returns c = ap (λ n. nat_eq n 0) (sym (length-across c.self.inside.rows c.self.inside.columns.items c.self.invariant) ∙ ap length c.self.view_is)
