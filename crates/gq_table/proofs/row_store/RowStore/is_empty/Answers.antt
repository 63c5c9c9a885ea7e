use Rattle.std.proofs.Common.{◌∙◌, length, nat_eq, sym, ap}
use Rattle.gq_table.proofs.RowStoreLemmas.{length-along}
use Rattle.gq_table.proofs.row_store.RowStore.is_empty.Goals as goal

pub returns : goal.returns
returns c = let s = c.self.inside in ap (λ n. nat_eq n 0) (sym (length-along s.width s.rows s.cells.items) ∙ ap length c.self.view_is)
