use Rattle.std.proofs.Common.{◌∙◌, length, sym, ap}
use Rattle.gq_table.proofs.RowStoreLemmas.{length-along}
use Rattle.gq_table.proofs.row_store.RowStore.len.Goals as goal

pub returns : goal.returns
returns c = let s = c.self.inside in sym (length-along s.width s.rows s.cells.items) ∙ ap length c.self.view_is
