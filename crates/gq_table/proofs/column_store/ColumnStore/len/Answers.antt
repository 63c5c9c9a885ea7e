use Rattle.std.proofs.Common.{◌∙◌, length, sym, ap}
use Rattle.gq_table.proofs.ColumnStoreLemmas.{length-across}
use Rattle.gq_table.proofs.column_store.ColumnStore.len.Goals as goal

pub returns : goal.returns
returns c = sym (length-across c.self.inside.rows c.self.inside.columns.items c.self.invariant) ∙ ap length c.self.view_is
