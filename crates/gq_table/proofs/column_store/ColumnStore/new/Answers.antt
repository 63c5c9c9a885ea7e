use Rattle.gq_table.proofs.ColumnStoreLemmas.{none_across}
use Rattle.gq_table.proofs.column_store.ColumnStore.new.Goals as goal

pub returns : goal.returns
returns c = none_across c.new.result.items
