use Rattle.std.proofs.Common.{◌≡◌, length}
use Rattle.gq_group.proofs.row_block.RowBlock.new.Given as goal

abbrev pub invariant-rows : goal.invariant-rows
invariant-rows l = length l.rows.items ≡ l.i
