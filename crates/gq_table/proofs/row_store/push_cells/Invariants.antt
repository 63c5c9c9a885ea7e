use Rattle.std.proofs.Common.{◌≡◌, ◌≤◌, ◌+◌, ◌-◌, ◌++◌, drop, length, take}
use Rattle.gq_table.proofs.row_store.push_cells.Given as goal

abbrev pub invariant-loop-value : goal.invariant-loop-value
invariant-loop-value l = record {
  pushed : l.cells.items ≡ l.initial.cells.items ++ take l.value-index l.initial.value-items;
  left : drop l.value-index l.value-items ≡ drop l.value-index l.initial.value-items;
  room : l.cells.len + (length l.value-items - l.value-index) ≤ l.cells.cap;
}
