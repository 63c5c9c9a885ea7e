use Rattle.std.proofs.Common.{◌≡◌, ◌≤◌, ◌+◌, ◌*◌, drop, length, take}
use Rattle.gq_cells.proofs.keys.KeysLeft.take.Given as goal

abbrev pub invariant-loop-i : goal.invariant-loop-i
invariant-loop-i l = record {
  width : l.self-inside.width ≡ l.initial.self-inside.width;
  len : l.self-inside.len ≡ l.initial.self-inside.len;
  room : l.initial.self-inside.len * l.initial.self-inside.width + l.initial.self-inside.width ≤ l.i + length l.self-inside.cells;
  taken : l.values.items ≡ take l.i l.initial.self-inside.cells;
  left : drop l.i l.initial.self-inside.cells ≡ l.self-inside.cells;
}
