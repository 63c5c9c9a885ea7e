use Rattle.std.proofs.Common.{◌≡◌, ◌++◌, drop, length, take}
use Rattle.gq_query.proofs.group_list.put_short_key.Given as goal

abbrev pub invariant-loop-i : goal.invariant-loop-i
invariant-loop-i l = record {
  size : length l.key ≡ length l.fn.key;
  left : drop l.i l.key ≡ drop l.i l.fn.key;
  put : l.cells ≡ l.fn.cells ++ take l.i l.fn.key;
}
