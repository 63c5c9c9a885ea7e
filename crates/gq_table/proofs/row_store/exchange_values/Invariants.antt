use Rattle.std.proofs.Common.{◌≡◌, drop, take}
use Rattle.gq_table.proofs.row_store.exchange_values.Given as goal

abbrev pub invariant-loop-i : goal.invariant-loop-i
invariant-loop-i l = record {
  values : take l.i l.values ≡ take l.i l.initial.others;
  values_left : drop l.i l.values ≡ drop l.i l.initial.values;
  others : take l.i l.others ≡ take l.i l.initial.values;
  others_left : drop l.i l.others ≡ drop l.i l.initial.others;
}
