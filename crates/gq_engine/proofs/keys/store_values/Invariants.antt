use Rattle.std.proofs.Common.{◌≡◌, ◌++◌, drop, take, length}
use Rattle.gq_engine.specs.Refusing.{stored_key}
use Rattle.gq_engine.proofs.keys.store_values.Given as goal

abbrev pub invariant-loop-i : goal.invariant-loop-i
invariant-loop-i l = record {
  same_length : length l.values ≡ length l.initial.values;
  rest : take l.i l.values ++ stored_key l.columns (drop l.i l.key) (drop l.i l.values) ≡ stored_key l.columns l.key l.initial.values;
}
