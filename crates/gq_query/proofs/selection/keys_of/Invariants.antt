use Rattle.std.proofs.Common.{◌≡◌, ◌++◌, List, length}
use Rattle.gq_row.specs.declared.value.Value.{Value}
use Rattle.gq_select.specs.KeySets.{AreKeysOf}
use Rattle.gq_query.specs.Keeping.{AreLong}
use Rattle.gq_query.proofs.selection.keys_of.Given as goal

-- the keys so far are those of the rows before
abbrev pub invariant-rows : goal.invariant-rows
invariant-rows g l = record {
  keys : (done : List (List Value)) × (done ++ l.rows.rest ≡ l.table.rows) × AreKeysOf l.columns done l.keys;
  long : AreLong l.columns l.rows.rest;
}

abbrev pub decreases-rows : goal.decreases-rows
decreases-rows g l = length l.rows.rest
