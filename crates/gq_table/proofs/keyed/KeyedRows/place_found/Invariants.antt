use Rattle.std.proofs.Common.{◌≡◌}
use Rattle.gq_table.proofs.PlaceLemmas.{Placing}
use Rattle.gq_table.proofs.keyed.KeyedRows.place_found.Given as goal

abbrev pub invariant-rows : goal.invariant-rows
invariant-rows g l = record {
  placing : Placing l.positions l.initial.self.rows l.initial.staged l.places l.i l.self.rows l.staged;
  index : l.self.index ≡ l.initial.self.index;
}
