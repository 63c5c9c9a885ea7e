use Rattle.std.proofs.Common.{◌≡◌, drop, map}
use Rattle.std.specs.Vec.Iter.{into_iter_items}
use Rattle.gq_row.specs.Rows.{key_of}
use Rattle.gq_table.proofs.PlaceLemmas.{Adding}
use Rattle.gq_table.proofs.keyed.KeyedRows.add_each.Given as goal

abbrev pub invariant-rows : goal.invariant-rows
invariant-rows g l = record {
  adding : Adding l.initial.self.rows l.initial.staged l.places l.i l.self.rows l.staged;
  own : l.self.index.keys ≡ map (key_of l.positions) l.self.rows;
  keys : into_iter_items l.keys ≡ map (key_of l.positions) (drop l.i l.initial.staged);
  hasher : l.self.index.hasher ≡ l.initial.self.index.hasher;
}
