use Rattle.std.proofs.Common.{◌≡◌, ◌++◌, drop}
use Rattle.std.specs.Prelude.{option_map}
use Rattle.gq_row.specs.Schemas.{positions_of}
use Rattle.gq_row.proofs.schema.find_positions.Given as goal

abbrev pub invariant-loop-name : goal.invariant-loop-name
invariant-loop-name l = option_map (λ rest. l.positions.items ++ rest) (positions_of l.columns (drop l.name-index l.names)) ≡ positions_of l.columns l.names
