-- Rows at spans of a list of cells.
use Rattle.std.specs.Prelude.{List, [], length, nat_le, ◌&&◌, if◌then◌else◌}
use Rattle.gq_cells.specs.declared.rows.Span.{Span}
use Rattle.gq_row.specs.declared.value.Value.{Value}
use Rattle.gq_cells.specs.Lists.{part}

-- the row at a span, or an empty one if the span isn't within the list
abbrev pub row_in : List Value → Span → List Value
row_in cells span = if nat_le span.start span.end && nat_le span.end (length cells) then part cells span.start span.end else []
