use Rattle.std.proofs.Common.{◌≡◌, ◌||◌, drop}
use Rattle.std.specs.List.{list_any}
use Rattle.gq_format.specs.Columns.{cells_at, is_number, widest}
use Rattle.gq_format.specs.Shown.{shown_text, terminal_width}
use Rattle.gq_format.proofs.column.column_of.Given as goal

abbrev pub invariant-loop-i : goal.invariant-loop-i
invariant-loop-i l = record {
  width : widest l.width (cells_at l.place (drop l.i l.rows)) ≡ widest (terminal_width (shown_text l.name)) (cells_at l.place l.rows);
  numeric : (l.is_numeric || list_any is_number (cells_at l.place (drop l.i l.rows))) ≡ list_any is_number (cells_at l.place l.rows);
}
