use Rattle.std.proofs.Common.{◌≡◌, ◌≤◌, ℕ, List, filter, length}
use Rattle.gq_query.specs.Keeping.{AreLong, is_kept}
use Rattle.gq_query.proofs.row_filter.RowFilter.advance_to_kept.Given as goal

-- the rows that are kept are among those that are left
abbrev pub invariant-rows : goal.invariant-rows
invariant-rows g l = record {
  kept : filter (is_kept l.self) l.rows.rest ≡ filter (is_kept l.self) l.fn.rows.rest;
  fewer : length l.rows.rest ≤ length l.fn.rows.rest;
  long : (columns : List ℕ) → AreLong columns l.fn.rows.rest → AreLong columns l.rows.rest;
}

abbrev pub decreases-rows : goal.decreases-rows
decreases-rows g l = length l.rows.rest
