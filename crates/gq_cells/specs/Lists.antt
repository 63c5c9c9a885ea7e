-- Rows in one list of cells.
use Rattle.std.specs.Prelude.{◌+◌, ◌-◌, ◌≤◌, ℕ, List, length, take, drop}
use Rattle.gq_cells.specs.declared.rows.Span.{Span}
use Rattle.gq_row.specs.declared.value.Value.{Value}

-- the elements of a list from one position up to another, which is left out
abbrev pub part : {X : Type 0} → List X → ℕ → ℕ → List X
part xs start end = take (end - start) (drop start xs)

-- a span lies within a list
abbrev pub IsPart : {X : Type 0} → List X → Span → Type 0
IsPart xs span = (span.start ≤ span.end) × (span.end ≤ length xs)

-- the row at a span of a list of cells
abbrev pub row_at : List Value → Span → List Value
row_at cells span = part cells span.start span.end

-- a span after this many more elements
abbrev pub moved : ℕ → Span → Span
moved n span = record { start = n + span.start; end = n + span.end }
