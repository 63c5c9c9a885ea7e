use Rattle.std.proofs.Common.{◌≡◌, ◌<◌, ℕ, get_or, length}
use Rattle.gq_cells.specs.declared.cell_ref.CellRef.{CellRef}
use Rattle.gq_query.proofs.TieLemmas.{IsCellAt}
use Rattle.gq_query.proofs.tie_sort.cells_at.Given as goal

abbrev pub invariant-loop-i : goal.invariant-loop-i
invariant-loop-i l = record {
  size : length l.found ≡ 16;
  found : (k : ℕ) (e : CellRef) → k < l.i → IsCellAt l.cells l.groups l.position k (get_or l.found k e);
}
