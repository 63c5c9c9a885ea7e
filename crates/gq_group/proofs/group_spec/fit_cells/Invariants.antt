use Rattle.std.proofs.Common.{◌≡◌, drop, true}
use Rattle.std.specs.List.{list_all}
use Rattle.gq_group.specs.Fitting.{has_all_asked}
use Rattle.gq_group.specs.Groups.{fits_cell}
use Rattle.gq_group.proofs.group_spec.fit_cells.Given as goal

abbrev pub invariant-loop-agg : goal.invariant-loop-agg
invariant-loop-agg l = record {
  asked : has_all_asked (drop l.agg-index l.aggs) l.row ≡ true;
  fit : list_all (fits_cell l.row) (drop l.agg-index l.aggs) ≡ list_all (fits_cell l.row) l.aggs;
}
