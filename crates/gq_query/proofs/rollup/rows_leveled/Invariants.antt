use Rattle.std.proofs.Common.{◌≡◌, ◌∷◌, map, filter, take, pos}
use Rattle.gq_row.specs.declared.value.Value.TheVariants.{Int}
use Rattle.gq_select.specs.Truths.{keeps}
use Rattle.gq_query.specs.Rollups.{filled}
use Rattle.gq_query.proofs.rollup.rows_leveled.Given as goal

abbrev pub invariant-loop-i : goal.invariant-loop-i
invariant-loop-i l = l.kept ≡ map (λ row. Int (pos l.level) ∷ row) (filter (keeps l.condition.tests) (map (filled l.level l.columns) (take l.i l.rows)))
