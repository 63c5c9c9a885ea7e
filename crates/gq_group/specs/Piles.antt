-- What was pushed, and what waits in runs.
use Rattle.std.specs.Prelude.{◌+◌, ◌-◌, ◌*◌, ◌/◌, ◌≤◌, ◌++◌, ℕ, List, length, map, IsPermutation}
use Rattle.std.specs.List.{flat_map, sum_by}
use Rattle.gq_row.specs.declared.value.Value.{Value}
use Rattle.gq_group.specs.Groups.{Spec, Group, groups, answered}
use Rattle.gq_group.specs.Partitioning.{row_groups, cost, excess, one_if_some}

-- The groups of the rows are those that were pushed and those of the runs of the pile, in some order. What was written, with
-- what may be written for the pile, is within the bound, and so are the runs. Each pass pushes at most the budget.
pub record Piled (spec : Spec) (budget : ℕ) (rows : List (List Value)) (out : List Group) (pile : List (List (List Value))) (written runs : ℕ) : Type 0 where
  pub whole : IsPermutation (groups spec rows) (map answered out ++ flat_map (row_groups spec) pile)
  pub few_rows : written + sum_by (cost budget spec) pile ≤ length rows * ((length (groups spec rows) - 1) / budget)
  pub few_runs : runs + sum_by (excess budget spec) pile ≤ length (groups spec rows) - budget
  pub by_rows : length (groups spec rows) ≤ budget + written
  pub by_runs : length out + budget * sum_by one_if_some pile ≤ budget * (runs + 1)
