-- How much a grouping wrote, by the number of groups and the budget.
use Rattle.std.specs.Prelude.{◌≡◌, ◌≤◌, ◌↔◌, ◌+◌, ◌-◌, ◌*◌, ◌/◌, ℕ}
use Rattle.gq_group.specs.declared.grouping.Spent.{Spent}

-- Rows are written, and runs made, exactly if there are more groups than the budget. The source and each run give at most the
-- budget's number of groups, and each written row at most one; no row is written more often than groups fill further budgets.
pub record Spills (budget : ℕ) (spent : Spent) : Type 0 where
  pub no_runs : (spent.runs ≡ 0) ↔ (spent.groups ≤ budget)
  pub no_rows : (spent.rows_written ≡ 0) ↔ (spent.groups ≤ budget)
  pub by_runs : spent.groups ≤ budget * (spent.runs + 1)
  pub by_rows : spent.groups ≤ budget + spent.rows_written
  pub few_rows : spent.rows_written ≤ spent.rows_read * ((spent.groups - 1) / budget)
  pub few_runs : spent.runs ≤ spent.groups - budget

-- Distinct values are counted by two groupings: first of the pairs of a key and a value, all of which are written to a run of their
-- own, and then of these by their keys.
pub record SpillsTwice (budget : ℕ) (spent : Spent) : Type 0 where
  pub pairs : Spent
  pub counts : Spent
  pub of_pairs : Spills budget pairs
  pub of_counts : Spills budget counts
  pub read : spent.rows_read ≡ pairs.rows_read
  pub between : counts.rows_read ≡ pairs.groups
  pub groups : spent.groups ≡ counts.groups
  pub written : spent.rows_written ≡ pairs.rows_written + pairs.groups + counts.rows_written
  pub runs : spent.runs ≡ pairs.runs + 1 + counts.runs
