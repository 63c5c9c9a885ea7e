-- The work of groupings.
use Rattle.std.specs.Prelude.{◌≡◌, ◌+◌, ◌-◌, ◌^◌, min, ℕ, Bool, IsTrue, List, [], ◌∷◌, length}
use Rattle.gq_row.specs.declared.value.Value.{Value}
use Rattle.gq_group.specs.declared.grouping.Spent.{Spent}
use Rattle.gq_group.specs.Groups.{keys_of}
use Rattle.gq_group.specs.Work.{Spills}

-- The work of grouping rows by some columns within a budget: each row is read once, there is one group for each key, and the numbers of rows written and of runs are within the bounds for these groups and this budget.
pub record IsSpentOn (budget : ℕ) (by : List ℕ) (rows : List (List Value)) (spent : Spent) : Type 0 where
  pub read : spent.rows_read ≡ length rows
  pub groups : spent.groups ≡ length (keys_of by rows)
  pub written : Spills budget spent

-- a number raised by another, up to the maximum of 64 bits
abbrev pub sum_within : ℕ → ℕ → ℕ
sum_within n more = min (n + more) (2 ^ 64 - 1)

-- the sum of two amounts of work
abbrev pub both_spent : Spent → Spent → Spent
both_spent old more = record {
  rows_read = sum_within old.rows_read more.rows_read;
  rows_written = sum_within old.rows_written more.rows_written;
  groups = sum_within old.groups more.groups;
  runs = sum_within old.runs more.runs;
}

-- The work spent rises by the work of grouping rows by each of some lists of columns, one after the other. Over a store that reads back what was written, each amount is the work that these rows take within the budget.
pub data RisesBy (honest : Bool) (budget : ℕ) (rows : List (List Value)) : List (List ℕ) → Spent → Spent → Type 0 where
  IsDone : {spent : Spent} → RisesBy honest budget rows [] spent spent
  Rises : {by : List ℕ} {sets : List (List ℕ)} {old new : Spent} → (work : Spent) → (IsTrue honest → IsSpentOn budget by rows work) → RisesBy honest budget rows sets (both_spent old work) new → RisesBy honest budget rows (by ∷ sets) old new
