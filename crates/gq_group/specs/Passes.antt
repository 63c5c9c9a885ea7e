-- What one pass over rows has done: the groups of some keys were pushed, and the rows of other keys are in runs.
use Rattle.std.specs.Prelude.{◌≡◌, ◌+◌, ◌<◌, ◌≤◌, ◌++◌, ℕ, Bool, IsTrue, All, List, [], ◌∷◌, length, map, IsPermutation}
use Rattle.std.specs.List.{flat_map, sum_by, AllByRecursion}
use Rattle.gq_row.specs.declared.value.Value.{Value}
use Rattle.gq_spill.specs.Runs.{Runs}
use Rattle.gq_group.specs.Entries.{Pair}
use Rattle.gq_group.specs.Groups.{Spec, Group, groups, answered, all_fit, OneWidth}
use Rattle.gq_group.specs.Partitioning.{row_groups, lots, one_if_some}
use Rattle.gq_group.specs.Residents.{Resident, left_over}
use Rattle.gq_group.specs.Partitions.{AllHeld, Filled, waiting}
use Rattle.gq_group.specs.declared.pass.PassStats.{PassStats}
use Rattle.gq_group.specs.declared.pass.Placed.{Placed}
use Rattle.gq_group.specs.declared.pass.Placed.TheVariants.{Grouped, Spilled}
use Rattle.gq_group.specs.declared.partition.Partition.{Partition}

-- rows that can be grouped, all of one length
abbrev pub AreRows : Spec → List (List Value) → Type 0
AreRows spec rows = IsTrue (all_fit spec rows) × OneWidth rows

-- rows that can be grouped, all of this length
pub record Fit (spec : Spec) (columns : ℕ) (rows : List (List Value)) : Type 0 where
  pub fits : IsTrue (all_fit spec rows)
  pub widths : All (λ row. length row ≡ columns) rows

-- the first row, if there is one, has this length
abbrev pub IsWide : ℕ → List (List Value) → Type 0
IsWide columns [] = Unit {0}
IsWide columns (row ∷ rows) = length row ≡ columns

-- The groups of the rows are those that were pushed and those of the rows in the partitions' runs, in some order. At most the budget's number
-- were pushed, and that many if a row was written.
pub record Parted (spec : Spec) (budget : ℕ) (rows : List (List Value)) (partitions : List Partition) (runs : Runs) (stats : PassStats) (holds : List Group → Type 0) : Type 0 where
  pub out : List Group
  pub parts : List (List (List Value))
  pub pushed : holds out
  pub held : AllHeld runs partitions parts
  pub whole : IsPermutation (groups spec rows) (map answered out ++ flat_map (row_groups spec) parts)
  pub wide : IsWide stats.columns rows
  pub fit : (columns : ℕ) → Fit spec columns rows → AllByRecursion (Fit spec columns) parts
  pub read : stats.rows_read ≡ length rows
  pub sent : stats.groups ≡ length out
  pub few : length out ≤ budget
  pub full : 0 < sum_by length parts → length out ≡ budget
  pub written : stats.rows_written ≡ sum_by length parts
  pub fewer : sum_by length parts ≤ length rows
  pub began : stats.runs ≡ sum_by one_if_some parts

-- what holds of the numbers over any store
pub record Numbers (budget bound : ℕ) (partitions : List Partition) (stats : PassStats) : Type 0 where
  pub read : stats.rows_read ≤ bound
  pub fewer : 0 < stats.rows_written → stats.rows_written < stats.rows_read
  pub waits : waiting partitions ≡ stats.rows_written
  pub few : stats.groups ≤ budget
  pub runs : stats.runs ≤ stats.rows_written
  pub filled : Filled partitions

-- the rows that are left, partition by partition
abbrev pub left_lots : Spec → (List Value → ℕ) → ℕ → List (List Value) → List Pair → List (List (List Value))
left_lots spec part_of n done m = lots part_of spec.by 0 n (left_over spec m done)

-- how many rows were written when a row was placed, 0 or 1
abbrev pub written_of : Placed → ℕ
written_of Grouped = 0
written_of (Spilled began) = 1

-- how many runs were begun for it
abbrev pub began_of : Placed → ℕ
began_of Grouped = 0
began_of (Spilled began) = began

-- One row more was placed: in its group, or in the run of its partition.
pub record Places (spec : Spec) (budget : ℕ) (part_of : List Value → ℕ) (n : ℕ) (row : List Value) (old new : Runs) (m m' : List Pair) (partitions partitions' : List Partition) (written began : ℕ) : Type 0 where
  pub resident : (done : List (List Value)) → Resident spec budget done m → Resident spec budget (done ++ row ∷ []) m'
  pub left : (done : List (List Value)) → Resident spec budget done m → length (left_over spec m' (done ++ row ∷ [])) ≡ length (left_over spec m done) + written
  pub held : (done : List (List Value)) → Resident spec budget done m → AllHeld old partitions (left_lots spec part_of n done m) → AllHeld new partitions' (left_lots spec part_of n (done ++ row ∷ []) m')
  pub runs : (done : List (List Value)) → Resident spec budget done m → AllHeld old partitions (left_lots spec part_of n done m)
      → sum_by one_if_some (left_lots spec part_of n (done ++ row ∷ []) m') ≡ sum_by one_if_some (left_lots spec part_of n done m) + began
  pub one : written ≤ 1
  pub one_began : began ≤ written

-- Rows were read. Over an honest store they are the first of those that were there, and gives says what is left.
pub record Reads (spec : Spec) (budget : ℕ) (part_of : List Value → ℕ) (n : ℕ) (honest : Bool) (before gives : List (List Value) → Type 0) (runs : Runs) (count written began columns : ℕ) (m : List Pair) (partitions : List Partition) : Type 0 where
  pub done : List (List Value)
  pub counted : length done ≡ count
  pub rest : IsTrue honest → (rows : List (List Value)) → before rows → (left : List (List Value)) × (rows ≡ done ++ left) × gives left
  pub resident : Resident spec budget done m
  pub held : AllHeld runs partitions (left_lots spec part_of n done m)
  pub wrote : length (left_over spec m done) ≡ written
  pub began_runs : sum_by one_if_some (left_lots spec part_of n done m) ≡ began
  pub wide : IsWide columns done
