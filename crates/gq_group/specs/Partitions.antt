-- Partitions: each has a run for the rows of its keys, and what is in it.
use Rattle.std.specs.Prelude.{◌≡◌, ◌<◌, ◌++◌, ℕ, zero, suc, false, IsTrue, List, [], ◌∷◌, length, Option, Some, None}
use Rattle.std.specs.List.{list_any, sum_by, AllZip, AllByRecursion}
use Rattle.gq_row.specs.declared.value.Value.{Value}
use Rattle.gq_spill.specs.Runs.{Runs, SameRun}
use Rattle.gq_spill.specs.Writing.{Writing, Wrote}
use Rattle.gq_group.specs.Access.{RunSet}
use Rattle.gq_group.specs.RunSources.{only}
use Rattle.gq_group.specs.declared.partition.Partition.{Partition}

-- the run of a partition, if it has one
abbrev pub is_run : Option Writing → RunSet
is_run None run = false
is_run (Some w) run = only w.mark.id.number run

-- the runs of some partitions
abbrev pub among : List Partition → RunSet
among partitions run = list_any (λ s. is_run s.writer run) partitions

-- no two partitions have the same run
abbrev pub Separate : List Partition → Type 0
Separate [] = Unit {0}
Separate (s ∷ partitions) = ((run : ℕ) → IsTrue (is_run s.writer run) → among partitions run ≡ false) × Separate partitions

-- the runs are live, and no two partitions have the same
pub record Ours (partitions : List Partition) (runs : Runs) : Type 0 where
  pub live : (run : ℕ) → IsTrue (among partitions run) → IsTrue (runs.live run)
  pub separate : Separate partitions

-- a run to which these rows were written, at least one; over an honest store it has them
pub record HasRun (w : Writing) (runs : Runs) (rows : List (List Value)) : Type 0 where
  pub some : 0 < length rows
  pub count : w.mark.records ≡ length rows
  pub going : w.refused ≡ None
  pub wrote : IsTrue runs.honest → Wrote w runs rows

-- a partition without a run holds no row
abbrev pub PartitionHolds : Runs → Option Writing → List (List Value) → Type 0
PartitionHolds runs None rows = rows ≡ []
PartitionHolds runs (Some w) rows = HasRun w runs rows

-- the partitions hold these rows, each its own
abbrev pub AllHeld : Runs → List Partition → List (List (List Value)) → Type 0
AllHeld runs partitions parts = AllZip (λ s. PartitionHolds runs s.writer) partitions parts

abbrev pub records_in : Option Writing → ℕ
records_in None = 0
records_in (Some w) = w.mark.records

-- how many rows wait in the partitions' runs
abbrev pub waiting : List Partition → ℕ
waiting partitions = sum_by (λ s. records_in s.writer) partitions

abbrev pub IsFilled : Option Writing → Type 0
IsFilled None = Unit {0}
IsFilled (Some w) = 0 < w.mark.records

-- each run has a row
abbrev pub Filled : List Partition → Type 0
Filled partitions = AllByRecursion (λ s. IsFilled s.writer) partitions

-- no partition has a run
abbrev pub AreEmpty : List Partition → Type 0
AreEmpty partitions = AllByRecursion (λ s. s.writer ≡ None) partitions

-- one row more at the end of the part of a number
abbrev pub push_at : ℕ → List Value → List (List (List Value)) → List (List (List Value))
push_at i row [] = []
push_at zero row (part ∷ parts) = (part ++ row ∷ []) ∷ parts
push_at (suc i) row (part ∷ parts) = part ∷ push_at i row parts

-- some runs were discarded, and nothing else was done
pub record Gone (mine : RunSet) (old new : Runs) : Type 0 where
  pub others : (run : ℕ) → mine run ≡ false → SameRun old new run
  pub gone : (run : ℕ) → IsTrue (mine run) → new.live run ≡ false
  pub same_honest : new.honest ≡ old.honest
  pub same_made : new.made ≡ old.made
  pub same_failures : new.failures ≡ old.failures

-- the runs of the last of some partitions were discarded, and those of the others are left
pub record DiscardedSome (all left : List Partition) (old new : Runs) : Type 0 where
  pub done : List Partition
  pub whole : all ≡ left ++ done
  pub ours : Ours left new
  pub gone : Gone (among done) old new
