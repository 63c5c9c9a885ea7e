-- The stack of runs that wait to be read, and what was done so far.
use Rattle.std.specs.Prelude.{◌≡◌, ℕ, IsTrue, List, length}
use Rattle.std.specs.List.{AllByRecursion}
use Rattle.gq_row.specs.declared.value.Value.{Value}
use Rattle.gq_spill.specs.Runs.{Runs}
use Rattle.gq_group.specs.Access.{RunSet, either, Apart, LeavesOthers}
use Rattle.gq_group.specs.Groups.{Spec, Group}
use Rattle.gq_group.specs.Piles.{Piled}
use Rattle.gq_group.specs.Passes.{Fit}
use Rattle.gq_group.specs.Partitions.{among, Ours, AllHeld}
use Rattle.gq_group.specs.declared.grouping.Spent.{Spent}
use Rattle.gq_group.specs.declared.partition.Partition.{Partition}

-- Besides the runs that a source and a sink own, those of the stack are there, and nothing else has changed.
pub record OnStack (owned owns : RunSet) (stack : List Partition) (old new : Runs) : Type 0 where
  pub ours : Ours stack new
  pub apart : Apart (among stack) owns
  pub others : LeavesOthers owned (either owns (among stack)) old new
  pub grows : (run : ℕ) → IsTrue (owned run) → IsTrue (owns run)

-- The groups of the rows are those that were pushed and those of the rows on the stack, and what was written is within the bounds.
pub record Waits (spec : Spec) (budget : ℕ) (rows : List (List Value)) (columns : ℕ) (stack : List Partition) (runs : Runs) (spent : Spent) (holds : List Group → Type 0) : Type 0 where
  pub out : List Group
  pub pile : List (List (List Value))
  pub pushed : holds out
  pub held : AllHeld runs stack pile
  pub piled : Piled spec budget rows out pile spent.rows_written spent.runs
  pub fit : AllByRecursion (Fit spec columns) pile
  pub read : spent.rows_read ≡ length rows
  pub sent : spent.groups ≡ length out
