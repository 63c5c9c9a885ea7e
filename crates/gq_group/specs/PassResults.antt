-- What one pass did with a source, a sink and a run store.
use Rattle.std.specs.Prelude.{◌≡◌, ◌+◌, ◌≤◌, ◌++◌, ℕ, Bool, false, true, IsTrue, List, [], length, Result, IfOk, OnOk, IfErr, IsErrOf}
use Rattle.gq_row.specs.declared.value.Value.{Value}
use Rattle.gq_spill.specs.Runs.{Runs}
use Rattle.gq_spill.specs.Writing.{Writing}
use Rattle.gq_group.specs.Access.{RunSet, Apart, either, LeavesOthers, HasCause, GroupCause}
use Rattle.gq_group.specs.Entries.{Pair}
use Rattle.gq_group.specs.Groups.{Spec, Group, out_of_range}
use Rattle.gq_group.specs.Passes.{AreRows, Fit, Reads, Parted, Numbers}
use Rattle.gq_group.specs.RunSources.{only}
use Rattle.gq_group.specs.Partitions.{among, Ours, HasRun, Gone}
use Rattle.gq_group.specs.Stacks.{OnStack, Waits}
use Rattle.gq_group.specs.declared.grouping.Spent.{Spent}
use Rattle.gq_group.specs.declared.pass.PassStats.{PassStats}
use Rattle.gq_group.specs.declared.pass.Taken.{Taken}
use Rattle.gq_group.specs.declared.refusal.Refusal.{Refusal}
use Rattle.gq_group.specs.declared.refusal.Refusal.TheVariants.{SumRange}
use Rattle.gq_group.specs.declared.partition.Partition.{Partition}

-- All rows of a source were read, each into its group or into the run of its partition, or it was refused.
pub record RowsRead (spec : Spec) (budget : ℕ) (part_of : List Value → ℕ) (fan_out most : ℕ) (gives : List (List Value) → Type 0) (source_owned source_owns : RunSet) (source_ready : Type 0) (source_makes : Bool)
    (old new : Runs) (pairs : List Pair) (partitions : List Partition) (result : Result Taken Refusal) : Type 0 where
  pub read : IfOk result (λ done. Reads spec budget part_of fan_out old.honest gives (λ left. left ≡ []) new done.rows_read done.rows_written done.runs done.columns pairs partitions)
  pub bound : IfOk result (λ done. done.rows_read ≤ most)
  pub less_runs : IfOk result (λ done. done.runs ≤ done.rows_written)
  pub places : length partitions ≡ fan_out
  pub source : OnOk result source_ready
  pub ours : Ours partitions new
  pub apart : Apart (among partitions) source_owns
  pub others : LeavesOthers source_owned (either source_owns (among partitions)) old new
  pub grows : (run : ℕ) → IsTrue (source_owned run) → IsTrue (source_owns run)
  pub owned : source_makes ≡ false → (run : ℕ) → IsTrue (source_owns run) → IsTrue (source_owned run)
  pub made : source_makes ≡ false → IfOk result (λ done. new.made ≡ old.made + done.runs)
  pub cause : IfErr result (λ e. HasCause e old new)

-- The groups of some keys of the rows that a source gives went to a sink, and the rows of its other keys to runs in partitions, or the pass was refused.
-- What the source owned and owns, what the sink owned and owns, and the partitions' runs are apart at every exit.
pub record PassRan (spec : Spec) (budget bound : ℕ) (gives : List (List Value) → Type 0) (held holds : List Group → Type 0) (source_owned source_owns sink_owned sink_owns : RunSet)
    (source_ready sink_ready : Type 0) (source_makes sink_makes : Bool) (old new : Runs) (partitions : List Partition) (result : Result PassStats Refusal) : Type 0 where
  pub parted : IsTrue old.honest → IfOk result (λ done. (rows : List (List Value)) → gives rows → Parted spec budget rows partitions new done (λ out. (before : List Group) → held before → holds (before ++ out)))
  pub overflow : IsErrOf result SumRange → IsTrue old.honest → (rows : List (List Value)) → gives rows → out_of_range spec rows ≡ true
  pub numbers : IfOk result (λ done. Numbers budget bound partitions done)
  pub places : length partitions ≤ 16
  pub source : OnOk result source_ready
  pub sink : OnOk result sink_ready
  pub ours : Ours partitions new
  pub apart : Apart (among partitions) (either source_owns sink_owns)
  pub still_apart : Apart source_owns sink_owns
  pub others : LeavesOthers (either source_owned sink_owned) (either (either source_owns (among partitions)) sink_owns) old new
  pub grows : (run : ℕ) → IsTrue (source_owned run) → IsTrue (source_owns run)
  pub sink_grows : (run : ℕ) → IsTrue (sink_owned run) → IsTrue (sink_owns run)
  pub owned : source_makes ≡ false → (run : ℕ) → IsTrue (source_owns run) → IsTrue (source_owned run)
  pub made : source_makes ≡ false → sink_makes ≡ false → IfOk result (λ done. new.made ≡ old.made + done.runs)
  pub cause : IfErr result (λ e. GroupCause e old new)

-- The same of a run, which was discarded once it was read.
pub record RunRead (spec : Spec) (budget columns : ℕ) (writer : Writing) (held holds : List Group → Type 0) (sink_owned sink_owns : RunSet) (sink_ready : Type 0) (sink_makes : Bool) (old new : Runs) (partitions : List Partition)
    (result : Result PassStats Refusal) : Type 0 where
  pub parted : IsTrue old.honest → IfOk result (λ done. (rows : List (List Value)) → HasRun writer old rows → Fit spec columns rows → Parted spec budget rows partitions new done (λ out. (before : List Group) → held before → holds (before ++ out)))
  pub overflow : IsErrOf result SumRange → IsTrue old.honest → (rows : List (List Value)) → HasRun writer old rows → Fit spec columns rows → out_of_range spec rows ≡ true
  pub numbers : IfOk result (λ done. Numbers budget writer.mark.records partitions done)
  pub places : length partitions ≤ 16
  pub sink : OnOk result sink_ready
  pub ours : Ours partitions new
  pub apart : Apart (among partitions) (either (only writer.mark.id.number) sink_owns)
  pub still_apart : sink_owns writer.mark.id.number ≡ false
  pub sink_grows : (run : ℕ) → IsTrue (sink_owned run) → IsTrue (sink_owns run)
  pub others : (mid : Runs) × LeavesOthers (either (only writer.mark.id.number) sink_owned) (either (either (only writer.mark.id.number) (among partitions)) sink_owns) old mid × Gone (only writer.mark.id.number) mid new
  pub made : sink_makes ≡ false → IfOk result (λ done. new.made ≡ old.made + done.runs)
  pub cause : IfErr result (λ e. GroupCause e old new)

-- All groups of a source's rows went to a sink, those of the runs that were begun as well, or it was refused, and the runs that remain are on the stack.
pub record PassesRan (spec : Spec) (budget bound : ℕ) (gives : List (List Value) → Type 0) (held holds : List Group → Type 0) (source_owned source_owns sink_owned sink_owns : RunSet)
    (source_ready sink_ready : Type 0) (source_makes sink_makes : Bool) (old new : Runs) (stacked : List Partition) (result : Result Spent Refusal) : Type 0 where
  pub waits : IsTrue old.honest → IfOk result (λ spent. (columns : ℕ) × ((rows : List (List Value)) → gives rows → AreRows spec rows → Waits spec budget rows columns [] new spent (λ out. (before : List Group) → held before → holds (before ++ out))))
  pub overflow : IsErrOf result SumRange → IsTrue old.honest → (rows : List (List Value)) → gives rows → AreRows spec rows → out_of_range spec rows ≡ true
  pub read : IfOk result (λ spent. spent.rows_read ≤ bound)
  pub apart : Apart source_owns sink_owns
  pub grows_source : (run : ℕ) → IsTrue (source_owned run) → IsTrue (source_owns run)
  pub grows_sink : (run : ℕ) → IsTrue (sink_owned run) → IsTrue (sink_owns run)
  pub source : OnOk result source_ready
  pub sink : OnOk result sink_ready
  pub stack : OnStack (either source_owned sink_owned) (either source_owns sink_owns) stacked old new
  pub made : source_makes ≡ false → sink_makes ≡ false → IfOk result (λ spent. new.made ≡ old.made + spent.runs)
  pub cause : IfErr result (λ e. GroupCause e old new)
