-- What counting distinct values in two phases did with a source, a sink and a run store.
use Rattle.std.specs.Prelude.{◌≡◌, ◌+◌, ◌++◌, ℕ, Bool, false, IsTrue, List, length, Result, IfOk, OnOk, IfErr}
use Rattle.gq_row.specs.declared.value.Value.{Value}
use Rattle.gq_spill.specs.Runs.{Runs}
use Rattle.gq_group.specs.Access.{RunSet, Apart, either, LeavesOthers, HasCause}
use Rattle.gq_group.specs.Distinct.{PushesDistinct}
use Rattle.gq_group.specs.Groups.{Group, keys_of}
use Rattle.gq_group.specs.RunSources.{only}
use Rattle.gq_group.specs.Work.{SpillsTwice}
use Rattle.gq_group.specs.declared.grouping.Spent.{Spent}
use Rattle.gq_group.specs.declared.refusal.Refusal.{Refusal}

-- The numbers of distinct values went to a sink, through a run that remains, or it was refused.
pub record CountedInRun (by : List ℕ) (column budget number : ℕ) (gives : List (List Value) → Type 0) (held holds : List Group → Type 0) (source_owned source_owns sink_owned sink_owns : RunSet) (source_ready sink_ready : Type 0)
    (source_makes sink_makes : Bool) (old new : Runs) (result : Result Spent Refusal) : Type 0 where
  pub groups : IsTrue old.honest → OnOk result ((rows : List (List Value)) → gives rows → (before : List Group) → held before → PushesDistinct by column rows (λ out. holds (before ++ out)))
  pub counts : IsTrue old.honest → IfOk result (λ spent. (rows : List (List Value)) → gives rows → (spent.rows_read ≡ length rows) × (spent.groups ≡ length (keys_of by rows)))
  pub spills : IsTrue old.honest → IfOk result (λ spent. SpillsTwice budget spent)
  pub made : source_makes ≡ false → sink_makes ≡ false → IfOk result (λ spent. new.made + 1 ≡ old.made + spent.runs)
  pub others : LeavesOthers (either (either source_owned sink_owned) (only number)) (either (either source_owns sink_owns) (only number)) old new
  pub apart : Apart (only number) (either source_owns sink_owns)
  pub grows : (run : ℕ) → IsTrue (either source_owned sink_owned run) → IsTrue (either source_owns sink_owns run)
  pub source : OnOk result source_ready
  pub sink : OnOk result sink_ready
  pub cause : IfErr result (λ e. HasCause e old new)
