-- Outcomes of queries: what they return, and what they do to the run store, whose runs are `old` before and `new` after.
use Rattle.std.specs.Prelude.{◌≡◌, IsTrue, List, Option, None, Some, Result, IfOk, IfErr, IsErrOf}
use Rattle.gq_row.specs.declared.value.Value.{Value}
use Rattle.gq_spill.specs.Runs.{Runs}
use Rattle.gq_group.specs.Access.{LeavesOthers, HasCause, GroupCause}
use Rattle.gq_group.specs.declared.grouping.Spent.{Spent}
use Rattle.gq_group.specs.declared.refusal.Refusal.{Refusal}
use Rattle.gq_group.specs.declared.refusal.Refusal.TheVariants.{SumRange}
use Rattle.gq_query.specs.declared.query.Query.{Query}
use Rattle.gq_query.specs.Keeping.{kept_rows}
use Rattle.gq_query.specs.Sources.{no_runs}
use Rattle.gq_query.specs.Work.{IsSpentOn}

-- the work of grouping the kept rows of a query by its columns
abbrev pub IsWorkOf : {H : Type 0} → Query H → Spent → Type 0
IsWorkOf query = IsSpentOn query.budget.entries query.by.now (kept_rows query)

-- The outcome of a query that computes no sum. Over a store that reads back what was written, what it returns is right. Over every store no new run remains, no other run is touched, and it fails only for a cause.
pub record Found {T : Type 0} (old new : Runs) (result : Result T Refusal) (IsRight : T → Type 0) : Type 0 where
  pub found : IsTrue old.honest → IfOk result IsRight
  pub others : LeavesOthers no_runs no_runs old new
  pub cause : IfErr result (λ why. HasCause why old new)

-- The outcome of one grouping. Over a store that reads back what was written, what it returns and its work are right, and it fails with `SumRange` only if a sum is out of range. Over every store no new run remains, no other run is touched, and it fails only for a cause.
pub record Grouped {T : Type 0} (old new : Runs) (result : Result T Refusal) (IsRight IsWork : T → Type 0) (IsOutOfRange : Type 0) : Type 0 where
  pub found : IsTrue old.honest → IfOk result IsRight
  pub spent : IsTrue old.honest → IfOk result IsWork
  pub overflow : IsTrue old.honest → IsErrOf result SumRange → IsOutOfRange
  pub others : LeavesOthers no_runs no_runs old new
  pub cause : IfErr result (λ why. GroupCause why old new)

-- the outcome of one grouping that returns result rows and its work: the rows are the answer, which is `None` if a sum is out of range
abbrev pub RowsGrouped : Runs → Runs → Result (List (List Value) × Spent) Refusal → Option (List (List Value)) → (Spent → Type 0) → Type 0
RowsGrouped old new result answer IsWork = Grouped old new result (λ found. answer ≡ Some found.0) (λ found. IsWork found.1) (answer ≡ None)

-- The outcome of a `group`, which makes one grouping or, for a rollup, one for each level. Over a store that reads back what was written, the rows that it returns are the answer, and it fails with `SumRange` only if the answer is `None`, as a sum is out of range. Over every store the work that it returns is right, no new run remains, no other run is touched, and it fails only for a cause.
pub record Answered (old new : Runs) (result : Result (List (List Value) × Spent) Refusal) (answer : Option (List (List Value))) (IsWork : Spent → Type 0) : Type 0 where
  pub rows : IsTrue old.honest → IfOk result (λ found. answer ≡ Some found.0)
  pub spent : IfOk result (λ found. IsWork found.1)
  pub overflow : IsTrue old.honest → IsErrOf result SumRange → answer ≡ None
  pub others : LeavesOthers no_runs no_runs old new
  pub cause : IfErr result (λ why. GroupCause why old new)
