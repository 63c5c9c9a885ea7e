-- Plans of queries, by positions. Names are looked up before kinds are compared, so an unknown column is reported before any mismatch of kinds.
use Rattle.std.specs.Prelude.{◌<◌, ◌&&◌, Bool, IsTrue, List, length, All, Option, Some, None, Result, Ok, Err}
use Rattle.std.specs.List.{list_all}
use Rattle.std.specs.declared.alloc.AllocError.{AllocError}
use Rattle.gq_row.specs.declared.schema.Column.{Column}
use Rattle.gq_row.specs.Schemas.{positions_of}
use Rattle.gq_select.specs.Asking.{CanMatch, is_valid_for}
use Rattle.gq_select.specs.declared.matching.Matching.{Matching}
use Rattle.gq_command.specs.Commands.{Bytes}
use Rattle.gq_clause.specs.declared.condition.Test.{Test as NamedTest}
use Rattle.gq_command.specs.declared.command.Exists.{Exists}
use Rattle.gq_reply.specs.declared.refusal.Refusal.TheVariants.{Memory, NoColumn, TypeMismatch}
use Rattle.gq_reply.specs.declared.refusal.Refused.{Refused}
use Rattle.gq_reply.specs.Refusals.{unnumbered}
use Rattle.gq_reply.specs.Outcomes.{◌>>=◌, some_or, true_or}
use Rattle.gq_plan.specs.declared.clauses.GroupClauses.{GroupClauses}
use Rattle.gq_plan.specs.declared.plan.GroupPlan.{GroupPlan}
use Rattle.gq_plan.specs.declared.plan.DistinctPlan.{DistinctPlan}
use Rattle.gq_plan.specs.Kinds.{kinds_of, result_kinds, tests_fit, matching_fits}
use Rattle.gq_plan.specs.Places.{all_shown, in_row, in_result, all_placed}

-- the result of a lookup, or the refusal if a name isn't a column's or an allocation failed
abbrev pub or_no_column : {A : Type 0} → Result (Option A) AllocError → Result A Refused
or_no_column (Ok found) = some_or NoColumn found
or_no_column (Err e) = Err (unnumbered Memory)

-- the columns of `exists`: its first list names columns of the other table, the second columns of the table that is grouped
abbrev pub matching_named : List Column → List Column → Option Exists → Result (Option Matching) Refused
matching_named columns others None = Ok None
matching_named columns others (Some exists) = do
  theirs ← some_or NoColumn (positions_of others exists.theirs)
  ours ← some_or NoColumn (positions_of columns exists.ours)
  Ok (Some (record { negated = exists.negated; theirs = theirs; ours = ours }))

-- the positions of the names of a `group`: after `having` they name the `by` columns and the shown aggregates, elsewhere columns
abbrev pub group_named : List Column → List Column → GroupClauses → Result GroupPlan Refused
group_named columns others clauses = do
  by ← some_or NoColumn (positions_of columns clauses.by.columns)
  shown ← some_or NoColumn (all_shown columns clauses.shown)
  tests ← some_or NoColumn (all_placed (in_row columns) clauses.tests)
  matching ← matching_named columns others clauses.exists
  having ← some_or NoColumn (all_placed (in_result clauses.by.columns clauses.shown) clauses.having)
  Ok (record { by = by; rollup = clauses.by.rollup; shown = shown; condition = record { tests = tests }; matching = matching; having = record { tests = having } })

-- whether the kinds are compatible: no texts are summed, no number is compared with a text, and the columns of an `exists` have the same kinds
abbrev pub group_fits : List Column → List Column → GroupPlan → Bool
group_fits columns others plan = list_all (is_valid_for columns) plan.shown && (tests_fit (kinds_of columns) plan.condition.tests && (matching_fits columns others plan.matching && tests_fit (result_kinds columns plan.by plan.shown) plan.having.tests))

-- the plan of a `group` on a table with these columns, if the table of its `exists` has the others
abbrev pub group_plan : List Column → List Column → GroupClauses → Result GroupPlan Refused
group_plan columns others clauses = do
  plan ← group_named columns others clauses
  fitting ← true_or TypeMismatch (group_fits columns others plan)
  Ok plan

-- the positions of the names of a `distinct`
abbrev pub distinct_named : List Column → List Bytes → List NamedTest → Result DistinctPlan Refused
distinct_named columns names tests = do
  on ← some_or NoColumn (positions_of columns names)
  placed ← some_or NoColumn (all_placed (in_row columns) tests)
  Ok (record { on = on; condition = record { tests = placed } })

-- the plan of a `distinct`
abbrev pub distinct_plan : List Column → List Bytes → List NamedTest → Result DistinctPlan Refused
distinct_plan columns names tests = do
  plan ← distinct_named columns names tests
  fitting ← true_or TypeMismatch (tests_fit (kinds_of columns) plan.condition.tests)
  Ok plan

-- the positions of a plan are those of columns, and no texts are summed
pub record IsWithin (columns others : List Column) (plan : GroupPlan) : Type 0 where
  pub by : All (λ column. column < length columns) plan.by
  pub shown : IsTrue (list_all (is_valid_for columns) plan.shown)
  pub matching : CanMatch columns others plan.matching
