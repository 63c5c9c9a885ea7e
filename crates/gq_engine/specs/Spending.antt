-- How the work of groupings adds up.
use Rattle.std.specs.Prelude.{◌≡◌, ℕ, Bool, List, Result, Ok}
use Rattle.gq_row.specs.declared.value.Value.{Value}
use Rattle.gq_group.specs.declared.grouping.Spent.{Spent}
use Rattle.gq_command.specs.declared.command.Command.{Command}
use Rattle.gq_command.specs.declared.command.Command.TheVariants.{Create, Drop, Load, Upsert, Delete, Show, Group, Distinct}
use Rattle.gq_reply.specs.declared.refusal.Refused.{Refused}
use Rattle.gq_reply.specs.declared.reply.Reply.{Reply}
use Rattle.gq_reply.specs.declared.reply.Reply.TheVariants as reply
use Rattle.gq_reply.specs.Outcomes.{◌>>=◌}
use Rattle.gq_query.specs.Selecting.{other_columns}
use Rattle.gq_query.specs.Rollups.{grouping_sets}
use Rattle.gq_query.specs.Work.{RisesBy}
use Rattle.gq_plan.specs.declared.clauses.GroupClauses.{GroupClauses}
use Rattle.gq_plan.specs.Plans.{group_plan}
use Rattle.gq_engine.specs.Databases.{Database}
use Rattle.gq_engine.specs.Steps.{other_in, rows_about, table_in}

-- by which grouping sets a `group` groups, and the rows that it is about
abbrev pub rows_asked : Database → List ℕ → GroupClauses → Result (List (List ℕ) × List (List Value)) Refused
rows_asked db name clauses = do
  table ← table_in db name
  other ← other_in db clauses.exists
  plan ← group_plan table.schema.columns (other_columns other) clauses
  Ok (grouping_sets plan.rollup plan.by, rows_about plan table other)

-- What was spent rose by the work of grouping the rows that a `group` is about by each of its grouping sets.
pub record Rises (honest : Bool) (budget : ℕ) (db : Database) (name : List ℕ) (clauses : GroupClauses) (old new : Spent) : Type 0 where
  pub sets : List (List ℕ)
  pub rows : List (List Value)
  pub asked : rows_asked db name clauses ≡ Ok (sets, rows)
  pub work : RisesBy honest budget rows sets old new

-- a `group` raises what was spent where it is carried out, and leaves it where it is refused
abbrev pub GroupSpends : Bool → ℕ → Database → List ℕ → GroupClauses → Reply → Spent → Spent → Type 0
GroupSpends honest budget db name clauses (reply.Rows header rows) old new = Rises honest budget db name clauses old new
GroupSpends honest budget db name clauses (reply.Done n) old new = new ≡ old
GroupSpends honest budget db name clauses (reply.Refused why number) old new = new ≡ old

-- A `group` that is carried out raises what was spent; a `group` that is refused, and all other commands, leave it.
abbrev pub Spends : Bool → ℕ → Database → Command → Reply → Spent → Spent → Type 0
Spends honest budget db (Group table by shown tests exists having) answer old new =
    GroupSpends honest budget db table (record { by = by; shown = shown; tests = tests; exists = exists; having = having }) answer old new
Spends honest budget db (Create table columns key) answer old new = new ≡ old
Spends honest budget db (Drop table) answer old new = new ≡ old
Spends honest budget db (Load table carried) answer old new = new ≡ old
Spends honest budget db (Upsert table values) answer old new = new ≡ old
Spends honest budget db (Delete table values) answer old new = new ≡ old
Spends honest budget db (Show table) answer old new = new ≡ old
Spends honest budget db (Distinct table on tests) answer old new = new ≡ old
