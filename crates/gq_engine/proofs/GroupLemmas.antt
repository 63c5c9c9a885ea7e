-- Groups and distinct values: the results of a plan and of its grouping.
use Rattle.std.proofs.Common.{◌≡◌, ◌⊎◌, inl, inr, ◌<◌, ℕ, Bool, true, List, [], ◌∷◌, length, refl, sym, ap, subst, ◌∙◌, Option, Some, None, arith}
use Rattle.std.specs.Prelude.{Result, Ok, Err, IfOk}
use Rattle.gq_row.specs.declared.value.Value.{Value}
use Rattle.gq_row.specs.Tables.{PlainTable}
use Rattle.gq_command.specs.Commands.{Bytes, is_command}
use Rattle.gq_clause.specs.declared.condition.Test.{Test}
use Rattle.gq_command.specs.declared.command.Command.TheVariants.{Distinct}
use Rattle.gq_reply.specs.declared.refusal.Refusal.TheVariants.{NoTable, SumRange, Memory}
use Rattle.gq_reply.specs.declared.refusal.Refused.{Refused}
use Rattle.gq_reply.specs.declared.reply.Reply.{Reply}
use Rattle.gq_reply.specs.declared.reply.Reply.TheVariants as reply
use Rattle.gq_reply.specs.Outcomes.{◌>>=◌, some_or}
use Rattle.gq_reply.specs.Refusals.{unnumbered}
use Rattle.gq_reply.proofs.StepLemmas.{finds, gives, misses, stops}
use Rattle.gq_query.specs.Selecting.{other_columns}
use Rattle.gq_plan.specs.declared.clauses.GroupClauses.{GroupClauses}
use Rattle.gq_plan.specs.declared.plan.GroupPlan.{GroupPlan}
use Rattle.gq_plan.specs.declared.plan.DistinctPlan.{DistinctPlan}
use Rattle.gq_plan.specs.Headers.{group_header}
use Rattle.gq_plan.specs.Plans.{distinct_plan, group_plan}
use Rattle.gq_engine.specs.Databases.{Database, table_at}
use Rattle.gq_engine.specs.Runs.{IsGrouped}
use Rattle.gq_engine.specs.Serving.{Comes, ComesOver, Plainly, StoreFails, StoreLies, GroupsOver, under}
use Rattle.gq_group.specs.declared.grouping.Spent.{Spent}
use Rattle.gq_query.specs.Rollups.{grouping_sets}
use Rattle.gq_query.specs.Work.{RisesBy}
use Rattle.gq_engine.specs.Spending.{Rises, rows_asked}
use Rattle.gq_engine.specs.Steps.{Outcome, distinct, group, keys_planned, other_in, rows_about, rows_planned, settle}
use Rattle.gq_engine.proofs.OrderLemmas.{same_tables}
use Rattle.gq_engine.proofs.StepLemmas.{carries}

abbrev Rows : Type 0
Rows = List (List Value)

ok≢err : {X E : Type 0} (x : X) (e : E) → ◌≡◌ {A = Result X E} (Ok x) (Err e) → ⊥
ok≢err x e h = cc

-- steps that end in the rows of a grouping
module _ (db : Database) (honest : Bool) (steps : Outcome) (due : List Bytes) (answer : Option Rows) (are : steps ≡ (some_or SumRange answer >>= λ rows. Ok (db, reply.Rows due rows))) where
  -- they get as far as grouping
  reached : IsGrouped (settle db steps).1
  reached = subst (λ (s : Outcome). IsGrouped (settle db s).1) (sym are) (by-rows answer)
    where
      by-rows : (o : Option Rows) → IsGrouped (settle db (some_or SumRange o >>= λ rows. Ok (db, reply.Rows due rows))).1
      by-rows None = refl
      by-rows (Some rows) = tt

  pub shown_over : (header : List Bytes) (rows : Rows) → header ≡ due → GroupsOver honest (some_or SumRange answer) (Ok rows) → ComesOver true honest steps (Ok (reply.Rows header rows)) db db
  shown_over header rows h (inl e) =
      Plainly (carries steps (reply.Rows header rows) db db
      (are ∙ gives (some_or SumRange answer) rows _ (sym e) ∙ ap (λ (l : List Bytes). Ok (db, reply.Rows l rows)) (sym h))
      (same_tables db))
  shown_over header rows h (inr (inl e)) = absurd (ok≢err rows _ e)
  shown_over header rows h (inr (inr (inl e))) = absurd (ok≢err rows _ e)
  shown_over header rows h (inr (inr (inr lied))) = StoreLies refl reached (same_tables db) lied

  pub refused_over : (why : Refused) → GroupsOver honest (some_or SumRange answer) (Err why) → ComesOver true honest steps (Err why) db db
  refused_over why (inl e) = Plainly (same_tables db, inr (are ∙ stops (some_or SumRange answer) why _ (sym e)))
  refused_over why (inr (inl e)) = let it : why ≡ unnumbered Memory = cc in Plainly (same_tables db, inl it)
  refused_over why (inr (inr (inl e))) = StoreFails refl reached (same_tables db) (ap told_as e)
    where
      told_as : Result Rows Refused → Result Reply Refused
      told_as (Ok rows) = Ok (reply.Rows [] rows)
      told_as (Err w) = Err w
  refused_over why (inr (inr (inr lied))) = StoreLies refl reached (same_tables db) lied

  pub comes_over : (result : Result Rows Refused) → GroupsOver honest (some_or SumRange answer) result → ComesOver true honest steps (under due result) db db
  comes_over (Ok rows) h = shown_over due rows refl h
  comes_over (Err why) h = refused_over why h

module _ (db : Database) (name : Bytes) (clauses : GroupClauses) where
  -- what was spent rose, if the result is rows
  pub rises_over : (honest : Bool) (budget : ℕ) (sets : List (List ℕ)) (rows : Rows) (spent : Spent) (result : Result (Rows × Spent) Refused) → rows_asked db name clauses ≡ Ok (sets, rows)
      → IfOk result (λ found. RisesBy honest budget rows sets spent found.1) → IfOk result (λ found. Rises honest budget db name clauses spent found.1)
  rises_over honest budget sets rows spent (Ok found) asked work = record { sets = sets; rows = rows; asked = asked; work = work }
  rises_over honest budget sets rows spent (Err why) asked work = tt

  pub group_none : table_at db name ≡ None → group db name clauses ≡ Err (unnumbered NoTable)
  group_none h = misses NoTable (table_at db name) _ h

  module _ (table : PlainTable) (found : table_at db name ≡ Some table) where
    pub group_alone : (why : Refused) → other_in db clauses.exists ≡ Err why → group db name clauses ≡ Err why
    group_alone why h = finds NoTable (table_at db name) table _ found ∙ stops (other_in db clauses.exists) why _ h

    module _ (other : Option PlainTable) (there : other_in db clauses.exists ≡ Ok other) where
      pub group_unplanned : (why : Refused) → group_plan table.schema.columns (other_columns other) clauses ≡ Err why → group db name clauses ≡ Err why
      group_unplanned why h =
          finds NoTable (table_at db name) table _ found ∙ gives (other_in db clauses.exists) other _ there ∙ stops (group_plan table.schema.columns (other_columns other) clauses) why _ h

      pub group_planned : (plan : GroupPlan) → group_plan table.schema.columns (other_columns other) clauses ≡ Ok plan
          → group db name clauses ≡ (some_or SumRange (rows_planned plan table other) >>= λ rows. Ok (db, reply.Rows (group_header clauses.by clauses.shown) rows))
      group_planned plan planned =
          finds NoTable (table_at db name) table _ found ∙ gives (other_in db clauses.exists) other _ there ∙ gives (group_plan table.schema.columns (other_columns other) clauses) plan _ planned

      pub asked_planned : (plan : GroupPlan) → group_plan table.schema.columns (other_columns other) clauses ≡ Ok plan → rows_asked db name clauses ≡ Ok (grouping_sets plan.rollup plan.by, rows_about plan table other)
      asked_planned plan planned =
          finds NoTable (table_at db name) table _ found ∙ gives (other_in db clauses.exists) other _ there ∙ gives (group_plan table.schema.columns (other_columns other) clauses) plan _ planned

module _ (db : Database) (name : Bytes) (on : List Bytes) (tests : List Test) where
  pub distinct_none : table_at db name ≡ None → distinct db name on tests ≡ Err (unnumbered NoTable)
  distinct_none h = misses NoTable (table_at db name) _ h

  module _ (table : PlainTable) (found : table_at db name ≡ Some table) where
    distinct_unplanned : (why : Refused) → distinct_plan table.schema.columns on tests ≡ Err why → distinct db name on tests ≡ Err why
    distinct_unplanned why h = finds NoTable (table_at db name) table _ found ∙ stops (distinct_plan table.schema.columns on tests) why _ h

    pub distinct_comes : (why : Refused) → (why ≡ unnumbered Memory) ⊎ (distinct_plan table.schema.columns on tests ≡ Err why) → Comes (distinct db name on tests) (Err why) db db
    distinct_comes why (inl e) = (same_tables db, inl e)
    distinct_comes why (inr e) = (same_tables db, inr (distinct_unplanned why e))

    pub distinct_planned : (plan : DistinctPlan) → distinct_plan table.schema.columns on tests ≡ Ok plan
        → distinct db name on tests ≡ (some_or SumRange (Some (keys_planned plan table)) >>= λ rows. Ok (db, reply.Rows on rows))
    distinct_planned plan planned = finds NoTable (table_at db name) table _ found ∙ gives (distinct_plan table.schema.columns on tests) plan _ planned

  -- a line names a column
  pub some_on : is_command (Distinct name on tests) ≡ true → 0 < length on
  some_on h = by-names on h
    where
      by-names : (names : List Bytes) → is_command (Distinct name names tests) ≡ true → 0 < length names
      by-names [] e = let none : ⊥ = cc in absurd none
      by-names (n ∷ ns) e = omega arith
