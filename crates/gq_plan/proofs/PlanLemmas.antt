-- The steps of a plan, one after the other.
use Rattle.std.proofs.Common.{◌≡◌, true, false, ℕ, suc, IsTrue, List, [], ◌∷◌, length, ap, ◌∙◌, Option, Some, None}
use Rattle.std.specs.Prelude.{Ok, Err}
use Rattle.std.specs.List.{list_all}
use Rattle.std.specs.Cmp.{first_so}
use Rattle.gq_row.specs.declared.schema.Column.{Column}
use Rattle.gq_row.specs.Schemas.{positions_of}
use Rattle.gq_select.specs.declared.output_column.OutputColumn.{OutputColumn}
use Rattle.gq_select.specs.Asking.{is_valid_for}
use Rattle.gq_select.specs.declared.condition.Test.{Test}
use Rattle.gq_select.specs.declared.matching.Matching.{Matching}
use Rattle.gq_command.specs.Commands.{Bytes}
use Rattle.gq_clause.specs.declared.condition.Test.{Test as NamedTest}
use Rattle.gq_command.specs.declared.command.Exists.{Exists}
use Rattle.gq_reply.specs.declared.refusal.Refusal.TheVariants.{NoColumn, TypeMismatch}
use Rattle.gq_reply.specs.declared.refusal.Refused.{Refused}
use Rattle.gq_reply.specs.Refusals.{unnumbered}
use Rattle.gq_reply.proofs.StepLemmas.{finds, misses, passes, fails, gives, stops}
use Rattle.gq_plan.specs.declared.clauses.GroupClauses.{GroupClauses}
use Rattle.gq_plan.specs.declared.plan.GroupPlan.{GroupPlan}
use Rattle.gq_plan.specs.declared.plan.DistinctPlan.{DistinctPlan}
use Rattle.gq_plan.specs.Kinds.{kinds_of, tests_fit}
use Rattle.gq_plan.specs.Places.{all_placed, all_shown, in_result, in_row}
use Rattle.gq_plan.specs.Plans.{matching_named, group_named, group_fits, group_plan, distinct_named, distinct_plan}
use Rattle.gq_plan.proofs.ColumnLemmas.{found}

module _ (columns others : List Column) (exists : Exists) where
  pub no_theirs : positions_of others exists.theirs ≡ None → matching_named columns others (Some exists) ≡ Err (unnumbered NoColumn)
  no_theirs h = misses NoColumn (positions_of others exists.theirs) _ h

  pub no_ours : (theirs : List ℕ) → positions_of others exists.theirs ≡ Some theirs → positions_of columns exists.ours ≡ None → matching_named columns others (Some exists) ≡ Err (unnumbered NoColumn)
  no_ours theirs t h = finds NoColumn (positions_of others exists.theirs) theirs _ t ∙ misses NoColumn (positions_of columns exists.ours) _ h

  pub both_found : (theirs ours : List ℕ) → positions_of others exists.theirs ≡ Some theirs → positions_of columns exists.ours ≡ Some ours
      → matching_named columns others (Some exists) ≡ Ok (Some (record { negated = exists.negated; theirs = theirs; ours = ours }))
  both_found theirs ours t o = finds NoColumn (positions_of others exists.theirs) theirs _ t ∙ finds NoColumn (positions_of columns exists.ours) ours _ o

module _ (columns others : List Column) (clauses : GroupClauses) where
  pub no_by : positions_of columns clauses.by.columns ≡ None → group_named columns others clauses ≡ Err (unnumbered NoColumn)
  no_by h = misses NoColumn (positions_of columns clauses.by.columns) _ h

  module _ (by : List ℕ) (b : positions_of columns clauses.by.columns ≡ Some by) where
    pub no_shown : all_shown columns clauses.shown ≡ None → group_named columns others clauses ≡ Err (unnumbered NoColumn)
    no_shown h = finds NoColumn (positions_of columns clauses.by.columns) by _ b ∙ misses NoColumn (all_shown columns clauses.shown) _ h

    module _ (shown : List OutputColumn) (s : all_shown columns clauses.shown ≡ Some shown) where
      pub no_tests : all_placed (in_row columns) clauses.tests ≡ None → group_named columns others clauses ≡ Err (unnumbered NoColumn)
      no_tests h =
          finds NoColumn (positions_of columns clauses.by.columns) by _ b ∙ finds NoColumn (all_shown columns clauses.shown) shown _ s ∙ misses NoColumn (all_placed (in_row columns) clauses.tests) _ h

      module _ (tests : List Test) (t : all_placed (in_row columns) clauses.tests ≡ Some tests) where
        pub no_matching : (why : Refused) → matching_named columns others clauses.exists ≡ Err why → group_named columns others clauses ≡ Err why
        no_matching why h =
            finds NoColumn (positions_of columns clauses.by.columns) by _ b
            ∙ finds NoColumn (all_shown columns clauses.shown) shown _ s
            ∙ finds NoColumn (all_placed (in_row columns) clauses.tests) tests _ t
            ∙ stops (matching_named columns others clauses.exists) why _ h

        module _ (matching : Option Matching) (m : matching_named columns others clauses.exists ≡ Ok matching) where
          pub no_having : all_placed (in_result clauses.by.columns clauses.shown) clauses.having ≡ None → group_named columns others clauses ≡ Err (unnumbered NoColumn)
          no_having h =
              finds NoColumn (positions_of columns clauses.by.columns) by _ b
              ∙ finds NoColumn (all_shown columns clauses.shown) shown _ s
              ∙ finds NoColumn (all_placed (in_row columns) clauses.tests) tests _ t
              ∙ gives (matching_named columns others clauses.exists) matching _ m
              ∙ misses NoColumn (all_placed (in_result clauses.by.columns clauses.shown) clauses.having) _ h

          pub all_named : (having : List Test) → all_placed (in_result clauses.by.columns clauses.shown) clauses.having ≡ Some having
              → group_named columns others clauses ≡ Ok (record { by = by; rollup = clauses.by.rollup; shown = shown; condition = record { tests = tests }; matching = matching; having = record { tests = having } })
          all_named having h =
              finds NoColumn (positions_of columns clauses.by.columns) by _ b
              ∙ finds NoColumn (all_shown columns clauses.shown) shown _ s
              ∙ finds NoColumn (all_placed (in_row columns) clauses.tests) tests _ t
              ∙ gives (matching_named columns others clauses.exists) matching _ m
              ∙ finds NoColumn (all_placed (in_result clauses.by.columns clauses.shown) clauses.having) having _ h

  pub unnamed : (why : Refused) → group_named columns others clauses ≡ Err why → group_plan columns others clauses ≡ Err why
  unnamed why h = stops (group_named columns others clauses) why _ h

  module _ (plan : GroupPlan) (n : group_named columns others clauses ≡ Ok plan) where
    pub unfit : group_fits columns others plan ≡ false → group_plan columns others clauses ≡ Err (unnumbered TypeMismatch)
    unfit h = gives (group_named columns others clauses) plan _ n ∙ fails TypeMismatch (group_fits columns others plan) _ h

    pub fit : group_fits columns others plan ≡ true → group_plan columns others clauses ≡ Ok plan
    fit h = gives (group_named columns others clauses) plan _ n ∙ passes TypeMismatch (group_fits columns others plan) _ h

-- in a plan that fits no texts are summed
pub sums_fit : (columns others : List Column) (plan : GroupPlan) → group_fits columns others plan ≡ true → IsTrue (list_all (is_valid_for columns) plan.shown)
sums_fit columns others plan h = first_so _ _ h

module _ (columns : List Column) (names : List Bytes) (tests : List NamedTest) where
  pub no_on : positions_of columns names ≡ None → distinct_named columns names tests ≡ Err (unnumbered NoColumn)
  no_on h = misses NoColumn (positions_of columns names) _ h

  module _ (on : List ℕ) (o : positions_of columns names ≡ Some on) where
    pub no_places : all_placed (in_row columns) tests ≡ None → distinct_named columns names tests ≡ Err (unnumbered NoColumn)
    no_places h = finds NoColumn (positions_of columns names) on _ o ∙ misses NoColumn (all_placed (in_row columns) tests) _ h

    pub on_named : (placed : List Test) → all_placed (in_row columns) tests ≡ Some placed → distinct_named columns names tests ≡ Ok (record { on = on; condition = record { tests = placed } })
    on_named placed h = finds NoColumn (positions_of columns names) on _ o ∙ finds NoColumn (all_placed (in_row columns) tests) placed _ h

  pub distinct_unnamed : (why : Refused) → distinct_named columns names tests ≡ Err why → distinct_plan columns names tests ≡ Err why
  distinct_unnamed why h = stops (distinct_named columns names tests) why _ h

  module _ (plan : DistinctPlan) (n : distinct_named columns names tests ≡ Ok plan) where
    pub distinct_unfit : tests_fit (kinds_of columns) plan.condition.tests ≡ false → distinct_plan columns names tests ≡ Err (unnumbered TypeMismatch)
    distinct_unfit h = gives (distinct_named columns names tests) plan _ n ∙ fails TypeMismatch (tests_fit (kinds_of columns) plan.condition.tests) _ h

    pub distinct_fit : tests_fit (kinds_of columns) plan.condition.tests ≡ true → distinct_plan columns names tests ≡ Ok plan
    distinct_fit h = gives (distinct_named columns names tests) plan _ n ∙ passes TypeMismatch (tests_fit (kinds_of columns) plan.condition.tests) _ h

-- as many positions as names
pub as_many : (columns : List Column) (names : List Bytes) (positions : List ℕ) → positions_of columns names ≡ Some positions → length positions ≡ length names
as_many columns [] positions h = let e : positions ≡ [] = cc in ap length e
as_many columns (name ∷ names) positions h =
    let f = found columns name names positions h in
    ap length f.are ∙ ap (λ n. suc n) (as_many columns names f.rest f.rest_are)
