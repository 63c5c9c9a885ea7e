use Rattle.std.proofs.Common.{◌≡◌, Some}
use Rattle.std.proofs.lemmas.Result.{err_from_is_err_and}
use Rattle.gq_row.specs.Schemas.{positions_of}
use Rattle.gq_plan.specs.Places.{all_placed, in_row}
use Rattle.gq_plan.specs.Plans.{distinct_named}
use Rattle.gq_plan.proofs.ColumnLemmas.{positions_within}
use Rattle.gq_plan.proofs.FoundLemmas.{is-found, not-found}
use Rattle.gq_plan.proofs.PlanLemmas.{as_many, no_on, no_places, on_named}
use Rattle.gq_plan.proofs.distinct.find_distinct.Goals as goal

pub returns-in_err-on-clause-refused : goal.returns-in_err-on-clause-refused
returns-in_err-on-clause-refused c =
    let columns = c.args.schema.now.columns in
    let p = err_from_is_err_and c.from_residual.result c.from_residual.ensures.1 in
    rw (p.1, p.2) (not-found c.find_positions.result _ _ (distinct_named columns c.args.on.now c.args.tests.now) (rw c.columns.ensures at c.find_positions.ensures) c.in_err-on.ensures (no_on columns c.args.on.now c.args.tests.now))

pub returns-in_err-tests-clause-refused : goal.returns-in_err-tests-clause-refused
returns-in_err-tests-clause-refused c =
    let columns = c.args.schema.now.columns in
    let on : positions_of columns c.args.on.now ≡ Some c.in_ok-on.on = is-found c.find_positions.result _ _ (rw c.columns.ensures at c.find_positions.ensures) c.in_ok-on.ensures in
    let p = err_from_is_err_and c.from_residual-in_err-tests.result c.from_residual-in_err-tests.ensures.1 in
    rw (p.1, p.2) (not-found c.place_tests.result _ _ (distinct_named columns c.args.on.now c.args.tests.now) c.place_tests.ensures c.in_err-tests.ensures (no_places columns c.args.on.now c.args.tests.now c.in_ok-on.on on))

pub returns-clause-planned : goal.returns-clause-planned
returns-clause-planned c =
    let columns = c.args.schema.now.columns in
    let on : positions_of columns c.args.on.now ≡ Some c.in_ok-on.on = is-found c.find_positions.result _ _ (rw c.columns.ensures at c.find_positions.ensures) c.in_ok-on.ensures in
    let tests : all_placed (in_row columns) c.args.tests.now ≡ Some c.in_ok-tests.tests = is-found c.place_tests.result _ _ c.place_tests.ensures c.in_ok-tests.ensures in
    on_named columns c.args.on.now c.args.tests.now c.in_ok-on.on on c.in_ok-tests.tests tests

pub returns-clause-within : goal.returns-clause-within
returns-clause-within c =
    let columns = c.args.schema.now.columns in
    let on : positions_of columns c.args.on.now ≡ Some c.in_ok-on.on = is-found c.find_positions.result _ _ (rw c.columns.ensures at c.find_positions.ensures) c.in_ok-on.ensures in
    positions_within columns c.args.on.now c.in_ok-on.on on

pub returns-clause-each : goal.returns-clause-each
returns-clause-each c =
    let columns = c.args.schema.now.columns in
    let on : positions_of columns c.args.on.now ≡ Some c.in_ok-on.on = is-found c.find_positions.result _ _ (rw c.columns.ensures at c.find_positions.ensures) c.in_ok-on.ensures in
    as_many columns c.args.on.now c.in_ok-on.on on
