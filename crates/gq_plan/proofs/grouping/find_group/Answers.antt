use Rattle.std.proofs.Common.{◌≡◌, Some}
use Rattle.std.specs.Prelude.{Ok}
use Rattle.std.proofs.lemmas.Result.{err_from_is_err_and}
use Rattle.gq_row.specs.Schemas.{positions_of}
use Rattle.gq_plan.specs.Places.{all_placed, all_shown, in_result, in_row}
use Rattle.gq_plan.specs.Plans.{group_named, matching_named}
use Rattle.gq_plan.proofs.ColumnLemmas.{positions_within}
use Rattle.gq_plan.proofs.FoundLemmas.{is-found, not-found}
use Rattle.gq_plan.proofs.PlanLemmas.{all_named, no_by, no_having, no_shown, no_tests}
use Rattle.gq_plan.proofs.grouping.find_group.Goals as goal

pub returns-in_err-by-clause-refused : goal.returns-in_err-by-clause-refused
returns-in_err-by-clause-refused c =
    let columns = c.args.schema.now.columns in
    let others = c.args.others.now in
    let clauses = c.args.clauses.now in
    let p = err_from_is_err_and c.from_residual.result c.from_residual.ensures.1 in
    rw (p.1, p.2) (not-found c.find_positions.result _ _ (group_named columns others clauses) (rw (c.columns-columns.ensures, c.as_slice-3.ensures) at c.find_positions.ensures) c.in_err-by.ensures (no_by columns others clauses))

pub returns-in_err-shown-clause-refused : goal.returns-in_err-shown-clause-refused
returns-in_err-shown-clause-refused c =
    let columns = c.args.schema.now.columns in
    let others = c.args.others.now in
    let clauses = c.args.clauses.now in
    let by : positions_of columns clauses.by.columns ≡ Some c.in_ok-by.by = is-found c.find_positions.result _ _ (rw (c.columns-columns.ensures, c.as_slice-3.ensures) at c.find_positions.ensures) c.in_ok-by.ensures in
    let p = err_from_is_err_and c.from_residual-in_err-shown.result c.from_residual-in_err-shown.ensures.1 in
    rw (p.1, p.2) (not-found c.find_shown.result _ _ (group_named columns others clauses) (rw c.as_slice-4.ensures at c.find_shown.ensures) c.in_err-shown.ensures (no_shown columns others clauses c.in_ok-by.by by))

pub returns-in_err-tests-clause-refused : goal.returns-in_err-tests-clause-refused
returns-in_err-tests-clause-refused c =
    let columns = c.args.schema.now.columns in
    let others = c.args.others.now in
    let clauses = c.args.clauses.now in
    let by : positions_of columns clauses.by.columns ≡ Some c.in_ok-by.by = is-found c.find_positions.result _ _ (rw (c.columns-columns.ensures, c.as_slice-3.ensures) at c.find_positions.ensures) c.in_ok-by.ensures in
    let shown : all_shown columns clauses.shown ≡ Some c.in_ok-shown.shown = is-found c.find_shown.result _ _ (rw c.as_slice-4.ensures at c.find_shown.ensures) c.in_ok-shown.ensures in
    let p = err_from_is_err_and c.from_residual-in_err-tests.result c.from_residual-in_err-tests.ensures.1 in
    rw (p.1, p.2) (not-found c.place_tests.result _ _ (group_named columns others clauses) (rw c.as_slice-5.ensures at c.place_tests.ensures) c.in_err-tests.ensures (no_tests columns others clauses c.in_ok-by.by by c.in_ok-shown.shown shown))

pub returns-in_err-having-clause-refused : goal.returns-in_err-having-clause-refused
returns-in_err-having-clause-refused c =
    let columns = c.args.schema.now.columns in
    let others = c.args.others.now in
    let clauses = c.args.clauses.now in
    let by : positions_of columns clauses.by.columns ≡ Some c.in_ok-by.by = is-found c.find_positions.result _ _ (rw (c.columns-columns.ensures, c.as_slice-3.ensures) at c.find_positions.ensures) c.in_ok-by.ensures in
    let shown : all_shown columns clauses.shown ≡ Some c.in_ok-shown.shown = is-found c.find_shown.result _ _ (rw c.as_slice-4.ensures at c.find_shown.ensures) c.in_ok-shown.ensures in
    let tests : all_placed (in_row columns) clauses.tests ≡ Some c.in_ok-tests.tests = is-found c.place_tests.result _ _ (rw c.as_slice-5.ensures at c.place_tests.ensures) c.in_ok-tests.ensures in
    let matching : matching_named columns others clauses.exists ≡ Ok c.in_ok-matching.matching = rw c.columns-columns.ensures at c.in_ok-matching.ensures.planned in
    let p = err_from_is_err_and c.from_residual-in_err-having.result c.from_residual-in_err-having.ensures.1 in
    rw (p.1, p.2) (not-found c.place_tests-2.result _ _ (group_named columns others clauses) (rw (c.as_slice.ensures, c.as_slice-2.ensures, c.as_slice-6.ensures) at c.place_tests-2.ensures) c.in_err-having.ensures (no_having columns others clauses c.in_ok-by.by by c.in_ok-shown.shown shown c.in_ok-tests.tests tests c.in_ok-matching.matching matching))

pub returns-clause-planned : goal.returns-clause-planned
returns-clause-planned c =
    let columns = c.args.schema.now.columns in
    let others = c.args.others.now in
    let clauses = c.args.clauses.now in
    let by : positions_of columns clauses.by.columns ≡ Some c.in_ok-by.by = is-found c.find_positions.result _ _ (rw (c.columns-columns.ensures, c.as_slice-3.ensures) at c.find_positions.ensures) c.in_ok-by.ensures in
    let shown : all_shown columns clauses.shown ≡ Some c.in_ok-shown.shown = is-found c.find_shown.result _ _ (rw c.as_slice-4.ensures at c.find_shown.ensures) c.in_ok-shown.ensures in
    let tests : all_placed (in_row columns) clauses.tests ≡ Some c.in_ok-tests.tests = is-found c.place_tests.result _ _ (rw c.as_slice-5.ensures at c.place_tests.ensures) c.in_ok-tests.ensures in
    let matching : matching_named columns others clauses.exists ≡ Ok c.in_ok-matching.matching = rw c.columns-columns.ensures at c.in_ok-matching.ensures.planned in
    let having : all_placed (in_result clauses.by.columns clauses.shown) clauses.having ≡ Some c.in_ok-having.having = is-found c.place_tests-2.result _ _ (rw (c.as_slice.ensures, c.as_slice-2.ensures, c.as_slice-6.ensures) at c.place_tests-2.ensures) c.in_ok-having.ensures in
    all_named columns others clauses c.in_ok-by.by by c.in_ok-shown.shown shown c.in_ok-tests.tests tests c.in_ok-matching.matching matching c.in_ok-having.having having

pub returns-clause-by : goal.returns-clause-by
returns-clause-by c =
    let columns = c.args.schema.now.columns in
    let clauses = c.args.clauses.now in
    let by : positions_of columns clauses.by.columns ≡ Some c.in_ok-by.by = is-found c.find_positions.result _ _ (rw (c.columns-columns.ensures, c.as_slice-3.ensures) at c.find_positions.ensures) c.in_ok-by.ensures in
    positions_within columns clauses.by.columns c.in_ok-by.by by
