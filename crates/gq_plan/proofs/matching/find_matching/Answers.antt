use Rattle.std.proofs.Common.{◌≡◌, Some}
use Rattle.std.proofs.lemmas.Result.{err_from_is_err_and}
use Rattle.gq_row.specs.Schemas.{positions_of}
use Rattle.gq_plan.specs.Plans.{matching_named}
use Rattle.gq_plan.proofs.ColumnLemmas.{positions_within}
use Rattle.gq_plan.proofs.FoundLemmas.{is-found, not-found}
use Rattle.gq_plan.proofs.PlanLemmas.{both_found, no_ours, no_theirs}
use Rattle.gq_plan.proofs.matching.find_matching.Goals as goal

pub returns-in_err-theirs-clause-refused : goal.returns-in_err-theirs-clause-refused
returns-in_err-theirs-clause-refused c =
    let columns = c.args.columns.now in
    let others = c.args.others.now in
    let exists = c.in-Some.exists in
    let p = err_from_is_err_and c.from_residual.result c.from_residual.ensures.1 in
    rw (p.1, p.2, c.in-Some.is) (not-found c.find_positions.result _ _ (matching_named columns others (Some exists)) (rw c.as_slice.ensures at c.find_positions.ensures) c.in_err-theirs.ensures (no_theirs columns others exists))

pub returns-in_err-ours-clause-refused : goal.returns-in_err-ours-clause-refused
returns-in_err-ours-clause-refused c =
    let columns = c.args.columns.now in
    let others = c.args.others.now in
    let exists = c.in-Some.exists in
    let theirs : positions_of others exists.theirs ≡ Some c.in_ok-theirs.theirs = is-found c.find_positions.result _ _ (rw c.as_slice.ensures at c.find_positions.ensures) c.in_ok-theirs.ensures in
    let p = err_from_is_err_and c.from_residual-in_err-ours.result c.from_residual-in_err-ours.ensures.1 in
    rw (p.1, p.2, c.in-Some.is) (not-found c.find_positions-2.result _ _ (matching_named columns others (Some exists)) (rw c.as_slice-2.ensures at c.find_positions-2.ensures) c.in_err-ours.ensures (no_ours columns others exists c.in_ok-theirs.theirs theirs))

pub returns-clause-planned : goal.returns-clause-planned
returns-clause-planned c =
    let columns = c.args.columns.now in
    let others = c.args.others.now in
    let exists = c.in-Some.exists in
    let theirs : positions_of others exists.theirs ≡ Some c.in_ok-theirs.theirs = is-found c.find_positions.result _ _ (rw c.as_slice.ensures at c.find_positions.ensures) c.in_ok-theirs.ensures in
    let ours : positions_of columns exists.ours ≡ Some c.in_ok-ours.ours = is-found c.find_positions-2.result _ _ (rw c.as_slice-2.ensures at c.find_positions-2.ensures) c.in_ok-ours.ensures in
    rw c.in-Some.is (both_found columns others exists c.in_ok-theirs.theirs c.in_ok-ours.ours theirs ours)

pub returns-clause-within : goal.returns-clause-within
returns-clause-within c =
    let exists = c.in-Some.exists in
    let theirs : positions_of c.args.others.now exists.theirs ≡ Some c.in_ok-theirs.theirs = is-found c.find_positions.result _ _ (rw c.as_slice.ensures at c.find_positions.ensures) c.in_ok-theirs.ensures in
    let ours : positions_of c.args.columns.now exists.ours ≡ Some c.in_ok-ours.ours = is-found c.find_positions-2.result _ _ (rw c.as_slice-2.ensures at c.find_positions-2.ensures) c.in_ok-ours.ensures in
    (positions_within c.args.columns.now exists.ours c.in_ok-ours.ours ours, positions_within c.args.others.now exists.theirs c.in_ok-theirs.theirs theirs)
