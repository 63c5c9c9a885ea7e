use Rattle.std.proofs.Common.{[], sym, subst}
use Rattle.gq_group.specs.Maps.{MapView}
use Rattle.gq_group.specs.Residents.{Resident}
use Rattle.gq_group.proofs.ResidentLemmas.{resident-start}
use Rattle.gq_group.proofs.resident_table.ResidentTable.start.Goals as goal

pub returns-clause-resident : goal.returns-clause-resident
returns-clause-resident g c =
    let P : MapView _ → Type 0 = λ v. Resident c.args.spec.now c.args.context.budget.entries [] v.pairs in
    subst P (sym c.expect.ensures) (resident-start c.args.spec.now c.args.context.budget.entries c.in_ok-groups.groups.pairs c.in_ok-groups.ensures.grouped c.in_ok-groups.ensures.few c.args.context.budget.some)
