use Rattle.gq_plan.proofs.places.Scope.find_aggregate.Goals as goal

pub returns-in-Groups : goal.returns-in-Groups
returns-in-Groups c = rw c.in-Groups.is c.find_after.ensures
