use Rattle.std.proofs.Common.{subst}
use Rattle.sw_index.specs.declared.found.Found.TheVariants.{At}
use Rattle.gq_row.specs.Classes.{class_of}
use Rattle.gq_group.specs.Maps.{MapView, IsGroup}
use Rattle.gq_group.proofs.KeptLemmas.{found_group}
use Rattle.gq_group.proofs.group_map.GroupMap.find.Goals as goal

pub returns-clause-found : goal.returns-clause-found
returns-clause-found g c =
    let own = c.self.inside in
    subst (λ (v : MapView _). IsGroup v.pairs (class_of c.args.key.now) (At c.in-Some.number)) c.self.view_is
    (found_group own.each own.running.items own.index.keys c.args.key.now (At c.in-Some.number) c.self.invariant.different (c.is_at.ensures.0 c.if-is_at.true))
