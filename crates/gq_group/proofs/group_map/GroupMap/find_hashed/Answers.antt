use Rattle.std.proofs.Common.{◌∙◌, ap, subst, sym}
use Rattle.gq_row.specs.Classes.{class_of}
use Rattle.gq_group.specs.Maps.{MapView, IsGroup, IsNoGroup}
use Rattle.gq_group.proofs.KeptLemmas.{found_group, no_group}
use Rattle.gq_group.proofs.group_map.GroupMap.find_hashed.Goals as goal

pub find_hashed-requires : goal.find_hashed-requires
find_hashed-requires g c = c.requires ∙ ap (λ (v : MapView _). g.H.KeyHash.hash_of v.hasher (class_of c.args.key.now)) (sym c.self.view_is)

pub returns-clause-found : goal.returns-clause-found
returns-clause-found g c =
    let own = c.self.inside in
    subst (λ (v : MapView _). IsGroup v.pairs (class_of c.args.key.now) c.find_hashed.result) c.self.view_is
    (found_group own.each own.running.items own.index.keys c.args.key.now c.find_hashed.result c.self.invariant.different c.find_hashed.ensures.found)

pub returns-clause-absent : goal.returns-clause-absent
returns-clause-absent g c =
    let own = c.self.inside in
    subst (λ (v : MapView _). IsNoGroup (g.H.KeyHash.hash_of v.hasher) v.pairs (class_of c.args.key.now) c.find_hashed.result) c.self.view_is
    (no_group own.each own.running.items own.index.keys (g.H.KeyHash.hash_of own.index.hasher) c.args.key.now c.find_hashed.result c.find_hashed.ensures.absent)
