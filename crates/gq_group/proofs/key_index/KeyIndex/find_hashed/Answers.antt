use Rattle.std.proofs.Common.{◌∙◌, ap, sym, subst}
use Rattle.sw_index.specs.Index.{IndexView, IsFound, IsAbsent}
use Rattle.gq_row.specs.Classes.{class_of}
use Rattle.gq_group.proofs.key_index.KeyIndex.find_hashed.Goals as goal

pub returns-clause-found : goal.returns-clause-found
returns-clause-found g c =
    subst (λ (v : IndexView _ _). IsFound class_of v.keys (class_of c.args.key.now) c.find.result) c.self.view_is
    (c.find.ensures.found (g.H.KeyHash.hash_of c.self.inside.hasher) c.self.invariant)

pub returns-clause-absent : goal.returns-clause-absent
returns-clause-absent g c =
    subst (λ (v : IndexView _ _). IsAbsent class_of (g.H.KeyHash.hash_of v.hasher) v.keys (class_of c.args.key.now) c.find.result) c.self.view_is
    (c.find.ensures.absent (g.H.KeyHash.hash_of c.self.inside.hasher) c.self.invariant
    (c.requires ∙ ap (λ (v : IndexView _ _). g.H.KeyHash.hash_of v.hasher (class_of c.args.key.now)) (sym c.self.view_is)))
