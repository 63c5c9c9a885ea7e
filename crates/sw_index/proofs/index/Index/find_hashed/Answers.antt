use Rattle.std.proofs.Common.{ap, sym, subst, ◌∙◌}
use Rattle.sw_index.specs.Index.{IndexView, AreDifferent, IsFound, IsAbsent, IsIndexed, numbers_of}
use Rattle.sw_index.proofs.index.Index.find_hashed.Goals as goal

pub find-requires : goal.find-requires
find-requires g c = subst (AreDifferent g.K.Keyed.class) (sym c.as_slice.ensures.value) c.self.invariant.different

pub returns-clause-found : goal.returns-clause-found
returns-clause-found g c =
    let own = c.self.inside in
    let class = g.K.Keyed.class in
    let hash = g.H.KeyHash.hash_of own.hasher in
    subst (λ (v : IndexView _ _). IsFound class v.keys (g.Q.Names.named c.args.q.now) c.find.result) c.self.view_is
    (subst (λ ks. IsFound class ks (g.Q.Names.named c.args.q.now) c.find.result) c.as_slice.ensures.value
    (c.find.ensures.found hash (subst (λ ks. IsIndexed class hash ks (numbers_of own.numbers)) (sym c.as_slice.ensures.value) c.self.invariant)))

pub returns-clause-absent : goal.returns-clause-absent
returns-clause-absent g c =
    let own = c.self.inside in
    let class = g.K.Keyed.class in
    let hash = g.H.KeyHash.hash_of own.hasher in
    subst (λ (v : IndexView _ _). IsAbsent class (g.H.KeyHash.hash_of v.hasher) v.keys (g.Q.Names.named c.args.q.now) c.find.result) c.self.view_is
    (subst (λ ks. IsAbsent class hash ks (g.Q.Names.named c.args.q.now) c.find.result) c.as_slice.ensures.value
    (c.find.ensures.absent hash (subst (λ ks. IsIndexed class hash ks (numbers_of own.numbers)) (sym c.as_slice.ensures.value) c.self.invariant)
    (c.requires ∙ ap (λ (v : IndexView _ _). g.H.KeyHash.hash_of v.hasher (g.Q.Names.named c.args.q.now)) (sym c.self.view_is))))
