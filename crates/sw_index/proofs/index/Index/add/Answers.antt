use Rattle.std.proofs.Common.{sym, subst, ◌∙◌}
use Rattle.sw_index.specs.Index.{IndexView, IsIndexed, IsAbsence, numbers_of}
use Rattle.sw_index.specs.declared.numbered.Numbered.{Numbered}
use Rattle.sw_index.proofs.NumberLemmas.{indexed-more, no_number_after}
use Rattle.sw_index.proofs.index.Index.add.Goals as goal

pub add-requires : goal.add-requires
add-requires g c =
    let own = c.self.inside in
    no_number_after g.K.Keyed.class (g.H.KeyHash.hash_of own.hasher) own.keys.items (numbers_of own.numbers) c.args.absence.hash c.len-number.result c.self.invariant (c.len-number.ensures ∙ own.keys.ok.0)

pub invariant_of-self-in-Ok : goal.invariant_of-self-in-Ok
invariant_of-self-in-Ok g c =
    let own = c.self.inside in
    let class = g.K.Keyed.class in
    let hash = g.H.KeyHash.hash_of own.hasher in
    let numbered : Numbered = record { hash = c.args.absence.hash; number = c.len-number.result } in
    let absence = subst (λ (v : IndexView _ _). IsAbsence class (g.H.KeyHash.hash_of v.hasher) v.keys (class c.args.key) c.args.absence) (sym c.self.view_is) c.requires in
    subst (λ ks. IsIndexed class hash ks (numbers_of c.add.new.self)) (sym c.in_ok-push.ensures.items)
    (indexed-more class hash own.keys.items c.args.key numbered (numbers_of own.numbers) (numbers_of c.add.new.self) c.self.invariant absence.none absence.hashed (c.len-number.ensures ∙ own.keys.ok.0) c.in-Ok.ensures.added)
