use Rattle.std.proofs.Common.{◌∷◌, ◌∙◌, [], ap, sym, subst}
use Rattle.std.specs.FinMap.{get, remove}
use Rattle.sw_index.specs.Index.{IndexView, IsAbsence, IsIndexed, numbers_of}
use Rattle.sw_index.specs.declared.numbered.Numbered.{Numbered}
use Rattle.sw_index.proofs.NumberLemmas.{indexed-more, no_number_after}
use Rattle.gq_row.specs.Classes.{class_of}
use Rattle.gq_group.proofs.KeyIndexLemmas.{put_there, taken_back}
use Rattle.gq_group.proofs.key_index.KeyIndex.add.Goals as goal

pub add-requires : goal.add-requires
add-requires g c =
    let own = c.self.inside in
    no_number_after class_of (g.H.KeyHash.hash_of own.hasher) own.keys (numbers_of own.numbers) c.args.absence.hash c.len-number.result c.self.invariant c.len-number.ensures

pub invariant_of-self-in-Ok : goal.invariant_of-self-in-Ok
invariant_of-self-in-Ok g c =
    let own = c.self.inside in
    let hash = g.H.KeyHash.hash_of own.hasher in
    let key = c.args.key.now in
    let numbered : Numbered = record { hash = c.args.absence.hash; number = c.len-number.result } in
    let absence = subst (λ (v : IndexView _ _). IsAbsence class_of (g.H.KeyHash.hash_of v.hasher) v.keys (class_of key) c.args.absence) (sym c.self.view_is) c.requires in
    subst (λ ks. IsIndexed class_of hash ks (numbers_of c.add.new.self)) (sym c.in-Ok.ensures.pushed)
    (indexed-more class_of hash own.keys key numbered (numbers_of own.numbers) (numbers_of c.add.new.self) c.self.invariant absence.none absence.hashed c.len-number.ensures c.in_ok-add.ensures.added)

pub take_back-requires : goal.take_back-requires
take_back-requires g c =
    let own = c.self.inside in
    let numbered : Numbered = record { hash = c.args.absence.hash; number = c.len-number.result } in
    let at = c.args.absence.hash ∷ c.len-number.result ∷ [] in
    ap (λ m. get m at) c.in_ok-add.ensures.added ∙ put_there (numbers_of own.numbers) at (numbered, tt)

pub invariant_of-self-in_default : goal.invariant_of-self-in_default
invariant_of-self-in_default g c =
    let own = c.self.inside in
    let hash = g.H.KeyHash.hash_of own.hasher in
    let numbered : Numbered = record { hash = c.args.absence.hash; number = c.len-number.result } in
    let at = c.args.absence.hash ∷ c.len-number.result ∷ [] in
    let none = no_number_after class_of hash own.keys (numbers_of own.numbers) c.args.absence.hash c.len-number.result c.self.invariant c.len-number.ensures in
    let back = c.take_back.ensures ∙ ap (λ m. remove m at) c.in_ok-add.ensures.added ∙ taken_back (numbers_of own.numbers) at (numbered, tt) none in
    subst (λ ks. IsIndexed class_of hash ks (numbers_of c.take_back.new.self)) (sym c.in_default.ensures.unchanged)
    (subst (IsIndexed class_of hash own.keys) (sym back) c.self.invariant)
