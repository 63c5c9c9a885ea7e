use Rattle.std.proofs.Common.{◌≡◌, ◌∷◌, [], sym, ap, ◌∙◌}
use Rattle.sw_index.proofs.NumberLemmas.{named_is, named_tells}
use Rattle.sw_index.proofs.sought.SoughtNamesNumbered.same.Goals as goal

pub returns-then-key-self : goal.returns-then-key-self
returns-then-key-self g c =
    let class = g.K.Keyed.class in
    let sought = c.args.self.now in
    let keys = g.S.Seeks.keys sought.seeks.now in
    let q = g.S.Seeks.sought sought.seeks.now in
    let n = c.args.key.now.number in
    let hashes : c.args.key.now.hash ≡ sought.hash = c.if-key-self.true in (
      λ same.
          let there = c.is_at.ensures.0 same in
          named_is class keys sought.hash q n there.0 sought.different there.1 there.2 ∙ ap (λ h. h ∷ n ∷ []) (sym hashes),
      λ named.
          let there = named_tells class keys sought.hash c.args.key.now.hash q n named in
          c.is_at.ensures.1 there,
    )
