use Rattle.std.proofs.Common.{◌≡◌, ◌-◌, length, take, Some, sym, ap, subst, ◌∙◌, arith}
use Rattle.std.specs.List.{slice_get}
use Rattle.sw_index.specs.Index.{IndexView}
use Rattle.sw_index.proofs.RemovalLemmas.{last_there, indexed-pop}
use Rattle.sw_index.proofs.index.Index.pop.Goals as goal

pub invariant_of-self-2 : goal.invariant_of-self-2
invariant_of-self-2 g c =
    let keys = c.self.inside.keys.items in
    let whole = c.self.inside.keys.ok.0 in
    let number : c.len-number.result ≡ length keys - 1 = omega (arith, c.len-number.ensures, c.in_ok-key.ensures.len, whole) in
    indexed-pop c.self.invariant (last_there keys c.pop.new.self.items c.in_ok-key.key c.in_ok-key.ensures.items) (c.in_ok-key.ensures.rest ∙ ap (λ n. take (n - 1) keys) whole)
    c.hash-hash.ensures number c.forget.ensures

pub returns-clause-key : goal.returns-clause-key
returns-clause-key g c =
    subst (λ (v : IndexView _ _). Some c.in_ok-key.key ≡ slice_get v.keys (length v.keys - 1)) c.self.view_is
    (sym (last_there c.self.inside.keys.items c.pop.new.self.items c.in_ok-key.key c.in_ok-key.ensures.items))
