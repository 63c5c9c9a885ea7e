use Rattle.std.proofs.Common.{◌≡◌, ℕ, ◌+◌, ◌-◌, ◌<◌, List, length, true, nat_lt, get_or, Some, refl, sym, ap, ◌∙◌, arith}
use Rattle.std.specs.List.{slice_get}
use Rattle.std.proofs.lemmas.Bool.Decides.{nat_tests}
use Rattle.std.proofs.lemmas.Option.{slice_get_read}
use Rattle.sw_index.proofs.RemovalLemmas.{indexed-last, indexed-swapped, last_number, number_free}
use Rattle.sw_index.proofs.index.Index.swap_remove.Goals as goal

module _ {K : Type 0} (keys seen : List K) (i : ℕ) (k : K) (same : keys ≡ seen) where
  -- the key that goes
  was_there : i < length seen → k ≡ get_or keys i k → slice_get keys i ≡ Some k
  was_there less at = slice_get_read keys (length keys) i k refl (omega (arith, less, ap length same)) at

  -- the key that takes its number
  comes : true ≡ nat_lt i (length keys) → k ≡ get_or keys i k → slice_get seen i ≡ Some k
  comes less at = ap (λ ks. slice_get ks i) (sym same) ∙ slice_get_read keys (length keys) i k refl (grind (arith, nat_tests)) at

-- the number of the last key
behind : {n rest all long : ℕ} → n ≡ rest → rest + 1 ≡ all → all ≡ long → n ≡ long - 1
behind here fewer whole = omega (arith, here, fewer, whole)

pub renumber-requires-clause-there : goal.renumber-requires-clause-there
renumber-requires-clause-there g c =
    last_number c.self.invariant c.args.number
    (was_there c.self.inside.keys.items c.args.self.now.keys c.args.number c.swap_remove-key.result (ap (λ v. v.keys) c.self.view_is) c.requires c.swap_remove-key.ensures.value)
    c.swap_remove-key.ensures.items c.hash-hash.ensures c.forget.ensures
    (comes c.deref.result.now c.swap_remove-key.new.self.items c.args.number c.in-Some.moved.now c.deref.ensures.value c.in-Some.ensures.lookup.0 c.in-Some.ensures.lookup.1)
    c.hash-hash-in-Some.ensures (behind c.len.ensures c.swap_remove-key.ensures.len c.self.inside.keys.ok.0)

pub renumber-requires-clause-free : goal.renumber-requires-clause-free
renumber-requires-clause-free g c =
    number_free c.self.invariant c.args.number
    (was_there c.self.inside.keys.items c.args.self.now.keys c.args.number c.swap_remove-key.result (ap (λ v. v.keys) c.self.view_is) c.requires c.swap_remove-key.ensures.value)
    c.swap_remove-key.ensures.items c.hash-hash.ensures c.forget.ensures
    (comes c.deref.result.now c.swap_remove-key.new.self.items c.args.number c.in-Some.moved.now c.deref.ensures.value c.in-Some.ensures.lookup.0 c.in-Some.ensures.lookup.1)
    c.hash-hash-in-Some.ensures (behind c.len.ensures c.swap_remove-key.ensures.len c.self.inside.keys.ok.0)

pub invariant_of-self : goal.invariant_of-self
invariant_of-self g c =
    indexed-swapped c.self.invariant c.args.number
    (was_there c.self.inside.keys.items c.args.self.now.keys c.args.number c.swap_remove-key.result (ap (λ v. v.keys) c.self.view_is) c.requires c.swap_remove-key.ensures.value)
    c.swap_remove-key.ensures.items c.hash-hash.ensures c.forget.ensures
    (comes c.deref.result.now c.swap_remove-key.new.self.items c.args.number c.in-Some.moved.now c.deref.ensures.value c.in-Some.ensures.lookup.0 c.in-Some.ensures.lookup.1)
    c.hash-hash-in-Some.ensures (behind c.len.ensures c.swap_remove-key.ensures.len c.self.inside.keys.ok.0) c.renumber.ensures

pub invariant_of-self-in_default : goal.invariant_of-self-in_default
invariant_of-self-in_default g c =
    let last : c.args.number + 1 ≡ length c.self.inside.keys.items = omega (arith, c.requires, ap (λ v. length v.keys) c.self.view_is, c.in_default.ensures.lookup.3, c.deref.ensures.len, c.swap_remove-key.ensures.len, c.self.inside.keys.ok.0) in
    indexed-last c.self.invariant c.args.number
    (was_there c.self.inside.keys.items c.args.self.now.keys c.args.number c.swap_remove-key.result (ap (λ v. v.keys) c.self.view_is) c.requires c.swap_remove-key.ensures.value)
    c.swap_remove-key.ensures.items c.hash-hash.ensures c.forget.ensures last

pub returns-in-Some-clause-key : goal.returns-in-Some-clause-key
returns-in-Some-clause-key g c =
    ap (λ v. slice_get v.keys c.args.number) (sym c.self.view_is)
    ∙ was_there c.self.inside.keys.items c.args.self.now.keys c.args.number c.swap_remove-key.result (ap (λ v. v.keys) c.self.view_is) c.requires c.swap_remove-key.ensures.value

pub returns-in_default-clause-key : goal.returns-in_default-clause-key
returns-in_default-clause-key g c =
    ap (λ v. slice_get v.keys c.args.number) (sym c.self.view_is)
    ∙ was_there c.self.inside.keys.items c.args.self.now.keys c.args.number c.swap_remove-key.result (ap (λ v. v.keys) c.self.view_is) c.requires c.swap_remove-key.ensures.value
