use Rattle.std.proofs.Common.{◌≡◌, set, Some, None, sym, ap, subst, ◌∙◌}
use Rattle.std.specs.FinMap.{get, insert, remove}
use Rattle.sw_table.specs.Entries.{entries, entries_in}
use Rattle.sw_table.specs.View.{entry_at}
use Rattle.sw_table.proofs.Entries.{entries_rekey}
use Rattle.sw_table.proofs.Found.{absent_else, alone_else}
use Rattle.sw_table.proofs.Places.{IsTable-changed, some_within, some_is}
use Rattle.sw_table.proofs.table.Table.rekey.Goals as goal

pub invariant_of-self : goal.invariant_of-self
invariant_of-self g c =
    let t = c.self.inside in let i = c.args.slot.index in let p = c.get_mut-pair.result.now in let there = c.get_mut-pair.ensures.value in let class = g.K.Keyed.class in
    let new = class c.args.key in
    let seen = sym (ap (λ v. entry_at v i) c.self.view_is) ∙ there in
    let alike = subst (λ v. g.H.KeyHash.hash_of v.hasher new ≡ g.H.KeyHash.hash_of v.hasher (class p.0)) (sym c.self.view_is) (c.requires.hash p seen) in
    let absent = absent_else class t.slots new i p c.self.invariant.laid.apart there (subst (λ v. get (remove (entries class v) (class p.0)) new ≡ None) (sym c.self.view_is) (c.requires.absent p seen)) in
    rw (c.replace.ensures.after)
    (IsTable-changed t.slots i p there (c.args.key, p.1) class (g.H.KeyHash.hash_of t.hasher) t.ctrl t.len t.used c.self.invariant alike (alone_else class t.slots new i absent))

pub returns-clause-entries : goal.returns-clause-entries
returns-clause-entries g c = λ v at.
    let t = c.self.inside in let i = c.args.slot.index in let p = c.get_mut-pair.result.now in let there = c.get_mut-pair.ensures.value in let class = g.K.Keyed.class in
    let new = class c.args.key in
    let seen = sym (ap (λ v. entry_at v i) c.self.view_is) ∙ there in
    let absent = absent_else class t.slots new i p c.self.invariant.laid.apart there (subst (λ v. get (remove (entries class v) (class p.0)) new ≡ None) (sym c.self.view_is) (c.requires.absent p seen)) in
    let value : p.1 ≡ v = ap (λ (x : g.row.K.Denot × g.row.V.Denot). x.1) (some_is (sym seen ∙ at)) in
    rw (c.replace.ensures.after, c.replace.ensures.value, value)
    (subst (λ w. entries_in class (set t.slots i (Some (c.args.key, v))) ≡ insert (remove (entries class w) (class p.0)) new (c.args.key, v)) c.self.view_is
    (entries_rekey class t.slots i p (c.args.key, v) c.self.invariant.laid.apart there (some_within t.slots i p there) absent))
