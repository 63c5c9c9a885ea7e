use Rattle.std.proofs.Common.{◌≡◌, ℕ, ◌+◌, ◌%◌, Bool, true, false, length, slice_index, nat_eq, nat_lt, None, sym, ap, subst, ◌∙◌, arith, if◌then◌else◌}
use mir.Val.{bool_byte}
use Rattle.std.specs.FinMap.{get, insert}
use Rattle.std.proofs.lemmas.List.Sums.{count_by-le-length}
use Rattle.std.proofs.lemmas.Grind.{common_steps}
use Rattle.sw_ctrl.specs.declared.control.TheConstants.{EMPTY}
use Rattle.sw_table.specs.Entries.{entries, entries_in}
use Rattle.sw_table.specs.Free.{IsFree, KeepsLoad, used_then}
use Rattle.sw_table.proofs.Entries.{entries_put}
use Rattle.sw_table.proofs.Found.{absent_of}
use Rattle.sw_table.proofs.SlotChanges.{IsTable-filled}
use Rattle.sw_table.proofs.Capacities.{small}
use Rattle.sw_table.proofs.table.Table.fill.Goals as goal

more_used : (used byte : ℕ) (b : Bool) → nat_eq byte EMPTY ≡ b → used + bool_byte b ≡ used_then used byte
more_used used byte true e = ap (λ t. if t then used + 1 else used) (sym e)
more_used used byte false e = omega arith ∙ ap (λ t. if t then used + 1 else used) (sym e)

pub invariant_of-self : goal.invariant_of-self
invariant_of-self g c =
    let t = c.self.inside in
    let free = subst (λ v. IsFree v.bytes c.args.hash c.args.index) (sym c.self.view_is) c.requires.free.0 in
    let fits = subst (λ v. KeepsLoad v.bytes c.args.index) (sym c.self.view_is) c.requires.free.1 in
    let hashed = c.requires.hash ∙ ap (λ v. g.H.KeyHash.hash_of v.hasher (g.K.Keyed.class c.args.key)) (sym c.self.view_is) in
    let absent = absent_of _ t.slots (g.K.Keyed.class c.args.key) (subst (λ v. get (entries g.K.Keyed.class v) (g.K.Keyed.class c.args.key) ≡ None) (sym c.self.view_is) c.requires.absent) in
    rw (c.put.ensures, c.set.ensures)
    (IsTable-filled _ _ t.slots t.ctrl t.len t.used c.self.invariant c.args.index (c.args.key, c.args.value) free.0 free.1 (rw (← hashed) free.2) fits absent _
    (c.h2.ensures ∙ ap (λ x. x % 128) hashed) _ (more_used t.used (slice_index t.ctrl c.args.index) _ (ap (λ b. nat_eq b EMPTY) (sym c.get.ensures.value))))

pub returns-clause-entries : goal.returns-clause-entries
returns-clause-entries g c =
    let t = c.self.inside in
    let free = subst (λ v. IsFree v.bytes c.args.hash c.args.index) (sym c.self.view_is) c.requires.free.0 in
    let absent = absent_of _ t.slots (g.K.Keyed.class c.args.key) (subst (λ v. get (entries g.K.Keyed.class v) (g.K.Keyed.class c.args.key) ≡ None) (sym c.self.view_is) c.requires.absent) in
    ap (entries_in g.K.Keyed.class) c.put.ensures
    ∙ entries_put _ t.slots c.args.index (c.args.key, c.args.value) (omega (arith, free.0, c.self.invariant.laid.size.0)) (c.self.invariant.laid.vacant c.args.index free.1) absent
    ∙ ap (λ v. insert (entries g.K.Keyed.class v) (g.K.Keyed.class c.args.key) (c.args.key, c.args.value)) c.self.view_is

pub overflow_add-self-2 : goal.overflow_add-self-2
overflow_add-self-2 g c =
    let t = c.self.inside in
    record { fits = omega (arith, c.self.invariant.full_is, count_by-le-length (λ b. nat_lt b 128) t.ctrl, small (length t.ctrl) c.self.invariant.laid.size.1) }

pub put-requires : goal.put-requires
put-requires g c = grind (arith, common_steps)
