use Rattle.std.proofs.Common.{◌≡◌, refl, ◌≢◌, ◌+◌, ◌/◌, ◌%◌, ◌<◌, length, set, get_or, slice_index, None, Some, sym, ap, subst, ◌∙◌, arith}
use Rattle.std.proofs.lemmas.Grind.{common_steps}
use native.Mathlib.Nat.{mod-lt}
use Rattle.sw_table.specs.Entries.{entries_in}
use Rattle.sw_table.specs.Free.{First}
use Rattle.sw_table.specs.Settling.{deleted_count}
use Rattle.sw_table.specs.LaidOut.{used_count}
use Rattle.sw_probe.specs.Order.{group_number, group_of}
use Rattle.sw_probe.proofs.Powers.{count-pos}
use Rattle.sw_table.proofs.Capacities.{groups_of}
use Rattle.sw_table.proofs.Settling.{used_turned, deleted_turned}
use Rattle.sw_table.proofs.SettlingSteps.{stays, turns, turns_entries}
use Rattle.sw_table.proofs.rehash.settle_one.Goals as goal
use Rattle.sw_table.proofs.rehash.settle_one.Goals.{then-byte, else-byte}

pub returns-then-at-i-clause-settling : goal.returns-then-at-i-clause-settling
returns-then-at-i-clause-settling g c =
    let ps = c.args.slots.now in let bs = c.args.ctrl.now in
    let hashed = c.hash-hash.ensures in
    rw (c.set-then-at-i.ensures)
    (stays _ _ ps bs c.requires.settling c.args.i c.get.result.now c.requires.deleted.0 c.requires.deleted.1 c.get.ensures c.first_free-at.result (c.h2-h2.result)
    (c.h2-h2.ensures ∙ ap (λ x. x % 128) hashed) (subst (λ h. First bs h c.first_free-at.result) hashed c.first_free-at.ensures.first.group) c.if-at-i.true)

pub new-requires : goal.new-requires
new-requires g c =
    let n = c.len.ensures.len in
    rw n (groups_of (length c.args.ctrl.now) c.requires.settling.size.1 (omega (arith, c.requires.deleted.0)))

pub returns-then-home-i-clause-settling : goal.returns-then-home-i-clause-settling
returns-then-home-i-clause-settling g c =
    let ps = c.args.slots.now in let bs = c.args.ctrl.now in let i = c.args.i in
    let hashed = c.hash-hash.ensures in
    let count = c.len.ensures.len in
    let groups = groups_of (length bs) c.requires.settling.size.1 (omega (arith, c.requires.deleted.0)) in
    let home : i / 16 ≡ group_number (c.hash-hash.result / 128) (length bs / 16) 0 =
    sym c.if-home-i.true ∙ c.group-home.ensures.group ∙ ap group_of c.new.ensures ∙ ap (λ n. group_number (c.hash-hash.result / 128) (n / 16) 0) count in
    let first : First bs c.hash-hash.result i = (0, count-pos _ groups, home, λ m less. absurd (omega (arith, less))) in
    rw (c.set.ensures)
    (stays _ _ ps bs c.requires.settling i c.get.result.now c.requires.deleted.0 c.requires.deleted.1 c.get.ensures i c.h2-h2.result
    (c.h2-h2.ensures ∙ ap (λ x. x % 128) hashed) (subst (λ h. First bs h i) hashed first) refl)

pub returns-clause-settling : goal.returns-clause-settling
returns-clause-settling g c =
    let ps = c.args.slots.now in let bs = c.args.ctrl.now in let i = c.args.i in let t = c.first_free-at.result in
    let hashed = c.hash-hash.ensures in let y = c.h2-h2.result in
    let off : t ≢ i = λ e. c.if-at-i.false (ap (λ x. x / 16) e) in
    let slots : c.if-byte.slots ≡ set (set ps i (get_or ps t None)) t (get_or ps i None) = elim c.if-byte.branch [
      | then-byte w ↦
          let none = c.requires.settling.vacant t (sym c.get-byte.ensures.value ∙ w.if-byte.true) in
          w.slots-is ∙ w.put.ensures ∙ ap (λ s. set s t (Some w.take-pair.result)) w.take-pair.ensures.places ∙ sym (λ j. set (set ps i (none j)) t (w.take-pair.ensures.value j))
      | else-byte w ↦ w.slots-is ∙ w.swap.ensures
    ] in
    let bytes : c.set-3.new.self ≡ set (set bs i (slice_index bs t)) t y = c.set-3.ensures ∙ ap (λ s. set s t y) c.set-2.ensures ∙ ap (λ b. set (set bs i b) t y) c.get-byte.ensures.value in
    rw (slots, bytes)
    (turns _ _ ps bs c.requires.settling i c.get.result.now c.requires.deleted.0 c.requires.deleted.1 c.get.ensures t y
    (c.h2-h2.ensures ∙ ap (λ x. x % 128) hashed) (subst (λ h. First bs h t) hashed c.first_free-at.ensures.first.group) c.first_free-at.ensures.first.free c.first_free-at.ensures.free.0 off)

pub returns-clause-entries : goal.returns-clause-entries
returns-clause-entries g c =
    let ps = c.args.slots.now in let bs = c.args.ctrl.now in let i = c.args.i in let t = c.first_free-at.result in
    let hashed = c.hash-hash.ensures in let y = c.h2-h2.result in
    let off : t ≢ i = λ e. c.if-at-i.false (ap (λ x. x / 16) e) in
    let slots : c.if-byte.slots ≡ set (set ps i (get_or ps t None)) t (get_or ps i None) = elim c.if-byte.branch [
      | then-byte w ↦
          let none = c.requires.settling.vacant t (sym c.get-byte.ensures.value ∙ w.if-byte.true) in
          w.slots-is ∙ w.put.ensures ∙ ap (λ s. set s t (Some w.take-pair.result)) w.take-pair.ensures.places ∙ sym (λ j. set (set ps i (none j)) t (w.take-pair.ensures.value j))
      | else-byte w ↦ w.slots-is ∙ w.swap.ensures
    ] in
    ap (entries_in g.K.Keyed.class) slots
    ∙ turns_entries _ _ ps bs c.requires.settling i c.get.result.now c.requires.deleted.0 c.requires.deleted.1 c.get.ensures t y
    (c.h2-h2.ensures ∙ ap (λ x. x % 128) hashed) (subst (λ h. First bs h t) hashed c.first_free-at.ensures.first.group) c.first_free-at.ensures.first.free c.first_free-at.ensures.free.0 off

pub returns-clause-used : goal.returns-clause-used
returns-clause-used g c =
    let bs = c.args.ctrl.now in let i = c.args.i in let t = c.first_free-at.result in let y = c.h2-h2.result in
    let off : t ≢ i = λ e. c.if-at-i.false (ap (λ x. x / 16) e) in
    let low : y < 128 = omega (arith, c.h2-h2.ensures, mod-lt c.hash-hash.result {m = 128} (omega arith)) in
    ap used_count (c.set-3.ensures ∙ ap (λ s. set s t y) c.set-2.ensures ∙ ap (λ b. set (set bs i b) t y) c.get-byte.ensures.value)
    ∙ used_turned bs i y c.requires.deleted.0 c.requires.deleted.1 low t c.first_free-at.ensures.free.0 off

pub returns-clause-fewer : goal.returns-clause-fewer
returns-clause-fewer g c =
    let bs = c.args.ctrl.now in let i = c.args.i in let t = c.first_free-at.result in let y = c.h2-h2.result in
    let off : t ≢ i = λ e. c.if-at-i.false (ap (λ x. x / 16) e) in
    let low : y < 128 = omega (arith, c.h2-h2.ensures, mod-lt c.hash-hash.result {m = 128} (omega arith)) in
    ap (λ b. deleted_count b + 1) (c.set-3.ensures ∙ ap (λ s. set s t y) c.set-2.ensures ∙ ap (λ b. set (set bs i b) t y) c.get-byte.ensures.value)
    ∙ deleted_turned bs i y c.requires.deleted.0 c.requires.deleted.1 low t c.first_free-at.ensures.free.0 off

pub returns-then-home-i-clause-used : goal.returns-then-home-i-clause-used
returns-then-home-i-clause-used g c = grind (arith, common_steps)

pub returns-then-at-i-clause-used : goal.returns-then-at-i-clause-used
returns-then-at-i-clause-used g c = grind (arith, common_steps)

pub returns-then-at-i-clause-fewer : goal.returns-then-at-i-clause-fewer
returns-then-at-i-clause-fewer g c = grind (arith, common_steps)

pub put-requires : goal.put-requires
put-requires g c = grind (arith, common_steps)

pub returns-then-home-i-clause-fewer : goal.returns-then-home-i-clause-fewer
returns-then-home-i-clause-fewer g c = grind (arith, common_steps)
