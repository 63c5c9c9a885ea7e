use Rattle.std.proofs.Common.{arith, ◌-◌, refl, ◌≡◌, ◌∙◌, ◌++◌, ◌∷◌, [], length, take, sym, ap}
use Rattle.std.specs.Prelude.{slice_index_or}
use Rattle.gq_cells.proofs.KeyLemmas.{fewer_keys, first_key, first_room, some_keys, value_next}
use Rattle.gq_cells.proofs.keys.KeysLeft.take.Goals as goal

pub loop-i-preserved : goal.loop-i-preserved
loop-i-preserved c =
    let inv = c.loop-i.invariant in
    let it = value_next c.self.inside.cells c.loop-i.i c.next.result c.next.new.self (inv.left ∙ c.next.ensures) in
    let fewer = ap length c.next.ensures in
    record {
      width = inv.width;
      len = inv.len;
      room = omega (arith, inv.room, fewer);
      taken = c.in_ok-push.ensures.items ∙ (λ z. inv.taken z ++ c.next.result ∷ []) ∙ sym it.0;
      left = it.1;
    }

pub returns-clause-first : goal.returns-clause-first
returns-clause-first c =
    let own = c.self.inside in
    let end : c.loop-i.i ≡ own.width = omega (arith, c.loop-i-test.false, c.loop-i.auto.i-end) in
    c.of_folds.ensures
    ∙ c.loop-i.invariant.taken
    ∙ ap (λ n. take n own.cells) end
    ∙ sym (first_key own.width own.len own.cells (some_keys own.width own.len own.cells c.args.self.now c.self.view_is c.requires))
    ∙ ap (λ ks. slice_index_or ks 0 []) c.self.view_is

pub loop-i-init : goal.loop-i-init
loop-i-init c =
    let own = c.self.inside in
    let some = some_keys own.width own.len own.cells c.args.self.now c.self.view_is c.requires in
    let room = first_room own.width own.len (own.len - 1) own.cells (omega (arith, some)) c.self.invariant in
    record {
      width = refl;
      len = refl;
      room = omega (arith, room);
      taken = c.in_ok-values.ensures.items;
      left = refl;
    }

pub returns-in_err-values-clause-fewer : goal.returns-in_err-values-clause-fewer
returns-in_err-values-clause-fewer c =
    let own = c.self.inside in
    let some = some_keys own.width own.len own.cells c.args.self.now c.self.view_is c.requires in
    fewer_keys own.width own.len own.width (own.len - 1) own.cells own.cells c.args.self.now c.self.view_is (omega (arith, some))

pub returns-in_err-push-clause-fewer : goal.returns-in_err-push-clause-fewer
returns-in_err-push-clause-fewer c =
    let own = c.self.inside in
    let now = c.loop-i.self-inside in
    let some = some_keys own.width own.len own.cells c.args.self.now c.self.view_is c.requires in
    fewer_keys own.width own.len now.width now.len own.cells c.next.new.self c.args.self.now c.self.view_is (omega (arith, some, c.loop-i.invariant.len))
