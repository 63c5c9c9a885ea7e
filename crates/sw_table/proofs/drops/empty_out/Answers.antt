use Rattle.std.proofs.Common.{replicate, None, ap, sym, ◌∙◌, arith}
use Rattle.sw_table.proofs.Emptied.{blank_places, none_full}
use Rattle.sw_table.proofs.Places.{all_vacant}
use Rattle.sw_table.proofs.drops.empty_out.Goals as goal

pub returns-then-len-eq0 : goal.returns-then-len-eq0
returns-then-len-eq0 g c = blank_places c.args.slots.now c.args.ctrl.now c.requires.len c.requires.vacant (none_full c.args.ctrl.now (sym c.requires.count ∙ c.if-len-eq0.true))

pub returns : goal.returns
returns g c =
    let at = c.loop-i in
    all_vacant at.slots (λ k lt. at.invariant.done_with k (omega (arith, lt, at.invariant.len))) ∙ ap (λ n. replicate n None) at.invariant.len
