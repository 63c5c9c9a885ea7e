use Rattle.std.proofs.Common.{length, refl, ap, arith}
use Rattle.std.proofs.lemmas.List.{length-map}
use Rattle.std.proofs.lemmas.Grind.{common_steps}
use Rattle.sw_ctrl.specs.Bytes.{marked}
use Rattle.sw_table.proofs.MovedEntries.{full-le-used}
use Rattle.sw_table.proofs.Settling.{settling_begins, settling_ends, used_marked}
use Rattle.sw_table.proofs.rehash.settle_all.Goals as goal

pub loop-i-init : goal.loop-i-init
loop-i-init g c =
    let bs = c.args.ctrl.now in
    rw (c.mark_for_rehash.ensures)
    (record {
      settling = settling_begins _ _ c.args.slots.now bs c.requires.laid (omega (arith, used_marked bs, full-le-used bs, c.requires.laid.load));
      entries = refl;
      size = length-map bs marked;
      used = used_marked bs;
      done = λ k lt. absurd (omega (arith, lt));
    })

pub returns-clause-laid : goal.returns-clause-laid
returns-clause-laid g c =
    let v = c.loop-i.invariant in
    settling_ends _ _ c.loop-i.slots c.loop-i.ctrl v.settling
    (λ k lt. v.done k (omega (arith, lt, v.size, c.loop-i-test.false, c.len-i-end.ensures.len, ap length c.mark_for_rehash.ensures, length-map c.args.ctrl.now marked)))

pub settle_one-requires-clause-deleted : goal.settle_one-requires-clause-deleted
settle_one-requires-clause-deleted g c = grind (arith, common_steps)
