use Rattle.std.proofs.Common.{◌≡◌, ◌∙◌, ap, map, length}
use Rattle.std.proofs.lemmas.List.{length-map}
use Rattle.sw_ctrl.specs.Bytes.{marked}
use Rattle.sw_ctrl.proofs.Marks.{All-marked, lent_whole}
use Rattle.sw_ctrl.proofs.ctrl.Ctrl.mark_for_rehash.Goals as goal

pub invariant_of-self : goal.invariant_of-self
invariant_of-self c =
    let v = c.self.inside.bytes in let xs = v.items in
    let new = c.mark.ensures ∙ ap (map marked) c.deref_mut.ensures.value in
    let long : length c.mark.new.bytes ≡ length xs = ap length new ∙ length-map xs marked in
    let is = lent_whole xs c.mark.new.bytes v.len v.ok.0 long ∙ new in
    rw is (All-marked xs, rw (length-map xs marked) c.self.invariant.1)
