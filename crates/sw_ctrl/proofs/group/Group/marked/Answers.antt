use Rattle.std.proofs.Common.{nat_lt, ap, length, ◌∙◌}
use Rattle.std.proofs.lemmas.List.{length-map}
use Rattle.sw_ctrl.specs.Bytes.{marked}
use Rattle.sw_ctrl.specs.declared.control.TheConstants.{EMPTY, DELETED}
use Rattle.sw_ctrl.proofs.Masks.{chosen_is}
use Rattle.sw_ctrl.proofs.group.Group.marked.Goals as goal

pub invariant_of-result : goal.invariant_of-result
invariant_of-result c = ap length (chosen_is c.self.inside.lanes c.self.invariant nat_lt 128 DELETED EMPTY) ∙ length-map c.self.inside.lanes marked ∙ c.self.invariant

pub returns : goal.returns
returns c = rw (← c.self.view_is) (chosen_is c.self.inside.lanes c.self.invariant nat_lt 128 DELETED EMPTY)
