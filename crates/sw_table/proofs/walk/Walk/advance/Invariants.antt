use Rattle.std.proofs.Common.{◌≡◌, ◌-◌, length}
use Rattle.sw_table.specs.Walks.{IsWalking}
use Rattle.sw_table.proofs.walk.Walk.advance.Given as goal

abbrev pub invariant-groups : goal.invariant-groups
invariant-groups l = IsWalking l.ctrl l.self × (l.self.from ≡ l.fn.self.from)

abbrev pub decreases-groups : goal.decreases-groups
decreases-groups l = length l.ctrl - l.self.next
