use Rattle.std.proofs.Common.{◌≡◌, ◌-◌, true, nat_lt, take}
use Rattle.std.specs.List.{list_all}
use Rattle.gq_row.proofs.ascii.is_ascii.Given as goal

abbrev pub invariant-loop-at : goal.invariant-loop-at
invariant-loop-at l = list_all (λ byte. nat_lt byte 128) (take l.at l.bytes) ≡ true

abbrev pub decreases-loop-at : goal.decreases-loop-at
decreases-loop-at l = l.last - l.at
