use Rattle.std.proofs.Common.{◌≡◌, ◌+◌, ◌-◌, ◌≤◌, drop, length}
use Rattle.std.specs.List.{position_or_len}
use Rattle.gq_csv.specs.Bytes.{is_special}
use Rattle.gq_csv.proofs.placed_mask.PlacedMask.go_on.Given as goal

abbrev pub invariant-blocks-2 : goal.invariant-blocks-2
invariant-blocks-2 l = record {
  within : l.at ≤ length l.text;
  found : l.at + position_or_len is_special (drop l.at l.text) ≡ l.from + position_or_len is_special (drop l.from l.text);
}

abbrev pub decreases-blocks-2 : goal.decreases-blocks-2
decreases-blocks-2 l = length l.text - l.at
