use Rattle.std.proofs.Common.{◌≡◌, ◌+◌, drop}
use Rattle.std.specs.List.{position_or_len}
use Rattle.gq_csv.specs.Bytes.{is_special}
use Rattle.gq_csv.proofs.find.find_bytewise.Given as goal

abbrev pub invariant-bytes : goal.invariant-bytes
invariant-bytes l = l.at + position_or_len is_special (drop l.at l.text) ≡ l.from + position_or_len is_special (drop l.from l.text)
