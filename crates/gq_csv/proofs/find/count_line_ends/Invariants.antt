use Rattle.std.proofs.Common.{◌≡◌, ◌+◌, drop}
use Rattle.std.specs.List.{prefix_len}
use Rattle.gq_csv.specs.Bytes.{ends_line}
use Rattle.gq_csv.proofs.find.count_line_ends.Given as goal

abbrev pub invariant-bytes : goal.invariant-bytes
invariant-bytes l = l.at + prefix_len ends_line (drop l.at l.text) ≡ prefix_len ends_line l.text
