use Rattle.std.proofs.Common.{length, ap, arith}
use Rattle.std.proofs.lemmas.List.Sums.{prefix_len-le-length}
use Rattle.gq_csv.specs.Bytes.{ends_line}
use Rattle.gq_csv.proofs.reader.take_line_ends.Goals as goal

pub take-requires : goal.take-requires
take-requires g c = omega (arith, c.count_line_ends-line_ends.ensures, ap length c.ahead.ensures, prefix_len-le-length ends_line c.ahead.result.now)
