use Rattle.std.proofs.Common.{not, arith}
use Rattle.std.proofs.lemmas.List.{length-take-le}
use Rattle.std.proofs.lemmas.List.Sums.{prefix_len-le-length}
use Rattle.gq_csv.specs.Bytes.{is_special}
use Rattle.gq_csv.proofs.copied.copy_plain.Goals as goal

pub take-requires : goal.take-requires
take-requires g c =
    let within = prefix_len-le-length (λ x. not (is_special x)) c.args.input.now.ahead in
    let found = rw c.ahead.ensures at c.find_special-plain.ensures in
    omega (arith, within, found)

pub slice_bounds-push_all-end : goal.slice_bounds-push_all-end
slice_bounds-push_all-end g c =
    let within = prefix_len-le-length (λ x. not (is_special x)) c.args.input.now.ahead in
    let found = rw c.ahead.ensures at c.find_special-plain.ensures in
    let size = length-take-le c.find_special-plain.result c.ahead-2.result.now (rw c.ahead-2.ensures (omega (arith, within, found))) in
    omega (arith, size)
