use Rattle.std.proofs.Common.{◌≡◌, arith, encode_utf8_all}
use Rattle.std.specs.Fmt.{signed_decimal}
use Rattle.std.proofs.lemmas.Fmt.{IsAscii-signed}
use Rattle.std.proofs.lemmas.Grind.{common_steps}
use Rattle.std.proofs.lemmas.Str.{encodes-IsAscii}
use Rattle.gq_format.proofs.shown.show_number.Goals as goal

pub returns : goal.returns
returns c =
    let ascii : encode_utf8_all (signed_decimal c.args.n) ≡ signed_decimal c.args.n = encodes-IsAscii (signed_decimal c.args.n) (IsAscii-signed c.args.n (omega arith)) in
    grind (arith, common_steps)
