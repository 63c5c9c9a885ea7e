use Rattle.std.proofs.Common.{◌≡◌, ◌/◌, ◌%◌, arith}
use Rattle.std.proofs.lemmas.Nat.{and_mask}
use Rattle.sw_probe.proofs.keys.U64Keyed.fold_key.Goals as goal

pub returns : goal.returns
returns g c =
    let x = c.args.self.now in
    let first : x / 72057594037927936 ≡ x / 72057594037927936 % 256 = omega arith in
    cc (first, and_mask (x / 281474976710656) 8, and_mask (x / 1099511627776) 8, and_mask (x / 4294967296) 8, and_mask (x / 16777216) 8, and_mask (x / 65536) 8, and_mask (x / 256) 8, and_mask x 8)
