use Rattle.std.proofs.Common.{arith}
use Rattle.sw_flat.proofs.map.FlatMap.walk.Goals as goal

pub returns : goal.returns
returns g c =
    let start = c.new.ensures.start in
    record { walking = c.new.ensures.walking c.args.self.now.bytes; taken = λ i lt. absurd (omega (arith, lt, start)) }
