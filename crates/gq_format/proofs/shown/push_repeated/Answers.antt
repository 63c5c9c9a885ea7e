use Rattle.std.proofs.Common.{◌<◌, ◌++◌, replicate, string_bytes, encode_utf8_all, arith}
use Rattle.gq_format.proofs.PushLemmas.{one_more_repeated}
use Rattle.gq_format.proofs.shown.push_repeated.Goals as goal

pub loop-preserved : goal.loop-preserved
loop-preserved c =
    let less : c.loop.counter < c.args.n = omega arith in
    one_more_repeated c.args.n c.loop.counter c.args.c (string_bytes c.loop.text) (string_bytes c.push.new.self) (string_bytes c.args.text.now ++ encode_utf8_all (replicate c.args.n c.args.c)) less c.in_ok-push.ensures.bytes c.loop.invariant
