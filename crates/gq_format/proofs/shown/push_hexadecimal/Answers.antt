use Rattle.std.proofs.Common.{string_bytes, arith}
use Rattle.gq_format.proofs.PushLemmas.{hex_one_pushed, hex_two_pushed}
use Rattle.gq_format.proofs.shown.push_hexadecimal.Goals as goal

pub returns-then-n-lt16 : goal.returns-then-n-lt16
returns-then-n-lt16 c = hex_one_pushed c.args.n c.digit.result (string_bytes c.args.buffer.now) (string_bytes c.push.new.self) (omega arith) c.digit.ensures c.in_ok-push.ensures.bytes

pub returns : goal.returns
returns c = hex_two_pushed c.args.n c.digit-2.result c.digit-3.result (string_bytes c.args.buffer.now) (string_bytes c.push-2.new.self) (string_bytes c.push-3.new.self) (omega arith) (omega arith) c.digit-2.ensures c.digit-3.ensures c.in_ok-push-2.ensures.bytes c.in_ok-push-3.ensures.bytes
