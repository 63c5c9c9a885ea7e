use Rattle.std.proofs.Common.{string_bytes}
use Rattle.gq_format.proofs.PushLemmas.{bars_pushed}
use Rattle.gq_format.proofs.boxes.push_bars.Goals as goal

pub returns : goal.returns
returns c = bars_pushed c.args.width 0x2500 (string_bytes c.args.text.now) (string_bytes c.push_repeated.new.text) (string_bytes c.push_repeated-2.new.text) c.in_ok-push_repeated.ensures c.in_ok-push_repeated-2.ensures
