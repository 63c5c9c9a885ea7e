use Rattle.std.proofs.Common.{◌∙◌, ◌++◌, ap, replicate, string_bytes}
use Rattle.gq_format.proofs.PushLemmas.{between_spaces}
use Rattle.gq_format.proofs.boxes.push_left.Goals as goal

pub returns : goal.returns
returns c shown is =
    between_spaces (string_bytes c.args.text.now) (string_bytes c.push.new.self) (string_bytes c.push_str.new.self) (string_bytes c.push_repeated.new.text) (string_bytes c.push-2.new.self) shown (replicate c.args.blanks 32)
    c.in_ok-push.ensures.bytes
    (c.in_ok-push_str.ensures.bytes ∙ ap (λ l. string_bytes c.push.new.self ++ l) (c.as_str.ensures.value ∙ is))
    c.in_ok-push_repeated.ensures c.in_ok-push-2.ensures.bytes
