use Rattle.std.proofs.Common.{string_bytes, encode_utf8_all}
use Rattle.std.proofs.lemmas.Str.{IsUtf8-past_char}
use Rattle.gq_format.specs.Shown.{shown_text}
use Rattle.gq_format.proofs.PushLemmas.{no_more_shown, one_more_shown}
use Rattle.gq_format.proofs.shown.show_text.Goals as goal

pub loop-c-preserved : goal.loop-c-preserved
loop-c-preserved c =
    let rest = c.loop-c.c-iterator.rest.now in
    let behind = c.next.new.self.rest.now in
    record {
      utf8 = IsUtf8-past_char rest behind c.in-Some.c c.loop-c.invariant.utf8 c.in-Some.ensures.steps.0;
      text = one_more_shown (string_bytes c.loop-c.buffer) (string_bytes c.push_shown.new.buffer) rest behind (encode_utf8_all (shown_text c.args.text.now)) c.in-Some.c c.loop-c.invariant.utf8 c.in-Some.ensures.steps.0 c.in_ok-push_shown.ensures c.loop-c.invariant.text;
    }

pub returns : goal.returns
returns c = no_more_shown (string_bytes c.loop-c.buffer) c.loop-c.c-iterator.rest.now (encode_utf8_all (shown_text c.args.text.now)) c.in-None.ensures.steps.0.0 c.loop-c.invariant.text
