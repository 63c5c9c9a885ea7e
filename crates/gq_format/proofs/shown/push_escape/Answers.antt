use Rattle.std.proofs.Common.{◌++◌, false, codes, string_bytes}
use Rattle.std.specs.Fmt.{digits}
use Rattle.gq_format.proofs.PushLemmas.{pushed, pushed_char}
use Rattle.gq_format.proofs.shown.push_escape.Goals as goal

pub returns : goal.returns
unfolding lib.Utf8.encode
returns c =
    let before = string_bytes c.args.buffer.now in
    let hex = digits 16 false c.args.c in
    pushed_char before (string_bytes c.push_hexadecimal.new.buffer) (string_bytes c.push.new.self) (codes "\\u{" ++ hex) 125
    (pushed before (string_bytes c.push_str.new.self) (string_bytes c.push_hexadecimal.new.buffer) (codes "\\u{") hex c.in_ok-push_str.ensures.bytes c.in_ok-push_hexadecimal.ensures)
    c.in_ok-push.ensures.bytes
