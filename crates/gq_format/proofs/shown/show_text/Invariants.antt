use Rattle.std.proofs.Common.{◌≡◌, ◌++◌, IsUtf8, chars, flat_map, string_bytes, encode_utf8_all}
use Rattle.gq_format.specs.Shown.{shown_char, shown_text}
use Rattle.gq_format.proofs.shown.show_text.Given as goal

abbrev pub invariant-loop-c : goal.invariant-loop-c
invariant-loop-c l = record {
  utf8 : IsUtf8 l.c-iterator.rest.now;
  text : string_bytes l.buffer ++ encode_utf8_all (flat_map shown_char (chars l.c-iterator.rest.now)) ≡ encode_utf8_all (shown_text l.text);
}
