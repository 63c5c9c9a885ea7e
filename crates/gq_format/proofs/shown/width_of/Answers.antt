use Rattle.std.proofs.Common.{◌∙◌, false, sym, ap, chars, string_bytes}
use Rattle.std.proofs.lemmas.Str.{IsUtf8-string_bytes, chars_from_encodes}
use Rattle.unicode_width.specs.Width.{str_width}
use Rattle.gq_format.proofs.shown.width_of.Goals as goal

pub returns : goal.returns
returns c text e =
    c.width.ensures.value ∙ ap (λ l. str_width false (chars l)) c.as_str.ensures.value ∙ ap (str_width false) (sym (chars_from_encodes text (string_bytes c.args.buffer.now) (IsUtf8-string_bytes c.args.buffer.now) (sym e)))
