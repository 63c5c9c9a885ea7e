use Rattle.std.proofs.Common.{◌∙◌, sym, arith}
use Rattle.gq_row.proofs.AsciiLemmas.{small_is_utf8}
use Rattle.gq_load.proofs.Texts.{good_text}
use Rattle.gq_load.proofs.field.plain_text.Goals as goal

pub from_utf8_unchecked-requires : goal.from_utf8_unchecked-requires
from_utf8_unchecked-requires c = small_is_utf8 c.args.field.now (sym c.is_ascii.ensures ∙ c.if-not-is_ascii.false)

pub returns : goal.returns
returns c =
    let field = c.args.field.now in
    let utf8 = small_is_utf8 field (sym c.is_ascii.ensures ∙ c.if-not-is_ascii.false) in
    (c.from_utf8_unchecked.ensures, sym c.is_null_mark.ensures ∙ c.if-is_null_mark.false, λ number. good_text c.args.longest number field utf8 (omega (arith, c.if-field-longest.false)))
