use Rattle.std.proofs.Common.{◌∙◌, sym}
use Rattle.gq_row.proofs.AsciiLemmas.{small_is_utf8}
use Rattle.gq_load.proofs.field.utf8_of.Goals as goal

pub from_utf8_unchecked-requires : goal.from_utf8_unchecked-requires
from_utf8_unchecked-requires c = small_is_utf8 c.args.bytes.now (sym c.is_ascii.ensures ∙ c.if-is_ascii.true)
