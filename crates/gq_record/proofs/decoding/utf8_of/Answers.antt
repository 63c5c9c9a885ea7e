use Rattle.std.proofs.Common.{◌∙◌, sym}
use Rattle.gq_row.proofs.AsciiLemmas.{small_is_utf8}
use Rattle.gq_record.proofs.decoding.utf8_of.Goals as goal
use Rattle.gq_record.proofs.decoding.utf8_of.Goals.{else-not-is_ascii-via-then-not-is_ascii+else-not-is_utf8, else-not-is_ascii-via-else-not-is_ascii}

pub from_utf8_unchecked-requires : goal.from_utf8_unchecked-requires
from_utf8_unchecked-requires c = elim c.else-not-is_ascii.branch [
  | else-not-is_ascii-via-then-not-is_ascii+else-not-is_utf8 w ↦ w.is_utf8.ensures.yes w.if-not-is_utf8.false
  | else-not-is_ascii-via-else-not-is_ascii w ↦ small_is_utf8 c.args.bytes.now (sym c.is_ascii.ensures ∙ w.if-not-is_ascii.false)
]
