use Rattle.std.proofs.Common.{subst, sym, ◌∙◌}
use Rattle.std.specs.Prelude.{IsUtf8}
use Rattle.gq_record.proofs.RecordLemmas.{block_once}
use Rattle.gq_record.proofs.decoding.take_text.Goals as goal

pub returns-in_default-clause-none : goal.returns-in_default-clause-none
returns-in_default-clause-none c = λ text rest fits e.
    let same = block_once text c.in_ok-block.block.now rest c.in_ok-block.rest.now fits.short c.in_ok-block.ensures.found.1 (sym e ∙ c.in_ok-block.ensures.found.0) in
    (rw c.in_default.is at c.utf8_of.ensures.none) (subst IsUtf8 same.0 fits.utf8)
