use Rattle.std.proofs.Common.{◌≡◌, drop}
use Rattle.gq_query.specs.Spelling.{has_spellings}
use Rattle.gq_query.proofs.spelling.has_spellings.Given as goal

abbrev pub invariant-loop-column : goal.invariant-loop-column
invariant-loop-column l = has_spellings l.columns (drop l.column-index l.by) ≡ has_spellings l.columns l.by
