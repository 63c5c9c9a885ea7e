use Rattle.std.proofs.Common.{◌∙◌, sym}
use Rattle.gq_cells.proofs.KeyLemmas.{same_alone}
use Rattle.gq_cells.proofs.keys.has_values.Goals as goal

pub returns-then-words-eq1 : goal.returns-then-words-eq1
returns-then-words-eq1 c = c.has_value.ensures ∙ same_alone c.args.overflow.now c.args.key.now c.args.words.now 0 (sym c.requires.long ∙ c.if-words-eq1.true) c.if-words-eq1.true
