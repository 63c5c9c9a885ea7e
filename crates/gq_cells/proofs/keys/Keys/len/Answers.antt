use Rattle.std.proofs.Common.{◌∙◌, length, map, ap, sym}
use Rattle.gq_cells.specs.Words.{word_value}
use Rattle.gq_cells.proofs.KeyLemmas.{length_keys}
use Rattle.gq_cells.proofs.keys.Keys.len.Goals as goal

pub returns : goal.returns
returns c = let own = c.self.inside in sym (length_keys own.width own.len (map (word_value own.overflow.items) own.words.items)) ∙ ap length c.self.view_is
