use Rattle.std.proofs.Common.{◌∙◌, length, ap, sym}
use Rattle.gq_cells.proofs.KeyLemmas.{length_keys}
use Rattle.gq_cells.proofs.keys.KeysLeft.len.Goals as goal

pub returns : goal.returns
returns c = let own = c.self.inside in sym (length_keys own.width own.len own.cells) ∙ ap length c.self.view_is
