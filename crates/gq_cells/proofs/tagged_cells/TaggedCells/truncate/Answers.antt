use Rattle.std.proofs.Common.{◌∙◌, map, take, sym, ap}
use Rattle.std.proofs.lemmas.List.{take-map}
use Rattle.gq_cells.specs.Words.{word_value}
use Rattle.gq_cells.proofs.tagged_cells.TaggedCells.truncate.Goals as goal

pub returns : goal.returns
returns c =
    let overflow = c.self.inside.overflow.items in
    ap (map (word_value overflow)) c.truncate.ensures.items
    ∙ sym (take-map (word_value overflow) c.args.values c.self.inside.words.items)
    ∙ ap (take c.args.values) c.self.view_is
