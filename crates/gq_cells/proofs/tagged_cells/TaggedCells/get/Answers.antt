use Rattle.std.proofs.Common.{◌∙◌, ◌<◌, length, ap, subst, sym, arith}
use Rattle.std.proofs.lemmas.List.{length-map}
use Rattle.gq_cells.specs.Words.{HasText, word_value}
use Rattle.gq_cells.proofs.tagged_cells.TaggedCells.get.Goals as goal

pub lend_word-requires : goal.lend_word-requires
lend_word-requires c =
    let words = c.self.inside.words.items in
    let long = sym (length-map words (word_value c.self.inside.overflow.items)) ∙ ap length c.self.view_is in
    let within : c.args.position < length words = omega (arith, long, c.requires) in
    subst HasText (sym c.index.ensures) (c.self.invariant.all c.args.position c.index.result.now within).utf8
