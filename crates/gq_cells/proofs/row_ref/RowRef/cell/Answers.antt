use Rattle.std.proofs.Common.{◌∙◌, ◌<◌, All, length, ap, subst, sym, arith}
use Rattle.std.proofs.lemmas.List.{length-map}
use Rattle.gq_cells.specs.Cells.{HaveUtf8, slice_values}
use Rattle.gq_cells.specs.Words.{HasText, word_value}
use Rattle.gq_cells.proofs.row_ref.RowRef.cell.Goals as goal

pub lend_word-requires : goal.lend_word-requires
lend_word-requires c =
    let words = c.in-Tagged.words.now in
    let all : All HasText words = subst HaveUtf8 c.in-Tagged.is c.self.invariant in
    let long = sym (length-map words (word_value c.in-Tagged.overflow.now)) ∙ ap length (sym (ap slice_values c.in-Tagged.is) ∙ c.self.view_is) in
    let within : c.args.position < length words = omega (arith, long, c.requires) in
    subst HasText c.at-in-Tagged.ensures (all c.args.position c.at-in-Tagged.result.now within)
