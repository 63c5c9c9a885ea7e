use Rattle.std.proofs.Common.{◌∙◌, ◌<◌, length, ap, subst, sym, arith}
use Rattle.std.specs.Prelude.{slice_index_or}
use Rattle.std.proofs.lemmas.List.{get_or-map, length-map}
use Rattle.gq_row.specs.declared.value.Value.TheVariants.{Null, Text}
use Rattle.gq_cells.specs.Words.{HasText, word_value}
use Rattle.gq_cells.proofs.WordTextLemmas.{text_shifted, text_value}
use Rattle.gq_cells.proofs.tagged_cells.TaggedCells.copy_short.Goals as goal

pub write_padded-requires : goal.write_padded-requires
write_padded-requires c =
    let words = c.self.inside.words.items in
    let word = c.index-word.result.now in
    let long = sym (length-map words (word_value c.self.inside.overflow.items)) ∙ ap length c.self.view_is in
    let within : c.args.position < length words = omega (arith, long, c.requires) in
    let has = subst HasText (sym c.index-word.ensures) (c.self.invariant.all c.args.position word within).utf8 in
    (has c.if-word-lt-TEXT.false).padded

pub returns : goal.returns
returns c = λ e.
    let words = c.self.inside.words.items in
    let overflow = c.self.inside.overflow.items in
    let word = c.index-word.result.now in
    let long = sym (length-map words (word_value overflow)) ∙ ap length c.self.view_is in
    let within : c.args.position < length words = omega (arith, long, c.requires) in
    c.write_padded.ensures e ∙ ap Text (text_shifted word) ∙ sym (text_value overflow word c.if-word-lt-TEXT.false) ∙ ap (word_value overflow) c.index-word.ensures
    ∙ sym (get_or-map (word_value overflow) words c.args.position word Null within) ∙ ap (λ l. slice_index_or l c.args.position Null) c.self.view_is
