use Rattle.std.proofs.Common.{arith, rules}
use Rattle.gq_cells.proofs.WordTextLemmas.{text_padded, text_there}
use Rattle.gq_cells.proofs.tagged_cells.word_of_text.Goals as goal

pub returns-clause-text : goal.returns-clause-text
returns-clause-text c =
    let told = c.in_ok-number.ensures in
    text_there c.args.text.now c.in_ok-number.number _ told.few (search rules) told.padded (omega (arith, c.len.ensures, told.few))

pub returns-clause-utf8 : goal.returns-clause-utf8
returns-clause-utf8 c =
    let told = c.in_ok-number.ensures in
    λ text. text_padded c.args.text.now c.in_ok-number.number _ told.few (search rules) told.valid told.padded (omega (arith, c.len.ensures, told.few))
