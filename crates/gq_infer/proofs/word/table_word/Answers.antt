use Rattle.std.proofs.Common.{◌≡◌, ◌∙◌, ◌-◌, true, take, eqb, sym, ap, arith}
use Rattle.std.specs.List.{list_any}
use Rattle.std.proofs.lemmas.Bool.{false≢true}
use Rattle.gq_infer.specs.Words.{cut_of}
use Rattle.gq_infer.proofs.WordLemmas.{columns_by_hand, past_sign}
use Rattle.gq_infer.proofs.word.table_word.Goals as goal

pub range_from-file-requires : goal.range_from-file-requires
range_from-file-requires c = λ _.
    past_sign c.args.word.now c.as_bytes.result.now c.cut_of-cut.result c.utf8.word c.as_bytes.ensures.value c.cut_of-cut.ensures.within c.if-cut-word.false c.cut_of-cut.ensures.sign

pub returns-then-contains-clause-named : goal.returns-then-contains-clause-named
returns-then-contains-clause-named c = λ none.
    let word = c.args.word.now in
    let cut : c.cut_of-cut.result ≡ cut_of word = c.cut_of-cut.ensures.place ∙ ap cut_of c.as_bytes.ensures.value in
    let declaration : c.as_bytes-2.result.now ≡ take c.cut_of-cut.result word = c.as_bytes-2.ensures.value ∙ c.range-declaration.ensures.value ∙ ap (λ n. take n word) (let none : c.cut_of-cut.result - 0 ≡ c.cut_of-cut.result = omega arith in none) in
    let found : list_any (λ b. eqb b 40) (take c.cut_of-cut.result word) ≡ true = ap (list_any (λ b. eqb b 40)) (sym declaration) ∙ sym c.contains.ensures.value ∙ c.if-contains.true in
    absurd (false≢true (sym none ∙ columns_by_hand word c.as_bytes.result.now c.cut_of-cut.result c.as_bytes.ensures.value cut c.cut_of-cut.ensures.within c.if-cut-word.false found))
