use Rattle.std.proofs.Common.{◌∙◌, ◌+◌, ap, length, subst}
use Rattle.std.specs.Fn.{FnReturnsAt}
use Rattle.gq_infer.specs.declared.word.TableWord.{TableWord}
use Rattle.gq_tables.specs.Files.{HasAdded, is_input}
use Rattle.gq_tables.proofs.WordLemmas.{have_more, length-push, none_at, none_more}
use Rattle.gq_tables.proofs.making.find_sources.Goals as goal

pub returns-in-Err-clause-input : goal.returns-in-Err-clause-input
returns-in-Err-clause-input g c = λ none.
    let p = none_at c.args.words.now c.loop-word.word c.index-words-word.result c.loop-word-test.true none in
    c.add_source.ensures.input (ap is_input c.index-words-word.is ∙ p.1) ∙ c.loop-word.invariant.untouched p.0

pub loop-word-preserved : goal.loop-word-preserved
loop-word-preserved g c = record {
  many = ap length c.in-Ok.ensures.added.pushed ∙ length-push c.loop-word.sources.items c.in-Ok.ensures.added.source ∙ ap (λ n. n + 1) c.loop-word.invariant.many;
  have = λ contents files.
      have_more g.R.Read.remaining (λ name opened. FnReturnsAt g.F.Fn c.args.opener.now name opened) (g.I.Read.remaining c.args.input.now) (g.I.Read.remaining c.loop-word.input) c.args.words.now contents c.loop-word.sources.items c.add_source.new.sources.items
      c.loop-word.word c.index-words-word.result files c.loop-word.invariant.many c.loop-word-test.true (λ none. ap g.I.Read.remaining (c.loop-word.invariant.untouched none))
      (subst (λ (w : TableWord). HasAdded g.R.Read.remaining (λ name opened. FnReturnsAt g.F.Fn c.args.opener.now name opened) (g.I.Read.remaining c.loop-word.input) w c.loop-word.sources.items c.add_source.new.sources.items) c.index-words-word.is c.in-Ok.ensures.added)
      (c.loop-word.invariant.have contents files);
  untouched = λ none.
      let p = none_more c.args.words.now c.loop-word.word c.index-words-word.result c.loop-word-test.true none in
      c.add_source.ensures.input (ap is_input c.index-words-word.is ∙ p.1) ∙ c.loop-word.invariant.untouched p.0;
}
