use Rattle.std.proofs.Common.{◌∙◌, ◌+◌, List, true, ap, sym, drop, take, arith}
use Rattle.std.specs.Prelude.{slice_index_or}
use Rattle.std.specs.Fn.{FnReturnsAt}
use Rattle.std.proofs.lemmas.Result.{IfOk-weaker}
use Rattle.gq_infer.specs.declared.word.TableWord.{TableWord}
use Rattle.gq_infer.specs.Files.{inferred}
use Rattle.gq_tables.specs.declared.source.Source.TheVariants.{Path}
use Rattle.gq_tables.specs.Made.{files_of, of_name}
use Rattle.gq_tables.proofs.WordLemmas.{bytes_at, files-push, other_with, other_without, same_name}
use Rattle.gq_tables.proofs.columns.infer_other.Goals as goal

pub returns-then-not-is_same-clause-more : goal.returns-then-not-is_same-clause-more
returns-then-not-is_same-clause-more g c = λ contents first file knows old.
    let words = c.args.files.now.words.now in
    let other = same_name words c.args.at c.args.word first c.is_same.result _ knows.here (c.is_same.ensures first) c.if-not-is_same.true in
    old ∙ ap (λ (ws : List TableWord). inferred file (files_of contents ws)) (sym (other_without first.name words c.args.at c.args.word first c.requires.at (omega (arith, c.requires.word, c.requires.sources)) other))

pub returns-clause-more : goal.returns-clause-more
returns-clause-more g c =
    IfOk-weaker c.infer_more.result _ _
    (λ _ more contents first file knows old.
    let words = c.args.files.now.words.now in
    let same = same_name words c.args.at c.args.word first c.is_same.result true knows.here (c.is_same.ensures first) c.if-not-is_same.false in
    more first Path (contents (slice_index_or words c.args.word first).file.now)
    (bytes_at g.R.Read.remaining (λ name opened. FnReturnsAt g.F.Fn c.args.files.now.opener.now name opened) contents words c.args.files.now.sources.now c.args.word first Path knows.bytes c.requires.word)
    file (files_of contents (of_name first.name (drop (c.args.at + 1) (take c.args.word words)))) old
    ∙ ap (inferred file) (sym (ap (files_of contents) (other_with first.name words c.args.at c.args.word first c.requires.at (omega (arith, c.requires.word, c.requires.sources)) same) ∙ files-push contents (of_name first.name (drop (c.args.at + 1) (take c.args.word words))) (slice_index_or words c.args.word first))))
    c.infer_more.ensures.more
