use Rattle.std.proofs.Common.{◌∙◌, ◌+◌, [], ap, drop, take, arith, ℕ}
use Rattle.std.specs.Prelude.{slice_index_or}
use Rattle.std.specs.Fn.{FnReturnsAt}
use Rattle.std.proofs.lemmas.Result.{IfOk-at_ok}
use Rattle.gq_infer.specs.declared.word.TableWord.{TableWord}
use Rattle.gq_infer.specs.Files.{inferred}
use Rattle.gq_tables.specs.declared.source.Source.TheVariants.{Path}
use Rattle.gq_tables.specs.Made.{files_of, of_name}
use Rattle.gq_tables.proofs.WordLemmas.{bytes_at}
use Rattle.gq_tables.proofs.ReasonLemmas.{passed, word_fault}
use Rattle.gq_tables.specs.Reasons.{IsFaultAt}
use Rattle.gq_tables.specs.declared.fault.TableFault.{TableFault}
use Rattle.gq_tables.specs.declared.fault.Why.{Why}
use Rattle.gq_row.specs.declared.limits.Bounds.{Bounds}
use Rattle.gq_tables.proofs.columns.infer_all.Goals as goal

pub returns-clause-columns : goal.returns-clause-columns
returns-clause-columns g c = λ contents first knows.
    let words = c.args.files.now.words.now in
    let begun = IfOk-at_ok _ c.in_ok-inference.ensures.ok c.infer_first.ensures.inferred first Path (contents (slice_index_or words c.args.at first).file.now)
    (bytes_at g.R.Read.remaining (λ name opened. FnReturnsAt g.F.Fn c.args.files.now.opener.now name opened) contents words c.args.files.now.sources.now c.args.at first Path knows.bytes (omega (arith, c.requires.at, c.requires.end))) in
    let all = c.infer_others-end.ensures.inferred contents first knows (begun ∙ ap (λ (w : TableWord). inferred (contents w.file.now) []) knows.here) in
    IfOk-at_ok _ c.in_ok-columns.ensures.ok c.columns_of.ensures.columns (contents first.file.now) (files_of contents (of_name first.name (drop (c.args.at + 1) (take c.infer_others-end.result.0 words)))) all

pub returns-in_err-inference-clause-refused : goal.returns-in_err-inference-clause-refused
returns-in_err-inference-clause-refused g c =
    let P : ℕ → Why → Type 0 = λ n why. (limits : Bounds) → IsFaultAt g.R.Read.remaining (λ name opened. FnReturnsAt g.F.Fn c.args.files.now.opener.now name opened) c.args.files.now limits n why in
    let fault = c.in_err-inference.field-0.0 in
    passed c.from_residual.result fault (λ (fault : TableFault). P fault.word fault.why) c.from_residual.ensures.1
    (word_fault c.infer_first.result fault c.args.at P c.in_err-inference.ensures.err c.infer_first.ensures.refused)
