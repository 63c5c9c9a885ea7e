use Rattle.std.proofs.Common.{◌≡◌, subst, ℕ, List, [], Option}
use Rattle.std.specs.Prelude.{IfSome, slice_index_or}
use Rattle.std.specs.Fn.{FnReturnsAt}
use Rattle.gq_infer.specs.Files.{inferred}
use Rattle.gq_tables.proofs.WordLemmas.{bytes_here}
use Rattle.gq_tables.proofs.ReasonLemmas.{header_refused}
use Rattle.gq_tables.proofs.columns.infer_first.Goals as goal

pub returns-in-Ok-clause-inferred : goal.returns-in-Ok-clause-inferred
returns-in-Ok-clause-inferred g c = λ d e bytes has.
    subst (λ (o : Option (List ℕ)). IfSome o (λ known. c.in-Ok.inference ≡ inferred known []))
    (c.in_ok-file.ensures.opened bytes
    (bytes_here g.R.Read.remaining (λ name opened. FnReturnsAt g.F.Fn c.args.files.now.opener.now name opened) c.args.files.now.words.now c.args.files.now.sources.now c.args.at c.index-files-at.result d c.index-files-at-2.result e bytes
    c.requires.at c.requires.sources has))
    c.in-Ok.ensures.inferred

pub returns-in-Err-clause-refused : goal.returns-in-Err-clause-refused
returns-in-Err-clause-refused g c = λ limits d e bytes has.
    header_refused c.args.files.now.short limits (slice_index_or c.args.files.now.words.now c.args.at d) bytes c.greatest-limits.result.bounds c.in-Err.fault _ _
    (c.in_ok-file.ensures.opened bytes
    (bytes_here g.R.Read.remaining (λ name opened. FnReturnsAt g.F.Fn c.args.files.now.opener.now name opened) c.args.files.now.words.now c.args.files.now.sources.now c.args.at c.index-files-at.result d c.index-files-at-2.result e bytes
    c.requires.at c.requires.sources has))
    c.of_inference.ensures c.in-Err.ensures.refused
