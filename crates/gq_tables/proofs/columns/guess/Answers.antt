use Rattle.std.proofs.Common.{subst, ℕ, List, Option}
use Rattle.std.specs.Prelude.{IfSome}
use Rattle.std.specs.Fn.{FnReturnsAt}
use Rattle.gq_infer.specs.Guesses.{AreRightIfLoaded}
use Rattle.gq_infer.proofs.FileLemmas.{if_some}
use Rattle.gq_tables.specs.Files.{left_in}
use Rattle.gq_tables.proofs.WordLemmas.{bytes_here}
use Rattle.gq_tables.proofs.columns.guess.Goals as goal

pub returns-in-Ok-guess_columns-clause-right : goal.returns-in-Ok-guess_columns-clause-right
returns-in-Ok-guess_columns-clause-right g c =
    if_some c.in-Ok-guess_columns.guess (λ columns. IfSome (left_in g.R.Read.remaining c.in-Ok.file) (AreRightIfLoaded columns)) _
    (λ columns right d e bytes has.
    subst (λ (o : Option (List ℕ)). IfSome o (AreRightIfLoaded columns))
    (c.in-Ok.ensures.opened bytes
    (bytes_here g.R.Read.remaining (λ name opened. FnReturnsAt g.F.Fn c.args.files.now.opener.now name opened) c.args.files.now.words.now c.args.files.now.sources.now c.args.at c.index-files-at.result d c.index-files-at-2.result e bytes
    c.requires.at c.requires.sources has))
    right)
    c.in-Ok-guess_columns.ensures.right
