use Rattle.std.proofs.Common.{◌∙◌, ap, arith, sym}
use Rattle.gq_infer.specs.Files.{inferred}
use Rattle.gq_tables.specs.Made.{files_of, of_name}
use Rattle.gq_tables.proofs.WordLemmas.{others_start}
use Rattle.gq_tables.proofs.columns.infer_others.Goals as goal

pub loop-word-init : goal.loop-word-init
loop-word-init g c = λ contents first knows start.
    start ∙ ap (λ ws. inferred (contents first.file.now) (files_of contents (of_name first.name ws))) (sym (others_start c.args.files.now.words.now c.args.at (omega (arith, c.requires.at, c.requires.end, c.requires.sources))))
