use Rattle.std.proofs.Common.{◌≡◌, ◌∙◌, ap, subst}
use Rattle.gq_command.specs.declared.command.Command.TheVariants.{Create}
use Rattle.gq_command.specs.Lines.{Says}
use Rattle.gq_command.proofs.Again.{one_command}
use Rattle.gq_infer.specs.Words.{create_line}
use Rattle.gq_infer.proofs.word.given.Goals as goal

pub returns-in-Ok-parse_line-clause-refused : goal.returns-in-Ok-parse_line-clause-refused
returns-in-Ok-parse_line-clause-refused c = λ name columns key said.
    let line : c.as_slice.result.now ≡ create_line c.args.declaration.now = c.as_slice.ensures.value ∙ c.in-Ok.ensures ∙ ap create_line c.as_bytes.ensures.value in
    c.in-None.ensures name columns key
    (one_command _ c.in-Ok-parse_line.command (Create name columns key)
    (subst (λ l. Says l c.in-Ok-parse_line.command) line c.in-Ok-parse_line.ensures.said) said)
