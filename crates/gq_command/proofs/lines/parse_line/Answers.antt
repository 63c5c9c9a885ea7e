use Rattle.std.proofs.Common.{sym, subst, ◌∙◌}
use Rattle.gq_token.specs.Results.{Fails}
use Rattle.gq_command.specs.Lines.{command_on}
use Rattle.gq_command.proofs.Line.{line_sound, none_said}
use Rattle.gq_command.proofs.lines.parse_line.Goals as goal

pub returns-in-Err-Syntax-clause-syntax : goal.returns-in-Err-Syntax-clause-syntax
returns-in-Err-Syntax-clause-syntax c = λ _. none_said c.args.line.now (subst (λ f. Fails f (command_on c.args.line.now)) c.in-Err-Syntax.field-0-is c.in-Err-Syntax.ensures)

pub returns-then-fits-clause-said : goal.returns-then-fits-clause-said
returns-then-fits-clause-said c = line_sound c.args.line.now c.in-Ok.command c.in-Ok.ensures

pub returns-else-fits-clause-limit : goal.returns-else-fits-clause-limit
returns-else-fits-clause-limit c = λ _. (c.in-Ok.command, line_sound c.args.line.now c.in-Ok.command c.in-Ok.ensures, sym c.fits.ensures ∙ c.if-fits.false)
