use Rattle.std.proofs.Common.{ap, sym, ◌∙◌, refl}
use Rattle.gq_command.proofs.Line.{not_utf8}
use Rattle.std.proofs.lemmas.Str.{is_utf8-from_IsUtf8}
use Rattle.gq_token.specs.Lexing.{tokens, lexed}
use Rattle.gq_command.proofs.lines.parse.Goals as goal

pub returns-in_ok-tokens-in-Ok : goal.returns-in_ok-tokens-in-Ok
unfolding tokens
returns-in_ok-tokens-in-Ok c =
    let text = c.in-Ok.ensures.cases in
    let utf8 = is_utf8-from_IsUtf8 c.args.line.now text.1 in
    let lexes = ap lexed (sym text.0) ∙ c.in_ok-tokens-in-Ok.ensures in
    rw (utf8, lexes) c.command_in.ensures

pub returns-in-Err : goal.returns-in-Err
unfolding tokens
returns-in-Err c = rw (not_utf8 c.args.line.now c.in-Err.ensures.cases.0) refl
