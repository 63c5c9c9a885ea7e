use Rattle.std.proofs.Common.{sym, ap, ◌∙◌}
use Rattle.std.specs.Str.Parse.{digits_value}
use Rattle.gq_token.specs.Lexing.{signed}
use Rattle.gq_token.proofs.Numbers.{too_large, parsed}
use Rattle.gq_token.proofs.lexing.signed.Goals as goal

pub returns-in_err-magnitude : goal.returns-in_err-magnitude
returns-in_err-magnitude c =
    let n = digits_value 10 c.args.digits.now in
    c.from_residual.ensures ∙ sym (ap (λ b. signed b n) c.if-negative.true ∙ too_large c.args.digits.now c.parse.result c.parse.ensures.value.0 c.requires.0 c.requires.1 (sym c.ok.ensures.value ∙ c.in_err-magnitude.was))

pub returns-else-negative : goal.returns-else-negative
returns-else-negative c =
    let n = digits_value 10 c.args.digits.now in
    c.ok-else-negative.ensures.value ∙ parsed c.args.digits.now c.parse-else-negative.result c.parse-else-negative.ensures.value.0 c.requires.0 c.requires.1 ∙ sym (ap (λ b. signed b n) c.if-negative.false)
