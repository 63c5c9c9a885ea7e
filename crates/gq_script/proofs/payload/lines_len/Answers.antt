use Rattle.std.proofs.Common.{◌+◌, ◌∙◌, take, sym, subst}
use Rattle.gq_script.specs.Payloads.{HasLines}
use Rattle.gq_script.proofs.PlainLines.{none_found, plain_lines}
use Rattle.gq_script.proofs.payload.lines_len.Goals as goal

pub returns-in-Some-clause-lines : goal.returns-in-Some-clause-lines
returns-in-Some-clause-lines c =
    let bytes = c.args.bytes.now in
    (plain_lines bytes c.in-Some.last c.in-Some.ensures.0.high c.in-Some.ensures.1 (none_found bytes c.memchr.result (sym c.is_some.ensures ∙ c.if-is_some.false) c.memchr.ensures)).0

pub returns-in-Some-clause-count : goal.returns-in-Some-clause-count
returns-in-Some-clause-count c =
    let bytes = c.args.bytes.now in
    let lines = plain_lines bytes c.in-Some.last c.in-Some.ensures.0.high c.in-Some.ensures.1 (none_found bytes c.memchr.result (sym c.is_some.ensures ∙ c.if-is_some.false) c.memchr.ensures) in
    subst (λ n. HasLines (n + 1) (take (c.in-Some.last + 1) bytes)) (sym c.line_ends.ensures) lines.1
