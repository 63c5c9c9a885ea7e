use Rattle.std.proofs.Common.{◌≡◌, ◌∙◌, ◌==◌, [], sym, arith, ap, length}
use Rattle.std.proofs.lemmas.List.{get_or_default}
use Rattle.gq_reply.proofs.RecordLemmas.{blank_many, blank_none, blank_one}
use Rattle.gq_reply.proofs.records.is_blank_header.Goals as goal

pub returns-in-empty : goal.returns-in-empty
returns-in-empty c = sym (blank_none c.args.names.now (omega (arith, c.in-empty.len_below)))

pub returns-in-len1 : goal.returns-in-len1
returns-in-len1 c =
    let names = c.args.names.now in
    let one : length names ≡ 1 = omega (arith, c.in-len1.len_at_least, c.in-len1.len_below) in
    let name = c.as_str.ensures ∙ c.name-item.is ∙ get_or_default names 0 c.name-item.result [] (omega (arith, one)) in
    c.is_empty.ensures ∙ ap (λ l. length l == 0) name ∙ sym (blank_one names one)

pub returns-in_default : goal.returns-in_default
returns-in_default c = sym (blank_many c.args.names.now (omega (arith, c.in_default.len_at_least)))
