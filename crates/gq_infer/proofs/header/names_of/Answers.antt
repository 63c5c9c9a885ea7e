use Rattle.std.proofs.Common.{◌≡◌, ◌∙◌, true, false, length, inr, sym, ap, arith}
use Rattle.std.specs.Prelude.{nat_lt}
use Rattle.std.specs.List.{list_any}
use Rattle.std.proofs.lemmas.Result.{err_from_is_err_and}
use Rattle.gq_infer.specs.Files.{can_name}
use Rattle.gq_infer.proofs.HeaderLemmas.{no_fault, no_names, refused_texts, text_names, too_long, too_many}
use Rattle.gq_infer.proofs.header.names_of.Goals as goal

pub returns-then-len-bounds-clause-refused : goal.returns-then-len-bounds-clause-refused
returns-then-len-bounds-clause-refused c = inr (too_many c.args.bounds.now c.args.header.now (omega (arith, c.if-len-bounds.true, c.len.ensures)))

pub returns-in_err-names-clause-refused : goal.returns-in_err-names-clause-refused
returns-in_err-names-clause-refused c =
    let p = err_from_is_err_and c.from_residual.result c.from_residual.ensures.1 in
    let e = c.in_err-names.field-0.0 in
    rw (p.1, p.2) (refused_texts c.args.bounds.now c.args.header.now e (omega (arith, c.if-len-bounds.false, c.len.ensures)) c.in_err-names.ensures.refused)

pub returns-then-not-can_name-clause-refused : goal.returns-then-not-can_name-clause-refused
returns-then-not-can_name-clause-refused c =
    let names = c.args.header.now in
    let none : can_name names ≡ false = ap can_name (sym (c.as_slice.ensures.value ∙ c.in_ok-names.ensures.texts)) ∙ sym c.can_name.ensures ∙ c.if-not-can_name.true in
    inr (no_names c.args.bounds.now names (omega (arith, c.if-len-bounds.false, c.len.ensures)) (text_names names false c.in_ok-names.ensures.utf8 none))

pub returns-then-has_longer-clause-refused : goal.returns-then-has_longer-clause-refused
returns-then-has_longer-clause-refused c =
    let names = c.args.header.now in
    let most = c.args.bounds.now.name in
    let all : can_name names ≡ true = ap can_name (sym (c.as_slice.ensures.value ∙ c.in_ok-names.ensures.texts)) ∙ sym c.can_name.ensures ∙ c.if-not-can_name.false in
    let long : list_any (λ name. nat_lt most (length name)) names ≡ true = ap (list_any (λ name. nat_lt most (length name))) (sym (c.as_slice-2.ensures.value ∙ c.in_ok-names.ensures.texts)) ∙ sym c.has_longer.ensures ∙ c.if-has_longer.true in
    inr (too_long c.args.bounds.now names (omega (arith, c.if-len-bounds.false, c.len.ensures)) (text_names names true c.in_ok-names.ensures.utf8 all) long)

pub returns-clause-fine : goal.returns-clause-fine
returns-clause-fine c =
    let names = c.args.header.now in
    let most = c.args.bounds.now.name in
    let all : can_name names ≡ true = ap can_name (sym (c.as_slice.ensures.value ∙ c.in_ok-names.ensures.texts)) ∙ sym c.can_name.ensures ∙ c.if-not-can_name.false in
    let short : list_any (λ name. nat_lt most (length name)) names ≡ false = ap (list_any (λ name. nat_lt most (length name))) (sym (c.as_slice-2.ensures.value ∙ c.in_ok-names.ensures.texts)) ∙ sym c.has_longer.ensures ∙ c.if-has_longer.false in
    no_fault c.args.bounds.now names (omega (arith, c.if-len-bounds.false, c.len.ensures)) (text_names names true c.in_ok-names.ensures.utf8 all) short
