use Rattle.std.proofs.Common.{◌≡◌, ◌∙◌, ◌+◌, ◌*◌, ◌≤◌, ◌<◌, ◌^◌, get_or, sym, ap, arith}
use Rattle.std.specs.Str.{all_ascii_digits}
use Rattle.std.specs.Str.Parse.{digits_value, digits_value_after}
use Rattle.std.proofs.lemmas.List.{drop_all}
use Rattle.std.proofs.lemmas.Grind.{common_steps}
use Rattle.gq_load.proofs.Numbers.{digit_is, grows, some_other, stops_at, too_great, spelled}
use Rattle.gq_load.proofs.number.many_digits.Goals as goal

pub returns-then-not-is_ascii_digit : goal.returns-then-not-is_ascii_digit
returns-then-not-is_ascii_digit c =
    let ds = c.args.digits.now in
    let i = c.loop-digit.digit-index in
    sym (some_other ds (sym c.loop-digit.invariant.all ∙ stops_at ds i (omega (arith, c.loop-digit-test.true)) (sym c.is_ascii_digit.ensures.value ∙ c.if-not-is_ascii_digit.true)))

pub returns-in_err-checked_mul : goal.returns-in_err-checked_mul
returns-in_err-checked_mul c =
    let ds = c.args.digits.now in
    let i = c.loop-digit.digit-index in
    let more = grows ds i c.loop-digit.value (omega (arith, c.loop-digit-test.true)) c.loop-digit.invariant.value in
    let over : c.loop-digit.value * 10 < 2 ^ 64 → ⊥ = c.in_err-checked_mul.ensures in
    let great : 2 ^ 64 ≤ digits_value 10 ds = omega (arith, more, over) in
    c.from_residual.ensures ∙ sym (too_great ds great)

pub returns-in_err-value : goal.returns-in_err-value
returns-in_err-value c =
    let ds = c.args.digits.now in
    let i = c.loop-digit.digit-index in
    let more = grows ds i c.loop-digit.value (omega (arith, c.loop-digit-test.true)) c.loop-digit.invariant.value in
    let product = c.in_ok-checked_mul.ensures in
    let over : c.in_ok-checked_mul.field-0 + c.from.result < 2 ^ 64 → ⊥ = c.in_err-value.ensures in
    let digit = digit_is (get_or ds i 0) (sym c.is_ascii_digit.ensures.value ∙ c.if-not-is_ascii_digit.false) in
    let great : 2 ^ 64 ≤ digits_value 10 ds = omega (arith, more, over, product.1, digit, c.from.ensures) in
    c.from_residual-in_err-value.ensures ∙ sym (too_great ds great)

pub returns : goal.returns
returns c =
    let ds = c.args.digits.now in
    let done = drop_all c.loop-digit.digit-index ds (omega (arith, c.loop-digit-test.false)) in
    let all : all_ascii_digits ds ≡ _ = sym c.loop-digit.invariant.all ∙ ap all_ascii_digits done in
    let value = sym c.loop-digit.invariant.value ∙ ap (digits_value_after 10 c.loop-digit.value) done in
    sym (spelled ds c.loop-digit.value c.loop-digit.invariant.filled all value c.loop-digit.invariant.small)

pub loop-digit-preserved : goal.loop-digit-preserved
loop-digit-preserved c = grind (arith, common_steps)
