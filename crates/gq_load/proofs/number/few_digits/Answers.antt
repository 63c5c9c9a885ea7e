use Rattle.std.proofs.Common.{◌≡◌, ◌∙◌, ◌<◌, get_or, sym, ap, arith}
use Rattle.std.specs.Str.{all_ascii_digits}
use Rattle.std.specs.Str.Parse.{digits_value_after}
use Rattle.std.proofs.lemmas.List.{drop_all}
use Rattle.std.proofs.lemmas.Grind.{common_steps}
use Rattle.gq_load.proofs.Numbers.{fits, over_nine, some_other, stops_at, spelled, within_64}
use Rattle.gq_load.proofs.number.few_digits.Goals as goal

pub overflow_mul-value : goal.overflow_mul-value
overflow_mul-value c =
    let index : c.loop-byte.byte-index < 19 = omega (arith, c.loop-byte-test.true, c.requires) in
    let room = fits c.loop-byte.value c.loop-byte.byte-index c.loop-byte.invariant.small index in
    omega (arith, room)

pub overflow_add-value : goal.overflow_add-value
overflow_add-value c =
    let index : c.loop-byte.byte-index < 19 = omega (arith, c.loop-byte-test.true, c.requires) in
    let room = fits c.loop-byte.value c.loop-byte.byte-index c.loop-byte.invariant.small index in
    omega (arith, room, c.if-digit-gt9.false)

pub returns-then-digit-gt9-clause-value : goal.returns-then-digit-gt9-clause-value
returns-then-digit-gt9-clause-value c =
    let ds = c.args.digits.now in
    let i = c.loop-byte.byte-index in
    sym (some_other ds (sym c.loop-byte.invariant.all ∙ stops_at ds i (omega (arith, c.loop-byte-test.true)) (over_nine c.digit_of-digit.result (get_or ds i 0) c.digit_of-digit.ensures.digit c.if-digit-gt9.true)))

pub returns-clause-value : goal.returns-clause-value
returns-clause-value c =
    let ds = c.args.digits.now in
    let i = c.loop-byte.byte-index in
    let done = drop_all i ds (omega (arith, c.loop-byte-test.false)) in
    let all : all_ascii_digits ds ≡ _ = sym c.loop-byte.invariant.all ∙ ap all_ascii_digits done in
    let value = sym c.loop-byte.invariant.value ∙ ap (digits_value_after 10 c.loop-byte.value) done in
    sym (spelled ds c.loop-byte.value c.loop-byte.invariant.filled all value (within_64 c.loop-byte.value i c.loop-byte.invariant.small (omega (arith, c.requires))))

pub loop-byte-preserved : goal.loop-byte-preserved
loop-byte-preserved c = grind (arith, common_steps)
