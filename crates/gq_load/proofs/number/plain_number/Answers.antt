use Rattle.std.proofs.Common.{◌∙◌, Some, length, pos, w64, ap, arith, sym}
use Rattle.std.proofs.lemmas.Int.{fits_signed_from_abs, to_z_pos}
use Rattle.gq_load.proofs.Numbers.{within_63}
use Rattle.gq_load.proofs.Spelling.{plainly}
use Rattle.gq_load.proofs.number.plain_number.Goals as goal

pub overflow_cast-result : goal.overflow_cast-result
overflow_cast-result c =
    let small = rw c.in-Some.is at c.few_digits.ensures.small in
    fits_signed_from_abs w64 (pos c.in-Some.value) (within_63 c.in-Some.value (length c.args.field.now) small (omega (arith, c.if-field-ge-FEW.false)))

pub returns-in-Some : goal.returns-in-Some
returns-in-Some c =
    let small = rw c.in-Some.is at c.few_digits.ensures.small in
    let fits = within_63 c.in-Some.value (length c.args.field.now) small (omega (arith, c.if-field-ge-FEW.false)) in
    plainly c.args.field.now c.in-Some.value (sym c.few_digits.ensures.value ∙ c.in-Some.is) fits ∙ ap Some (sym (to_z_pos w64 c.in-Some.value fits))
