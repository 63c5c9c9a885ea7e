use Rattle.std.proofs.Common.{◌∙◌, inr, ap, sym, arith, Ok}
use Rattle.gq_row.specs.declared.value.Value.TheVariants.{Text}
use Rattle.gq_load.proofs.Texts.{bad_text, long_text, good_text}
use Rattle.gq_load.proofs.field.text_of.Goals as goal

pub returns-in_default : goal.returns-in_default
returns-in_default c = inr (bad_text c.args.longest c.args.number c.args.field.now c.in_default.ensures)

pub returns-then-field-longest : goal.returns-then-field-longest
returns-then-field-longest c = inr (long_text c.args.longest c.args.number c.args.field.now c.in-Some.ensures.1 (omega (arith, c.if-field-longest.true)))

pub returns : goal.returns
returns c = good_text c.args.longest c.args.number c.args.field.now c.in-Some.ensures.1 (omega (arith, c.if-field-longest.false)) ∙ ap (λ t. Ok (Text t)) (sym c.in-Some.ensures.0)
