use Rattle.std.proofs.Common.{◌<◌, ◌*◌, ◌%◌, ◌^◌, ◌∙◌, ap, arith, rules}
use Rattle.std.proofs.lemmas.Grind.{common_steps}
use Rattle.gq_query.proofs.SortPrefixLemmas.{few_bytes, four_bytes, small_three, some_bytes}
use Rattle.gq_query.proofs.sort_prefix.padded_bytes.Goals as goal

pub overflow_add-result : goal.overflow_add-result
overflow_add-result c =
    let four : c.from.result < 2 ^ 32 = search rules in
    omega (arith, four, small_three c.args.text.now c.first_three-in-len4-up.result (search rules) (search rules))

pub returns-in_default : goal.returns-in_default
returns-in_default c = ap (λ x. x * 2 ^ 40 % 2 ^ 64) c.first_three.ensures ∙ few_bytes c.args.text.now (search rules) (search rules)

pub returns-in-len4-up : goal.returns-in-len4-up
returns-in-len4-up c =
    some_bytes c.args.text.now c.from.result c.first_three-in-len4-up.result (search rules) (search rules) (search rules)
    (four_bytes c.args.text.now c.from.result (search rules) (grind (arith, common_steps))) (search rules)
