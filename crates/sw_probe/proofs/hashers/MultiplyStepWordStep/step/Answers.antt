use Rattle.std.proofs.Common.{◌^◌, ◌<◌, arith, sym, subst}
use Rattle.std.proofs.lemmas.Nat.{xor_lt}
use Rattle.sw_probe.proofs.Products.{product_fits}
use Rattle.sw_probe.proofs.hashers.MultiplyStepWordStep.step.Goals as goal

pub overflow_mul-product : goal.overflow_mul-product
overflow_mul-product c =
    let word : c.from.result < 2 ^ 64 = subst (λ n. n < 2 ^ 64) (sym c.from.ensures) (xor_lt 64 c.args.acc c.args.word (omega arith) (omega arith)) in
    omega (arith, product_fits c.from.result c.from-2.result c.from-2.ensures word)

pub overflow_cast-high : goal.overflow_cast-high
overflow_cast-high c =
    let word : c.from.result < 2 ^ 64 = subst (λ n. n < 2 ^ 64) (sym c.from.ensures) (xor_lt 64 c.args.acc c.args.word (omega arith) (omega arith)) in
    omega (arith, product_fits c.from.result c.from-2.result c.from-2.ensures word)
