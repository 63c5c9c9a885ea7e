use Rattle.std.proofs.Common.{codes}
use Rattle.std.specs.Str.Parse.{ExplainsUnsignedError, HasUnsignedDigitsIfOk, ParsesUnsigned}
use Rattle.clap.specs.Words.{found_of, one_text}
use Rattle.gq_options.proofs.GivenLemmas.{budget-read}
use Rattle.gq_options.proofs.options.budget_in.Goals as goal

pub returns : goal.returns
returns c =
    let text = one_text (found_of c.args.matches.now) (codes "budget") in
    budget-read _ (λ t r. ParsesUnsigned 64 10 t r × ExplainsUnsignedError 10 t r × HasUnsignedDigitsIfOk t r) text c.get_one.result c.unwrap_or.result
    c.unwrap_or.ensures c.get_one.ensures.none (λ t is. c.get_one.ensures.value t is) (λ t r h. h.0)
