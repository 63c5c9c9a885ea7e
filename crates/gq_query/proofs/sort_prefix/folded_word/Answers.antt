use Rattle.std.proofs.Common.{◌+◌, ◌*◌, ◌^◌, ap, rules}
use Rattle.gq_query.proofs.SortPrefixLemmas.{folded_is}
use Rattle.gq_query.proofs.sort_prefix.folded_word.Goals as goal

pub returns : goal.returns
returns c = (ap (λ x. 5 * 2 ^ 56 + x) (folded_is c.args.text.now c.first_folded.result c.with_length.result (search rules) (search rules) (search rules)), search rules)
