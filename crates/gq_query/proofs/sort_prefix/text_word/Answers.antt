use Rattle.std.proofs.Common.{◌+◌, ◌*◌, ◌^◌, ap, rules}
use Rattle.gq_query.proofs.SortPrefixLemmas.{text_is}
use Rattle.gq_query.proofs.sort_prefix.text_word.Goals as goal

pub returns : goal.returns
returns c = (ap (λ x. 4 * 2 ^ 56 + x) (text_is c.args.text.now c.first_bytes.result c.with_length.result (search rules) (search rules) (search rules)), search rules)
