use Rattle.std.proofs.Common.{bytes_eq}
use Rattle.gq_infer.proofs.HeaderLemmas.{any_by_place}
use Rattle.gq_infer.proofs.header.is_in.Goals as goal

pub returns : goal.returns
returns c = rw (c.place_of.ensures, c.len.ensures) (any_by_place (λ field. bytes_eq field c.args.name.now) c.args.header.now)
