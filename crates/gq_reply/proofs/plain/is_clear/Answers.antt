use Rattle.gq_reply.proofs.PlainLemmas.{lanes_clear}
use Rattle.gq_reply.proofs.plain.is_clear.Goals as goal

pub returns : goal.returns
returns g c = lanes_clear g.row.N c.args.lanes c.requires c.fits-lanes.0
