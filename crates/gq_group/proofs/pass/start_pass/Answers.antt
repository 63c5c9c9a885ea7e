use Rattle.std.proofs.Common.{length}
use Rattle.gq_group.proofs.ReadLemmas.{places-within}
use Rattle.gq_group.proofs.pass.start_pass.Goals as goal

pub returns-in_err-add_partitions-clause-few : goal.returns-in_err-add_partitions-clause-few
returns-in_err-add_partitions-clause-few g c = places-within c.args.pass.now.depth (length c.add_partitions.new.partitions.items) c.fan_out.result c.fan_out.ensures c.add_partitions.ensures.few

pub returns-clause-few : goal.returns-clause-few
returns-clause-few g c = places-within c.args.pass.now.depth (length c.add_partitions.new.partitions.items) c.fan_out.result c.fan_out.ensures c.add_partitions.ensures.few
