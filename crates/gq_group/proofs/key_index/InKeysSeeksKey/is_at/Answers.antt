use Rattle.std.specs.List.{slice_get}
use Rattle.gq_group.proofs.KeyIndexLemmas.{is_there}
use Rattle.gq_group.proofs.key_index.InKeysSeeksKey.is_at.Goals as goal

pub returns : goal.returns
returns c = is_there c.args.self.now.key.now (slice_get c.args.self.now.keys.now c.args.number) c.is_at.result c.is_at.ensures
