use Rattle.gq_row.specs.Classes.{class_of}
use Rattle.sw_index.specs.Index.{numbers_of}
use Rattle.sw_index.proofs.NumberLemmas.{indexed-none}
use Rattle.gq_group.proofs.key_index.KeyIndex.new.Goals as goal

pub invariant_of-result : goal.invariant_of-result
invariant_of-result g c = indexed-none class_of (g.H.KeyHash.hash_of c.args.hasher) c.new.result (numbers_of c.new-2.result) c.new.ensures c.new-2.ensures
