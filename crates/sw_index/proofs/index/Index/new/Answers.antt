use Rattle.sw_index.specs.Index.{numbers_of}
use Rattle.sw_index.proofs.NumberLemmas.{indexed-none}
use Rattle.sw_index.proofs.index.Index.new.Goals as goal

pub invariant_of-result : goal.invariant_of-result
invariant_of-result g c =
    indexed-none g.K.Keyed.class (g.H.KeyHash.hash_of c.args.hasher) c.new.result.items (numbers_of c.new-2.result) c.new.ensures.items c.new-2.ensures
