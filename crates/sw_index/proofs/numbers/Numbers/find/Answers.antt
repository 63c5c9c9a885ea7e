use Rattle.std.proofs.Common.{sym, ◌∙◌}
use Rattle.std.specs.FinMap.{get}
use Rattle.sw_index.specs.Index.{named_number, numbers_of}
use Rattle.sw_index.proofs.NumberLemmas.{found_number, none_found}
use Rattle.sw_index.proofs.numbers.Numbers.find.Goals as goal

pub returns-in-Some-clause-found : goal.returns-in-Some-clause-found
returns-in-Some-clause-found g c = λ hash_of indexed.
    let class = g.K.Keyed.class in
    let keys = g.S.Seeks.keys c.args.sought.now in
    let it = g.S.Seeks.sought c.args.sought.now in
    let n = c.at.result.0.now in
    found_number class hash_of keys (numbers_of c.args.self.now) it c.args.hash n c.at.result.1.now indexed
    ((λ i. get (numbers_of c.args.self.now) (named_number class (sym c.new-sought.ensures.hash i) (g.S.Seeks.sought (sym c.new-sought.ensures.seeks i)) (g.S.Seeks.keys (sym c.new-sought.ensures.seeks i)))) ∙ c.in-Some.ensures.found ∙ c.at.ensures)

pub returns-in-None-clause-absent : goal.returns-in-None-clause-absent
returns-in-None-clause-absent g c = λ hash_of indexed hashed.
    let class = g.K.Keyed.class in
    let keys = g.S.Seeks.keys c.args.sought.now in
    let it = g.S.Seeks.sought c.args.sought.now in
    record {
      none = none_found class hash_of keys (numbers_of c.args.self.now) it c.args.hash indexed hashed
          ((λ i. get (numbers_of c.args.self.now) (named_number class (sym c.new-sought.ensures.hash i) (g.S.Seeks.sought (sym c.new-sought.ensures.seeks i)) (g.S.Seeks.keys (sym c.new-sought.ensures.seeks i)))) ∙ c.in-None.ensures.absent);
      hashed = hashed;
    }
