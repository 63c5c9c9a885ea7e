use Rattle.std.proofs.Common.{IsTrue, sym, subst}
use Rattle.gq_table.specs.Changes.{named_key}
use Rattle.gq_table.specs.Keyed.{OwnKeys, AreApart}
use Rattle.gq_table.specs.Stored.{IsStored}
use Rattle.gq_table.proofs.StoredLemmas.{apart_of, deleted_keyed, keyed_own, keyed_some}
use Rattle.gq_table.proofs.table.Table.delete.Goals as goal

pub delete-requires : goal.delete-requires
delete-requires g c =
    let stored = subst (IsStored c.self.inside.schema) c.in-Keyed.is c.self.invariant in
    record {
      own = subst (λ k. OwnKeys k c.in-Keyed.rows) (sym c.key.ensures.positions) (keyed_own c.self.inside.schema.key c.in-Keyed.rows stored.placed);
      apart = subst (λ k. IsTrue (AreApart k c.in-Keyed.rows.rows)) (sym c.key.ensures.positions) (apart_of c.self.inside.schema.key c.in-Keyed.rows.rows (keyed_some c.self.inside.schema.key c.in-Keyed.rows stored.placed) stored.valid.keyed);
    }

pub invariant_of-self : goal.invariant_of-self
invariant_of-self g c =
    deleted_keyed c.self.inside.schema c.in-Keyed.rows c.delete.new.self c.key.result.now (named_key c.args.key.now) c.key.ensures.positions (subst (IsStored c.self.inside.schema) c.in-Keyed.is c.self.invariant)
    c.delete.ensures.own c.delete.ensures.rows
