use Rattle.std.proofs.Common.{◌≡◌, ◌∙◌, set, sym, ap, subst, None, arith}
use Rattle.std.specs.Prelude.{Err}
use Rattle.std.proofs.lemmas.Grind.{common_steps}
use Rattle.gq_reply.specs.declared.refusal.Refusal.TheVariants.{NoTable}
use Rattle.gq_reply.specs.declared.refusal.Refused.{Refused}
use Rattle.gq_reply.proofs.StepLemmas.{misses}
use Rattle.gq_engine.specs.Databases.{Database, table_at}
use Rattle.gq_engine.specs.Serving.{Settles, deleted}
use Rattle.gq_engine.specs.Steps.{delete_row}
use Rattle.gq_engine.proofs.TakenLemmas.{took_out}
use Rattle.gq_engine.proofs.MapLemmas.{differ_set}
use Rattle.gq_engine.proofs.OrderLemmas.{keyed_set, same_tables}
use Rattle.gq_engine.proofs.catalog.Catalog.delete.Goals as goal

pub invariant_of-self : goal.invariant_of-self
invariant_of-self g c = (
  differ_set c.self.inside.tables.items c.in-Some.i c.index_mut.result.now c.delete_row.new.table c.index_mut.ensures.value c.self.invariant.0,
  keyed_set c.self.inside.tables.items c.in-Some.i c.index_mut.result.now.0 c.delete_row.new.table c.self.invariant.1 c.delete_row.ensures.valid.keyed,
)

pub returns-in-Some : goal.returns-in-Some
returns-in-Some g c =
    let Q : Database → Type 0 = λ db. Settles deleted (delete_row db c.args.name.now c.args.values.now) c.delete_row.result db (set c.self.inside.tables.items c.in-Some.i (c.index_mut.result.now.0, c.delete_row.new.table)) in
    subst Q c.self.view_is
    (took_out c.self.inside.tables.items c.args.name.now c.in-Some.i c.index_mut.result.now c.args.values.now c.delete_row.result c.delete_row.new.table
    (rw c.as_slice.ensures.value at c.in-Some.ensures) c.index_mut.ensures.value c.delete_row.ensures.deletes)

pub returns-in-None : goal.returns-in-None
returns-in-None g c =
    let P : Database → Type 0 = λ db. table_at db c.args.name.now ≡ None in
    let none : table_at c.args.self.now c.args.name.now ≡ None = subst P c.self.view_is (rw c.as_slice.ensures.value at c.in-None.ensures) in
    (same_tables c.args.self.now, misses NoTable (table_at c.args.self.now c.args.name.now) _ none ∙ ap (λ (w : Refused). Err w) (sym c.from.ensures))

pub index_mut-requires : goal.index_mut-requires
index_mut-requires g c = grind (arith, common_steps)
