use Rattle.std.proofs.Common.{◌≡◌, ◌∙◌, inr, set, sym, ap, subst, None, arith}
use Rattle.std.specs.Prelude.{Err}
use Rattle.std.proofs.lemmas.Grind.{common_steps}
use Rattle.gq_row.specs.Fitting.{stored_in}
use Rattle.gq_reply.specs.declared.refusal.Refusal.TheVariants.{NoTable}
use Rattle.gq_reply.specs.declared.refusal.Refused.{Refused}
use Rattle.gq_reply.proofs.StepLemmas.{misses}
use Rattle.gq_engine.specs.Databases.{Database, table_at}
use Rattle.gq_engine.specs.Refusing.{put_within}
use Rattle.gq_engine.specs.Serving.{Changes}
use Rattle.gq_engine.specs.Steps.{with_row}
use Rattle.gq_engine.proofs.TakenLemmas.{took}
use Rattle.gq_engine.proofs.MapLemmas.{differ_set}
use Rattle.gq_engine.proofs.OrderLemmas.{keyed_set, same_tables}
use Rattle.gq_engine.proofs.catalog.Catalog.upsert.Goals as goal

pub invariant_of-self : goal.invariant_of-self
invariant_of-self g c = (
  differ_set c.self.inside.tables.items c.in-Some.i c.index_mut.result.now c.put_row.new.table c.index_mut.ensures.value c.self.invariant.0,
  keyed_set c.self.inside.tables.items c.in-Some.i c.index_mut.result.now.0 c.put_row.new.table c.self.invariant.1 c.put_row.ensures.valid.keyed,
)

pub returns-in-Some : goal.returns-in-Some
returns-in-Some g c =
    let Q : Database → Type 0 = λ db. Changes (with_row c.args.limits.now.bounds db c.args.name.now c.args.row) c.put_row.result db (set c.self.inside.tables.items c.in-Some.i (c.index_mut.result.now.0, c.put_row.new.table)) in
    subst Q c.self.view_is
    (took (λ table. put_within c.args.limits.now.bounds table (stored_in table.schema.columns c.args.row)) c.self.inside.tables.items c.args.name.now c.in-Some.i c.index_mut.result.now c.put_row.result c.put_row.new.table
    (rw c.as_slice.ensures.value at c.in-Some.ensures) c.index_mut.ensures.value c.put_row.ensures.takes)

pub returns-in-None : goal.returns-in-None
returns-in-None g c =
    let P : Database → Type 0 = λ db. table_at db c.args.name.now ≡ None in
    let none : table_at c.args.self.now c.args.name.now ≡ None = subst P c.self.view_is (rw c.as_slice.ensures.value at c.in-None.ensures) in
    (same_tables c.args.self.now, inr (misses NoTable (table_at c.args.self.now c.args.name.now) _ none ∙ ap (λ (w : Refused). Err w) (sym c.from.ensures)))

pub index_mut-requires : goal.index_mut-requires
index_mut-requires g c = grind (arith, common_steps)
