use Rattle.std.proofs.Common.{◌≡◌, ◌∙◌, inr, set, sym, ap, subst, None, arith}
use Rattle.std.specs.Prelude.{Err, IfSome}
use Rattle.std.proofs.lemmas.Grind.{common_steps}
use Rattle.gq_row.specs.Tables.{PlainTable}
use Rattle.gq_reply.specs.declared.refusal.Refusal.TheVariants.{NoTable}
use Rattle.gq_reply.specs.declared.refusal.Refused.{Refused}
use Rattle.gq_reply.proofs.StepLemmas.{misses}
use Rattle.gq_engine.specs.Databases.{Database, table_at}
use Rattle.gq_engine.specs.Refusing.{put_all_within}
use Rattle.gq_engine.specs.Serving.{Changes}
use Rattle.gq_engine.specs.Steps.{with_rows}
use Rattle.gq_engine.proofs.StagingLemmas.{schema_at}
use Rattle.gq_engine.proofs.TakenLemmas.{took}
use Rattle.gq_engine.proofs.MapLemmas.{differ_set}
use Rattle.gq_engine.proofs.OrderLemmas.{keyed_set, same_tables}
use Rattle.gq_engine.proofs.catalog.Catalog.load.Goals as goal

pub invariant_of-self : goal.invariant_of-self
invariant_of-self g c = (
  differ_set c.self.inside.tables.items c.in-Some.i c.index_mut.result.now c.put_rows.new.table c.index_mut.ensures.value c.self.invariant.0,
  keyed_set c.self.inside.tables.items c.in-Some.i c.index_mut.result.now.0 c.put_rows.new.table c.self.invariant.1 c.put_rows.ensures.valid.keyed,
)

pub returns-in-Some : goal.returns-in-Some
returns-in-Some g c =
    let Q : Database → Type 0 = λ db. Changes (with_rows c.args.limits.now.bounds db c.args.name.now c.args.staged.rows) c.put_rows.result db (set c.self.inside.tables.items c.in-Some.i (c.index_mut.result.now.0, c.put_rows.new.table)) in
    subst Q c.self.view_is
    (took (λ table. put_all_within c.args.limits.now.bounds table c.args.staged.rows) c.self.inside.tables.items c.args.name.now c.in-Some.i c.index_mut.result.now c.put_rows.result c.put_rows.new.table
    (rw c.as_slice.ensures.value at c.in-Some.ensures) c.index_mut.ensures.value c.put_rows.ensures.takes)

pub returns-in-None : goal.returns-in-None
returns-in-None g c =
    let P : Database → Type 0 = λ db. table_at db c.args.name.now ≡ None in
    let none : table_at c.args.self.now c.args.name.now ≡ None = subst P c.self.view_is (rw c.as_slice.ensures.value at c.in-None.ensures) in
    (same_tables c.args.self.now, inr (misses NoTable (table_at c.args.self.now c.args.name.now) _ none ∙ ap (λ (w : Refused). Err w) (sym c.from.ensures)))

pub put_rows-requires : goal.put_rows-requires
put_rows-requires g c =
    schema_at c.self.inside.tables.items c.args.name.now c.in-Some.i c.index_mut.result.now c.args.staged.schema (rw c.as_slice.ensures.value at c.in-Some.ensures) c.index_mut.ensures.value
    (subst (λ (db : Database). IfSome (table_at db c.args.name.now) (λ (table : PlainTable). c.args.staged.schema ≡ table.schema)) (sym c.self.view_is) c.requires)

pub index_mut-requires : goal.index_mut-requires
index_mut-requires g c = grind (arith, common_steps)
