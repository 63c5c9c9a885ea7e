use Rattle.std.proofs.Common.{◌≡◌, ◌∙◌, sym, ap, subst, None, arith}
use Rattle.std.specs.Prelude.{Ok, Err}
use Rattle.std.proofs.lemmas.Grind.{common_steps}
use Rattle.gq_reply.specs.declared.refusal.Refusal.TheVariants.{NoTable}
use Rattle.gq_reply.specs.declared.refusal.Refused.{Refused}
use Rattle.gq_reply.specs.declared.reply.Reply.TheVariants.{Done}
use Rattle.gq_reply.proofs.StepLemmas.{misses}
use Rattle.gq_engine.specs.Databases.{Database, table_at}
use Rattle.gq_engine.specs.Serving.{Settles}
use Rattle.gq_engine.specs.Steps.{drop_table}
use Rattle.gq_engine.proofs.TakenLemmas.{removed, removed_at}
use Rattle.gq_engine.proofs.OrderLemmas.{same_tables}
use Rattle.gq_engine.proofs.catalog.Catalog.remove.Goals as goal

pub invariant_of-self : goal.invariant_of-self
invariant_of-self g c =
    removed_at c.self.inside.tables.items c.args.name.now c.in-Some.i c.remove.new.self.items (rw c.as_slice.ensures.value at c.in-Some.ensures) c.self.invariant c.remove.ensures.items

pub returns-in-Some : goal.returns-in-Some
returns-in-Some g c =
    let Q : Database → Type 0 = λ db. Settles {X = Unit {0}} (λ _. Done 0) (drop_table db c.args.name.now) (Ok tt) db c.remove.new.self.items in
    subst Q c.self.view_is
    (removed c.self.inside.tables.items c.args.name.now c.in-Some.i c.remove.new.self.items (rw c.as_slice.ensures.value at c.in-Some.ensures) c.self.invariant c.remove.ensures.items)

pub returns-in-None : goal.returns-in-None
returns-in-None g c =
    let P : Database → Type 0 = λ db. table_at db c.args.name.now ≡ None in
    let none : table_at c.args.self.now c.args.name.now ≡ None = subst P c.self.view_is (rw c.as_slice.ensures.value at c.in-None.ensures) in
    (same_tables c.args.self.now, misses NoTable (table_at c.args.self.now c.args.name.now) _ none ∙ ap (λ (w : Refused). Err w) (sym c.from.ensures))

pub remove-requires : goal.remove-requires
remove-requires g c = grind (arith, common_steps)
