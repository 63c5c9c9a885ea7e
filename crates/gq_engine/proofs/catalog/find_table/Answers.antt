use Rattle.std.proofs.Common.{◌∙◌, sym, ap, arith}
use Rattle.std.specs.Prelude.{bytes_eq}
use Rattle.std.proofs.lemmas.Grind.{common_steps}
use Rattle.gq_engine.proofs.TableLemmas.{is_table_at}
use Rattle.gq_engine.proofs.catalog.find_table.Goals as goal

pub returns-then-eq : goal.returns-then-eq
returns-then-eq g c =
    is_table_at c.args.tables.now c.args.name.now c.loop-i.i c.index-tables-i.result c.loop-i-test.true c.index-tables-i.is
    (ap (λ s. bytes_eq s c.args.name.now) (sym c.as_str.ensures) ∙ sym c.eq.ensures ∙ c.if-eq.true) c.loop-i.invariant.there c.loop-i.invariant.after

pub returns : goal.returns
returns g c = grind (arith, common_steps)

pub loop-i-preserved : goal.loop-i-preserved
loop-i-preserved g c = grind (arith, common_steps)
