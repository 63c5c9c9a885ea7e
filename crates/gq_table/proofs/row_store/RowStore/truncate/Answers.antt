use Rattle.std.proofs.Common.{◌∙◌, ap, arith, length, sym}
use Rattle.std.proofs.lemmas.List.{take_all}
use Rattle.gq_table.proofs.RowStoreLemmas.{first_rows, length-along}
use Rattle.gq_table.specs.RowStores.{rows_along}
use Rattle.gq_table.proofs.row_store.RowStore.truncate.Goals as goal

pub returns-then-rows-self : goal.returns-then-rows-self
returns-then-rows-self c =
    let s = c.self.inside in
    ap (rows_along s.width c.args.rows) c.truncate.ensures.items
    ∙ first_rows s.width s.rows c.args.rows s.cells.items c.args.self.now c.self.view_is c.self.invariant (omega (arith, c.if-rows-self.true))

pub returns-else-rows-self : goal.returns-else-rows-self
returns-else-rows-self c =
    let s = c.self.inside in
    let count = ap length (sym c.self.view_is) ∙ length-along s.width s.rows s.cells.items in
    sym (take_all c.args.rows c.args.self.now (omega (arith, count, c.if-rows-self.false)))
