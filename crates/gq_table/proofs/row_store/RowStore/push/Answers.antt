use Rattle.std.proofs.Common.{◌≡◌, ◌++◌, ◌+◌, length, rules}
use Rattle.gq_table.proofs.RowStoreLemmas.{row_behind}
use Rattle.gq_table.proofs.row_store.RowStore.push.Goals as goal

pub invariant_of-self-2 : goal.invariant_of-self-2
invariant_of-self-2 c =
    let s = c.self.inside in
    let row = c.args.row.now in
    let count : c.in-Some.rows ≡ s.rows + 1 = search rules in
    let whole : c.push_cells.new.cells.items ≡ s.cells.items ++ row = search rules in
    (row_behind s.width s.rows c.in-Some.rows (length c.push_cells.new.row) s.cells.items row c.push_cells.new.cells.items c.args.self.now
    c.self.view_is c.self.invariant c.requires count c.push_cells.auto.row whole).0

pub returns-clause-pushed : goal.returns-clause-pushed
returns-clause-pushed c =
    let s = c.self.inside in
    let row = c.args.row.now in
    let count : c.in-Some.rows ≡ s.rows + 1 = search rules in
    let whole : c.push_cells.new.cells.items ≡ s.cells.items ++ row = search rules in
    (row_behind s.width s.rows c.in-Some.rows (length c.push_cells.new.row) s.cells.items row c.push_cells.new.cells.items c.args.self.now
    c.self.view_is c.self.invariant c.requires count c.push_cells.auto.row whole).1
