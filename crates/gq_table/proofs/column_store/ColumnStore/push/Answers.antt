use Rattle.std.proofs.Common.{◌≡◌, ◌∙◌, ◌++◌, ◌∷◌, ◌+◌, [], length, map, arith, rules}
use Rattle.gq_table.specs.Columns.{alone, columns_behind}
use Rattle.gq_table.proofs.ColumnStoreLemmas.{pushed, written}
use Rattle.gq_table.proofs.column_store.ColumnStore.push.Goals as goal

pub invariant_of-self-in-Ok : goal.invariant_of-self-in-Ok
invariant_of-self-in-Ok c =
    let columns = c.start_columns.new.columns in
    let view = c.start_columns.ensures.same ∙ c.self.view_is in
    let same : length columns.items ≡ length c.args.row.now = search rules in
    let count : c.in-Some.rows ≡ c.self.inside.rows + 1 = search rules in
    let is : c.push_cells.new.columns ≡ columns_behind columns.items (map alone c.args.row.now) = search rules in
    (written columns.items c.push_cells.new.columns columns.len (omega (arith, c.push_cells.auto.columns, c.as_mut_slice.ensures.len)) c.in-Some.rows (c.args.self.now ++ c.args.row.now ∷ [])
    (pushed c.self.inside.rows c.in-Some.rows columns.items c.push_cells.new.columns c.args.self.now c.args.row.now view c.start_columns.ensures.long same count is)).0

pub returns-in-Ok-clause-pushed : goal.returns-in-Ok-clause-pushed
returns-in-Ok-clause-pushed c =
    let columns = c.start_columns.new.columns in
    let view = c.start_columns.ensures.same ∙ c.self.view_is in
    let same : length columns.items ≡ length c.args.row.now = search rules in
    let count : c.in-Some.rows ≡ c.self.inside.rows + 1 = search rules in
    let is : c.push_cells.new.columns ≡ columns_behind columns.items (map alone c.args.row.now) = search rules in
    (written columns.items c.push_cells.new.columns columns.len (omega (arith, c.push_cells.auto.columns, c.as_mut_slice.ensures.len)) c.in-Some.rows (c.args.self.now ++ c.args.row.now ∷ [])
    (pushed c.self.inside.rows c.in-Some.rows columns.items c.push_cells.new.columns c.args.self.now c.args.row.now view c.start_columns.ensures.long same count is)).1
