use Rattle.std.proofs.Common.{◌≤◌, map, [], ap, sym, subst, ◌∙◌, arith}
use Rattle.std.specs.Prelude.{slice_set}
use Rattle.gq_row.specs.Rows.{key_of}
use Rattle.gq_table.proofs.KeyedLemmas.{has_at, put_at, rows_with_one, set_again}
use Rattle.gq_table.proofs.keyed.KeyedRows.replace.Goals as goal

pub returns-clause-own : goal.returns-clause-own
returns-clause-own g c =
    let rows = c.args.self.now.rows in
    let is = c.cells_mut.ensures.value in
    c.requires.own ∙ sym (set_again (key_of c.args.positions.now) rows c.args.position c.args.row.now [] c.requires.found)
    ∙ ap (map (key_of c.args.positions.now)) (sym (c.exchange.ensures.put ∙ ap (slice_set rows c.args.position) is))

pub returns-clause-ok : goal.returns-clause-ok
returns-clause-ok g c =
    let rows = c.args.self.now.rows in
    let is = c.cells_mut.ensures.value in
    c.exchange.ensures.put ∙ ap (slice_set rows c.args.position) is
    ∙ sym (put_at c.args.positions.now rows c.args.row.now c.args.position c.requires.within c.requires.found c.requires.apart)

pub returns-clause-few : goal.returns-clause-few
returns-clause-few g c =
    let rows = c.args.self.now.rows in
    let has = has_at c.args.positions.now rows (key_of c.args.positions.now c.args.row.now) c.args.position c.requires.within c.requires.found in
    subst (λ n. n ≤ c.args.most) (sym (rows_with_one c.args.positions.now rows c.args.row.now has))
    (let few = c.if-most-len.false in let long = c.len.ensures in omega arith)
