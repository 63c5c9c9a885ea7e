use Rattle.std.proofs.Common.{ap, ◌∙◌}
use Rattle.gq_row.specs.Rows.{key_of}
use Rattle.gq_table.proofs.KeyedLemmas.{found_there}
use Rattle.gq_table.proofs.keyed.KeyedRows.put.Goals as goal

pub replace-requires-clause-found : goal.replace-requires-clause-found
replace-requires-clause-found g c =
    (found_there c.args.positions.now c.args.self.now.rows c.args.self.now.index.keys c.new.result c.in-At.number c.requires.own c.in-At.ensures.found).1
    ∙ c.new.ensures ∙ ap (key_of c.args.positions.now) c.cells.ensures
