use Rattle.std.proofs.Common.{◌≡◌, map, take, ap, sym, ◌∙◌}
use Rattle.gq_row.specs.Rows.{key_of}
use Rattle.gq_table.proofs.KeyedLemmas.{map-take}
use Rattle.gq_table.proofs.keyed.KeyedRows.add_absent.Goals as goal

pub returns-in-Err-clause-own : goal.returns-in-Err-clause-own
returns-in-Err-clause-own g c =
    let keys = key_of c.args.positions.now in
    c.leave.ensures.keys ∙ ap (take c.len-rows.result) c.add_each.ensures.own ∙ sym (map-take keys c.len-rows.result c.add_each.new.self.rows) ∙ ap (map keys) (sym c.leave.ensures.rows)

pub returns-in-Err-clause-err : goal.returns-in-Err-clause-err
returns-in-Err-clause-err g c =
    let keys = key_of c.args.positions.now in
    let rows : take c.len-rows.result c.add_each.new.self.rows ≡ c.args.self.now.rows = ap (λ n. take n c.add_each.new.self.rows) c.len-rows.ensures ∙ c.add_each.ensures.kept in
    let same_keys = c.leave.ensures.keys ∙ ap (take c.len-rows.result) c.add_each.ensures.own ∙ sym (map-take keys c.len-rows.result c.add_each.new.self.rows) ∙ ap (map keys) rows ∙ sym c.requires.own in
    let same_hasher = c.leave.ensures.hasher ∙ c.add_each.ensures.hasher in
    let same_rows = c.leave.ensures.rows ∙ rows in
    λ i. record { index = record { keys = same_keys i; hasher = same_hasher i }; rows = same_rows i }
