use Rattle.std.proofs.Common.{IsPermutation, ap, map, sym, subst, swap_remove, ◌∙◌, []}
use Rattle.std.specs.Prelude.{slice_index_or}
use Rattle.std.proofs.lemmas.List.Sorted.{IsPermutation-refl}
use Rattle.gq_row.specs.Rows.{key_of}
use Rattle.gq_row.specs.Tables.{delete}
use Rattle.gq_table.specs.Changes.{named_key}
use Rattle.gq_table.proofs.KeyedLemmas.{delete_absent, deleted_there, found_there, has_at, key_of_number, lacks_absent, swap_remove_keys}
use Rattle.gq_table.proofs.keyed.KeyedRows.delete.Goals as goal

pub returns-in-At-clause-own : goal.returns-in-At-clause-own
returns-in-At-clause-own g c =
    let key = c.args.positions.now in
    let rows = c.args.self.now.rows in
    let n = c.in-At.number in
    let there = found_there key rows c.args.self.now.index.keys (named_key c.args.key.now) n c.requires.own c.in-At.ensures.found in
    let gone = key_of_number key rows c.args.self.now.index.keys n c.swap_remove.result c.requires.own c.swap_remove.ensures.key in
    c.swap_remove.ensures.keys ∙ (λ i. swap_remove (c.requires.own i) n (sym gone i))
    ∙ sym (swap_remove_keys (key_of key) rows n (slice_index_or rows n []) (slice_index_or rows n []) there.0)
    ∙ ap (map (key_of key)) (sym c.swap_remove-in-At-3.ensures)

pub returns-in-At-clause-answer : goal.returns-in-At-clause-answer
returns-in-At-clause-answer g c =
    let rows = c.args.self.now.rows in
    let there = found_there c.args.positions.now rows c.args.self.now.index.keys (named_key c.args.key.now) c.in-At.number c.requires.own c.in-At.ensures.found in
    sym (has_at c.args.positions.now rows (named_key c.args.key.now) c.in-At.number there.0 there.1)

pub returns-in-At-clause-rows : goal.returns-in-At-clause-rows
returns-in-At-clause-rows g c =
    let key = c.args.positions.now in
    let rows = c.args.self.now.rows in
    let k = named_key c.args.key.now in
    let there = found_there key rows c.args.self.now.index.keys k c.in-At.number c.requires.own c.in-At.ensures.found in
    subst (IsPermutation (delete key rows k)) (sym c.swap_remove-in-At-3.ensures) (deleted_there key rows k c.in-At.number there.0 there.1 c.requires.apart)

pub returns-in-Absent-clause-answer : goal.returns-in-Absent-clause-answer
returns-in-Absent-clause-answer g c =
    sym (lacks_absent c.args.positions.now c.args.self.now.rows c.args.self.now.index.keys (named_key c.args.key.now) c.requires.own c.in-Absent.ensures.absent.none)

pub returns-in-Absent-clause-rows : goal.returns-in-Absent-clause-rows
returns-in-Absent-clause-rows g c =
    let key = c.args.positions.now in
    let rows = c.args.self.now.rows in
    let k = named_key c.args.key.now in
    let none = lacks_absent key rows c.args.self.now.index.keys k c.requires.own c.in-Absent.ensures.absent.none in
    subst (IsPermutation (delete key rows k)) (delete_absent key rows k none) (IsPermutation-refl (delete key rows k))
