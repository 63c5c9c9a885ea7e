use Rattle.std.proofs.Common.{◌≡◌, ◌∙◌, ◌&&◌, true, length, map, eqb, bytes_eq, false, rules, nat_eq, inr, ap, sym, arith}
use Rattle.std.specs.Prelude.{nat_lt}
use Rattle.std.specs.List.{list_all}
use Rattle.gq_row.specs.Repeats.{no_repeats}
use Rattle.gq_row.specs.declared.schema.Column.{Column}
use Rattle.gq_row.specs.Fitting.{has_null as no_key}
use Rattle.gq_load.specs.Payloads.{completed}
use Rattle.gq_load.proofs.Completing.{as_completed, within}
use Rattle.gq_load.proofs.Onward.{in_key, null_key, other_count}
use Rattle.gq_load.proofs.Places.{both}
use Rattle.gq_load.proofs.row.write_row.Goals.{then-len-columns+in_ok-fit_row, else-len-columns}
use Rattle.gq_load.proofs.row.write_row.Goals as goal

pub has_null-requires : goal.has_null-requires
has_null-requires c = λ k d h.
    let schema = c.args.format.now.schema.now in
    let keyed = (both (no_repeats nat_eq schema.key) (list_all (λ position. nat_lt position (length schema.columns)) schema.key)
    (both (no_repeats bytes_eq (map (λ (column : Column). column.name) schema.columns)) (no_repeats nat_eq schema.key && list_all (λ position. nat_lt position (length schema.columns)) schema.key) c.key.ensures.schema).1).1 in
    let written = c.cells_mut.ensures.written c.write_cells.new.cells c.write_cells.auto.cells in
    let fitted : length c.if-len-columns.row ≡ length schema.columns = elim c.if-len-columns.branch [
      | then-len-columns+in_ok-fit_row w ↦ ap length w.row-is ∙ w.in_ok-fit_row.ensures ∙ ap length c.columns-columns.ensures
      | else-len-columns w ↦ omega (arith, ap length w.row-is, c.len.ensures, w.if-len-columns.false, ap length c.columns-columns.ensures)
    ] in
    let size : length c.write_cells.new.cells ≡ length schema.columns = c.write_cells.auto.cells ∙ ap length c.cells_mut.ensures.value ∙ fitted in
    rw (written, size, c.key.ensures.positions) (in_key schema.key (length schema.columns) keyed k d (omega (arith, h, ap length c.key.ensures.positions)))

pub returns-then-not-is_whole : goal.returns-then-not-is_whole
returns-then-not-is_whole c =
    let given = c.args.byte_record.now in
    let fields = completed c.args.format.now.short (length c.args.format.now.header) given in
    let other : eqb (length fields) (length c.args.format.now.header) ≡ false = search (rules, c.if-not-is_whole.true, c.is_whole.ensures, c.places-places.ensures.value) in
    inr (other_count c.args.format.now.schema.now c.args.format.now.limits.now.bounds.text c.args.format.now.header c.args.number fields other)

pub write_cells-requires-clause-count : goal.write_cells-requires-clause-count
write_cells-requires-clause-count c =
    within c.args.format.now.short (length c.args.format.now.header) c.args.byte_record.now (rw c.places-places.ensures.value at (sym c.is_whole.ensures ∙ c.if-not-is_whole.false))

pub returns-then-has_null : goal.returns-then-has_null
returns-then-has_null c =
    let schema = c.args.format.now.schema.now in
    let given = c.args.byte_record.now in
    let count = length c.args.format.now.header in
    let fields = completed c.args.format.now.short count given in
    let whole = rw c.places-places.ensures.value at (sym c.is_whole.ensures ∙ c.if-not-is_whole.false) in
    let written = c.cells_mut.ensures.written c.write_cells.new.cells c.write_cells.auto.cells in
    let null : no_key schema.key c.write_cells.new.cells ≡ true = rw (← written, ← c.key.ensures.positions) (sym c.has_null.ensures ∙ c.if-has_null.true) in
    let cells = rw (as_completed c.args.format.now.short count given whole) at c.in_ok-write_cells.ensures in
    inr (null_key schema c.args.format.now.limits.now.bounds.text c.args.format.now.header c.args.number fields c.write_cells.new.cells whole cells null)
