use Rattle.std.proofs.Common.{◌≡◌, ◌∙◌, ◌<◌, ◌≤◌, [], All, length, get_or, Ok, true, sym, arith}
use Rattle.std.proofs.lemmas.Result.{err_from_is_err_and}
use Rattle.gq_load.specs.Fields.{value_of}
use Rattle.gq_load.specs.Headers.{are_all}
use Rattle.gq_load.specs.declared.short_records.Short.TheVariants.{Completed}
use Rattle.gq_load.specs.Payloads.{cells_of, completed, kind_at}
use Rattle.gq_load.proofs.Completing.{field_at_place, size}
use Rattle.gq_load.proofs.Filling.{once_all, one_bad, one_written, set_twice, no_more, from_any, kind_is}
use Rattle.gq_load.proofs.Onward.{carried}
use Rattle.gq_load.proofs.row.write_each.Goals.{then-not-write_plain+in_ok-write_value, else-not-write_plain}
use Rattle.gq_load.proofs.row.write_each.Goals as goal

pub returns-in_err-write_value : goal.returns-in_err-write_value
returns-in_err-write_value c =
    let text = c.args.format.now.limits.now.bounds.text in
    let columns = c.columns-columns.result.now in
    let places = c.places-places.result.now in
    let count : length c.args.byte_record.now ≤ length places = rw c.places-places.ensures.value c.requires.count in
    let within : All (λ place. place < length columns) places = rw (c.places-places.ensures.value, c.columns-columns.ensures, ← c.requires.whole) c.places-places.ensures.each.within in
    let p = err_from_is_err_and c.from_residual.result c.from_residual.ensures.1 in
    let e = c.in_err-write_value.field-0.0 in
    let given = c.args.byte_record.now in
    let fields = completed Completed (length places) given in
    let many = size (length places) given count in
    let place = get_or places c.loop-i.i 0 in
    let h : c.loop-i.i < length places = omega (arith, c.loop-i-test.true) in
    let k : c.loop-i.i < length fields = omega (arith, h, many) in
    let at : c.field_or_null-field.result.now ≡ get_or fields c.loop-i.i [] = c.field_or_null-field.ensures ∙ field_at_place (length places) c.loop-i.i given h in
    let kind = kind_is columns place c.index-columns-place.result (within c.loop-i.i 0 h) in
    rw (p.1, p.2, ← c.places-places.ensures.value, ← c.columns-columns.ensures) (carried e (value_of text c.args.number (get_or columns place c.index-columns-place.result).kind c.field_or_null-field.result.now) (cells_of text c.args.number columns places fields)
    (λ bad. sym c.loop-i.invariant.finishes ∙ one_bad text c.args.number columns places fields c.loop-i.cells c.loop-i.i e h k (rw (kind, ← at) bad))
    c.in_err-write_value.ensures)

pub loop-i-init : goal.loop-i-init
loop-i-init c =
    let text = c.args.format.now.limits.now.bounds.text in
    let columns = c.columns-columns.result.now in
    let places = c.places-places.result.now in
    let count : length c.args.byte_record.now ≤ length places = rw c.places-places.ensures.value c.requires.count in
    let within : All (λ place. place < length columns) places = rw (c.places-places.ensures.value, c.columns-columns.ensures, ← c.requires.whole) c.places-places.ensures.each.within in
    let all : are_all (length columns) places ≡ true = rw (c.places-places.ensures.value, c.columns-columns.ensures) (once_all c.args.format.now.schema.now.columns c.args.format.now.header c.places-places.ensures.each c.requires.whole) in
    let given = c.args.byte_record.now in
    let fields = completed Completed (length places) given in
    record {
      size = rw c.columns-columns.ensures c.requires.size;
      finishes = from_any text c.args.number columns places fields c.args.cells.now all within (size (length places) given count) (rw c.columns-columns.ensures c.requires.size);
    }

pub loop-i-preserved : goal.loop-i-preserved
loop-i-preserved c =
    let text = c.args.format.now.limits.now.bounds.text in
    let columns = c.columns-columns.result.now in
    let places = c.places-places.result.now in
    let count : length c.args.byte_record.now ≤ length places = rw c.places-places.ensures.value c.requires.count in
    let within : All (λ place. place < length columns) places = rw (c.places-places.ensures.value, c.columns-columns.ensures, ← c.requires.whole) c.places-places.ensures.each.within in
    let given = c.args.byte_record.now in
    let fields = completed Completed (length places) given in
    let many = size (length places) given count in
    let place = get_or places c.loop-i.i 0 in
    let h : c.loop-i.i < length places = omega (arith, c.loop-i-test.true) in
    let k : c.loop-i.i < length fields = omega (arith, h, many) in
    let at : c.field_or_null-field.result.now ≡ get_or fields c.loop-i.i [] = c.field_or_null-field.ensures ∙ field_at_place (length places) c.loop-i.i given h in
    let kind = kind_is columns place c.index-columns-place.result (within c.loop-i.i 0 h) in
    let all = cells_of text c.args.number columns places fields in
    elim c.if-not-write_plain.branch [
      | then-not-write_plain+in_ok-write_value w ↦
          let value = w.write_value.new.value in
          let now = w.cells-is ∙ set_twice c.loop-i.cells place c.write_plain.new.value value in
          let good : value_of text c.args.number (kind_at columns place) (get_or fields c.loop-i.i []) ≡ Ok value = rw (kind, ← at) w.in_ok-write_value.ensures in
          let done = one_written text c.args.number columns places fields c.loop-i.cells c.if-not-write_plain.cells c.loop-i.i value all now h k good c.loop-i.invariant.size c.loop-i.invariant.finishes in
          record { size = done.0; finishes = done.1 }
      | else-not-write_plain w ↦
          let value = c.write_plain.new.value in
          let good : value_of text c.args.number (kind_at columns place) (get_or fields c.loop-i.i []) ≡ Ok value = rw (kind, ← at) (c.write_plain.ensures w.if-not-write_plain.false c.args.number) in
          let done = one_written text c.args.number columns places fields c.loop-i.cells c.if-not-write_plain.cells c.loop-i.i value all w.cells-is h k good c.loop-i.invariant.size c.loop-i.invariant.finishes in
          record { size = done.0; finishes = done.1 }
    ]

pub returns : goal.returns
returns c =
    let text = c.args.format.now.limits.now.bounds.text in
    let columns = c.columns-columns.result.now in
    let places = c.places-places.result.now in
    rw (← c.places-places.ensures.value, ← c.columns-columns.ensures) (sym c.loop-i.invariant.finishes ∙ no_more text c.args.number columns places _ c.loop-i.cells c.loop-i.i (omega (arith, c.loop-i-test.false)))
