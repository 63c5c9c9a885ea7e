use Rattle.std.proofs.Common.{◌≡◌, length, ◌+◌, ◌-◌, inl, inr, Ok, arith}
use Rattle.std.proofs.lemmas.Result.{err_from_is_err_and}
use Rattle.gq_load.specs.Payloads.{completed, row_of}
use Rattle.gq_load.specs.Coming.{data_left}
use Rattle.gq_load.proofs.Fits.{row_fit}
use Rattle.gq_load.proofs.Left.{bad_left, end_left, late_left, more_left, over_left, took_as_read}
use Rattle.gq_load.proofs.Onward.{told_too}
use Rattle.gq_load.proofs.row_reader.next_row.Goals as goal

pub returns-then-not-branch : goal.returns-then-not-branch
returns-then-not-branch g c =
    let bounds = c.args.format.now.limits.now.bounds in
    let given = c.args.given in
    end_left c.args.format.now.schema.now bounds.text c.args.format.now.header (given + 1) (bounds.rows - given) (data_left c.args.format.now.short (length c.args.format.now.header) c.args.reader.now.rest) (data_left c.args.format.now.short (length c.args.format.now.header) c.read_next.new.reader.rest)
    c.in_ok-read_next.field-0 (completed c.args.format.now.short (length c.args.format.now.header) c.read_next.new.reader.fields) c.if-not-branch.true (took_as_read c.args.format.now.short (length c.args.format.now.header) c.args.reader.now.rest c.read_next.new.reader.rest c.in_ok-read_next.field-0 c.read_next.new.reader.fields c.in_ok-read_next.ensures.took)

pub returns-in_err-write_row : goal.returns-in_err-write_row
returns-in_err-write_row g c =
    let schema = c.args.format.now.schema.now in
    let bounds = c.args.format.now.limits.now.bounds in
    let places = c.args.format.now.header in
    let given = c.args.given in
    let fields = completed c.args.format.now.short (length c.args.format.now.header) c.read_next.new.reader.fields in
    let number : c.in-Some.number ≡ given + 1 = omega (arith, c.in-Some.ensures) in
    let p = err_from_is_err_and c.from_residual-in_err-write_row.result c.from_residual-in_err-write_row.ensures.1 in
    let e = c.in_err-write_row.field-0.0 in
    rw (p.1, p.2) (elim c.in_err-write_row.ensures [
      | inl m ↦ inl m
      | inr bad ↦ inr (bad_left schema bounds.text places (given + 1) fields c.in_ok-read_next.field-0 c.if-not-branch.false (bounds.rows - given) (data_left c.args.format.now.short (length c.args.format.now.header) c.args.reader.now.rest) (data_left c.args.format.now.short (length c.args.format.now.header) c.read_next.new.reader.rest) e (took_as_read c.args.format.now.short (length c.args.format.now.header) c.args.reader.now.rest c.read_next.new.reader.rest c.in_ok-read_next.field-0 c.read_next.new.reader.fields c.in_ok-read_next.ensures.took) (rw (← number, ← c.record.ensures) bad))
    ])

pub returns-in_err-check_rest : goal.returns-in_err-check_rest
returns-in_err-check_rest g c =
    let schema = c.args.format.now.schema.now in
    let bounds = c.args.format.now.limits.now.bounds in
    let places = c.args.format.now.header in
    let given = c.args.given in
    let most = bounds.rows - given in
    let fields = completed c.args.format.now.short (length c.args.format.now.header) c.read_next.new.reader.fields in
    let left = data_left c.args.format.now.short (length c.args.format.now.header) c.args.reader.now.rest in
    let rest = data_left c.args.format.now.short (length c.args.format.now.header) c.read_next.new.reader.rest in
    let number : c.in-Some.number ≡ given + 1 = omega (arith, c.in-Some.ensures) in
    let row = c.write_row.new.row in
    let good : row_of schema bounds.text places (given + 1) fields ≡ Ok row = rw (← number, ← c.record.ensures) c.in_ok-write_row.ensures in
    let spent : most ≡ 0 = omega (arith, number, c.if-number-format.true) in
    let p = err_from_is_err_and c.from_residual-in_err-check_rest.result c.from_residual-in_err-check_rest.ensures.1 in
    let e = c.in_err-check_rest.field-0.0 in
    rw (p.1, p.2) (told_too e (λ why some. late_left schema bounds.text places (given + 1) fields c.in_ok-read_next.field-0 c.if-not-branch.false row good most spent left rest why (took_as_read c.args.format.now.short (length c.args.format.now.header) c.args.reader.now.rest c.read_next.new.reader.rest c.in_ok-read_next.field-0 c.read_next.new.reader.fields c.in_ok-read_next.ensures.took) (rw (← number) some)) c.in_err-check_rest.ensures.fault)

pub returns-then-number-format : goal.returns-then-number-format
returns-then-number-format g c =
    let schema = c.args.format.now.schema.now in
    let bounds = c.args.format.now.limits.now.bounds in
    let places = c.args.format.now.header in
    let given = c.args.given in
    let most = bounds.rows - given in
    let fields = completed c.args.format.now.short (length c.args.format.now.header) c.read_next.new.reader.fields in
    let left = data_left c.args.format.now.short (length c.args.format.now.header) c.args.reader.now.rest in
    let rest = data_left c.args.format.now.short (length c.args.format.now.header) c.read_next.new.reader.rest in
    let number : c.in-Some.number ≡ given + 1 = omega (arith, c.in-Some.ensures) in
    let row = c.write_row.new.row in
    let good : row_of schema bounds.text places (given + 1) fields ≡ Ok row = rw (← number, ← c.record.ensures) c.in_ok-write_row.ensures in
    let spent : most ≡ 0 = omega (arith, number, c.if-number-format.true) in
    inr (over_left schema bounds.text places (given + 1) fields c.in_ok-read_next.field-0 c.if-not-branch.false row good most spent left rest (took_as_read c.args.format.now.short (length c.args.format.now.header) c.args.reader.now.rest c.read_next.new.reader.rest c.in_ok-read_next.field-0 c.read_next.new.reader.fields c.in_ok-read_next.ensures.took) (rw (← number) c.in_ok-check_rest.ensures.none))

pub returns : goal.returns
returns g c =
    let schema = c.args.format.now.schema.now in
    let bounds = c.args.format.now.limits.now.bounds in
    let places = c.args.format.now.header in
    let given = c.args.given in
    let most = bounds.rows - given in
    let fields = completed c.args.format.now.short (length c.args.format.now.header) c.read_next.new.reader.fields in
    let left = data_left c.args.format.now.short (length c.args.format.now.header) c.args.reader.now.rest in
    let rest = data_left c.args.format.now.short (length c.args.format.now.header) c.read_next.new.reader.rest in
    let number : c.in-Some.number ≡ given + 1 = omega (arith, c.in-Some.ensures) in
    let row = c.write_row.new.row in
    let good : row_of schema bounds.text places (given + 1) fields ≡ Ok row = rw (← number, ← c.record.ensures) c.in_ok-write_row.ensures in
    let fewer = bounds.rows - (given + 1) in
    let one_less : most ≡ fewer + 1 = omega (arith, number, c.if-number-format.false) in
    let fit = row_fit schema bounds.text places (given + 1) fields row good in
    record {
      left = more_left schema bounds.text places (given + 1) fields c.in_ok-read_next.field-0 c.if-not-branch.false row good most fewer one_less left rest (took_as_read c.args.format.now.short (length c.args.format.now.header) c.args.reader.now.rest c.read_next.new.reader.rest c.in_ok-read_next.field-0 c.read_next.new.reader.fields c.in_ok-read_next.ensures.took);
      fits = fit.fitting;
      keyed = fit.keyed;
      under = omega (arith, number, c.if-number-format.false);
    }
