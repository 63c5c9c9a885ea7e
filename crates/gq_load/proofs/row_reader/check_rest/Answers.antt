use Rattle.std.proofs.Common.{◌≡◌, length, ◌+◌, inl, inr, List, ℕ, None, Some}
use Rattle.std.proofs.lemmas.Result.{err_from_is_err_and}
use Rattle.gq_load.specs.Payloads.{completed, rows_from}
use Rattle.gq_load.specs.Coming.{data_left, fault_of}
use Rattle.gq_load.proofs.Left.{bad_fault, end_fault, more_fault, took_as_read}
use Rattle.gq_load.proofs.Onward.{same_through, so_of_all}
use Rattle.gq_load.proofs.row_reader.check_rest.Goals as goal

pub returns-then-not-branch-clause-none : goal.returns-then-not-branch-clause-none
returns-then-not-branch-clause-none g c =
    let schema = c.args.format.now.schema.now in
    let longest = c.args.format.now.limits.now.bounds.text in
    let places = c.args.format.now.header in
    let left = data_left c.args.format.now.short (length c.args.format.now.header) c.loop-last.reader.rest in
    let none = end_fault schema longest places (c.loop-last.last + 1) left (data_left c.args.format.now.short (length c.args.format.now.header) c.read_next.new.reader.rest) c.in_ok-read_next.field-0 (completed c.args.format.now.short (length c.args.format.now.header) c.read_next.new.reader.fields) c.if-not-branch.true (took_as_read c.args.format.now.short (length c.args.format.now.header) c.loop-last.reader.rest c.read_next.new.reader.rest c.in_ok-read_next.field-0 c.read_next.new.reader.fields c.in_ok-read_next.ensures.took) in
    so_of_all (data_left c.args.format.now.short (length c.args.format.now.header) c.args.reader.now.rest) left (λ (records : List (List (List ℕ))). fault_of (rows_from schema longest places (c.loop-last.last + 1) records)) (λ (records : List (List (List ℕ))). fault_of (rows_from schema longest places (c.args.number + 1) records)) (λ fault. fault ≡ None) c.loop-last.invariant none

pub returns-in_err-write_row-clause-fault : goal.returns-in_err-write_row-clause-fault
returns-in_err-write_row-clause-fault g c =
    let schema = c.args.format.now.schema.now in
    let longest = c.args.format.now.limits.now.bounds.text in
    let places = c.args.format.now.header in
    let left = data_left c.args.format.now.short (length c.args.format.now.header) c.loop-last.reader.rest in
    let fields = completed c.args.format.now.short (length c.args.format.now.header) c.read_next.new.reader.fields in
    let p = err_from_is_err_and c.from_residual-in_err-write_row.result c.from_residual-in_err-write_row.ensures.1 in
    let e = c.in_err-write_row.field-0.0 in
    rw (p.1, p.2) (elim c.in_err-write_row.ensures [
      | inl m ↦ inl m
      | inr bad ↦ inr (so_of_all (data_left c.args.format.now.short (length c.args.format.now.header) c.args.reader.now.rest) left (λ (records : List (List (List ℕ))). fault_of (rows_from schema longest places (c.loop-last.last + 1) records)) (λ (records : List (List (List ℕ))). fault_of (rows_from schema longest places (c.args.number + 1) records)) (λ fault. fault ≡ Some e) c.loop-last.invariant
          (bad_fault schema longest places (c.loop-last.last + 1) fields c.in_ok-read_next.field-0 c.if-not-branch.false left (data_left c.args.format.now.short (length c.args.format.now.header) c.read_next.new.reader.rest) e (took_as_read c.args.format.now.short (length c.args.format.now.header) c.loop-last.reader.rest c.read_next.new.reader.rest c.in_ok-read_next.field-0 c.read_next.new.reader.fields c.in_ok-read_next.ensures.took) (rw c.record.ensures at bad)))
    ])

pub loop-last-preserved : goal.loop-last-preserved
loop-last-preserved g c =
    let schema = c.args.format.now.schema.now in
    let longest = c.args.format.now.limits.now.bounds.text in
    let places = c.args.format.now.header in
    let left = data_left c.args.format.now.short (length c.args.format.now.header) c.loop-last.reader.rest in
    let rest = data_left c.args.format.now.short (length c.args.format.now.header) c.read_next.new.reader.rest in
    let fields = completed c.args.format.now.short (length c.args.format.now.header) c.read_next.new.reader.fields in
    same_through (data_left c.args.format.now.short (length c.args.format.now.header) c.args.reader.now.rest) left (λ (records : List (List (List ℕ))). fault_of (rows_from schema longest places (c.loop-last.last + 1) records)) (λ (records : List (List (List ℕ))). fault_of (rows_from schema longest places (c.args.number + 1) records)) _ c.loop-last.invariant
    (more_fault schema longest places (c.loop-last.last + 1) fields c.in_ok-read_next.field-0 c.if-not-branch.false c.write_row.new.row (rw c.record.ensures at c.in_ok-write_row.ensures) left rest (took_as_read c.args.format.now.short (length c.args.format.now.header) c.loop-last.reader.rest c.read_next.new.reader.rest c.in_ok-read_next.field-0 c.read_next.new.reader.fields c.in_ok-read_next.ensures.took))
