use Rattle.gq_csv.proofs.ScanLemmas.{none_taken, record_taken}
use Rattle.gq_csv.proofs.reader.take_record.Goals as goal

pub returns-in-Record-clause-found : goal.returns-in-Record-clause-found
returns-in-Record-clause-found g c =
    let mid = c.skip_line_ends.new.input in
    let e = c.take.ensures in
    let found = rw (c.ahead.ensures, c.in-Record.is) at c.in_ok-found.ensures.scanned in
    record_taken c.args.input.now mid c.skip_line_ends.ensures.ahead c.skip_line_ends.ensures.after c.take.new.self c.scan_record.new.spans.items c.in-Record.len e.taken e.ahead e.after found

pub returns-in_default-clause-found : goal.returns-in_default-clause-found
returns-in_default-clause-found g c =
    none_taken c.args.input.now c.skip_line_ends.new.input c.skip_line_ends.ensures.ahead c.skip_line_ends.ensures.after c.in_ok-found.found c.scan_record.new.spans.items c.in_default.not-Record
