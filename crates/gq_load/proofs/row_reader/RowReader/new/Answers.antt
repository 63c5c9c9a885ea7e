use Rattle.std.proofs.Common.{length}
use Rattle.std.proofs.lemmas.Result.{err_from_is_err_and}
use Rattle.gq_load.specs.Coming.{data_left}
use Rattle.gq_load.proofs.Left.{loaded_faulty, loaded_rows}
use Rattle.gq_load.proofs.row_reader.RowReader.new.Goals as goal

pub returns-in_err-header-clause-fault : goal.returns-in_err-header-clause-fault
returns-in_err-header-clause-fault g c =
    let bounds = c.args.limits.now.bounds in
    let p = err_from_is_err_and c.from_residual-in_err-header.result c.from_residual-in_err-header.ensures.1 in
    rw (p.1, p.2) (loaded_faulty c.args.short c.args.schema.now bounds (g.R.Read.remaining c.args.payload) c.in_ok-reader.reader.rest c.in_err-header.field-0.0 c.in_ok-reader.ensures.rest (c.in_err-header.ensures.fault c.args.short bounds))

pub returns-clause-rows : goal.returns-clause-rows
returns-clause-rows g c =
    let bounds = c.args.limits.now.bounds in
    loaded_rows c.args.short c.args.schema.now bounds (g.R.Read.remaining c.args.payload) c.in_ok-reader.reader.rest (data_left c.args.short (length c.in_ok-header.header) c.read_header.new.reader.rest) c.in_ok-header.header
    c.in_ok-reader.ensures.rest (c.in_ok-header.ensures.opened c.args.short bounds)
