use Rattle.std.proofs.Common.{refl}
use Rattle.gq_reply.specs.Replies.{records_text}
use Rattle.gq_reply.proofs.Bytes.{of_err, on_err}
use Rattle.gq_engine.specs.Outputs.{IsResultIn}
use Rattle.gq_engine.proofs.OutputLemmas.{result_cut, result_prefix}
use Rattle.gq_engine.proofs.output.send_direct.Goals as goal

pub returns-in_err-send_between-in-Rows-clause-err : goal.returns-in_err-send_between-in-Rows-clause-err
returns-in_err-send_between-in-Rows-clause-err g c =
    let csv = rw c.in-Rows.is at c.requires in
    let made : IsResultIn c.args.output c.args.reply.now (records_text c.in-Rows.header c.in-Rows.rows) = rw (c.in-Rows.is, csv) refl in
    on_err _ c.from_residual.result (result_prefix c.args.output c.args.earlier c.args.reply.now (g.W.Write.contents c.args.writer.now) (g.W.Write.contents c.send_between.new.writer) (records_text c.in-Rows.header c.in-Rows.rows) made c.in_err-send_between-in-Rows.ensures.err)

pub returns-in_ok-send_between-in-Rows-clause-err : goal.returns-in_ok-send_between-in-Rows-clause-err
returns-in_ok-send_between-in-Rows-clause-err g c =
    let csv = rw c.in-Rows.is at c.requires in
    let made : IsResultIn c.args.output c.args.reply.now (records_text c.in-Rows.header c.in-Rows.rows) = rw (c.in-Rows.is, csv) refl in
    of_err _ _ c.send_records.result (λ k. result_cut c.args.output c.args.earlier c.args.reply.now (g.W.Write.contents c.args.writer.now) (g.W.Write.contents c.send_between.new.writer) (g.W.Write.contents c.send_records.new.writer) (records_text c.in-Rows.header c.in-Rows.rows) made c.in_ok-send_between-in-Rows.ensures.ok k) c.send_records.ensures.err
