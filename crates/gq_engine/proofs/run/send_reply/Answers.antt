use Rattle.std.proofs.Common.{List, ℕ, subst}
use Rattle.gq_reply.specs.Sending.{AppendsPrefix}
use Rattle.gq_reply.proofs.Bytes.{of_err, on_err}
use Rattle.gq_engine.proofs.OutputLemmas.{result_cut, result_prefix}
use Rattle.gq_engine.proofs.run.send_reply.Goals as goal

pub returns-in_err-send_between-in-Some-clause-err : goal.returns-in_err-send_between-in-Some-clause-err
returns-in_err-send_between-in-Some-clause-err g c =
    let made = rw c.in-Some.is at c.requires.made in
    on_err _ c.from_residual.result (result_prefix c.args.output c.args.earlier c.args.reply.now (g.W.Write.contents c.args.writer.now) (g.W.Write.contents c.send_between.new.writer) c.in-Some.text.items made c.in_err-send_between-in-Some.ensures.err)

pub returns-in_ok-send_between-in-Some-clause-err : goal.returns-in_ok-send_between-in-Some-clause-err
returns-in_ok-send_between-in-Some-clause-err g c =
    let made = rw c.in-Some.is at c.requires.made in
    let P : List ℕ → Type 0 = λ l. AppendsPrefix (g.W.Write.contents c.send_between.new.writer) (g.W.Write.contents c.send.new.writer) l in
    of_err _ _ c.send.result (λ k. result_cut c.args.output c.args.earlier c.args.reply.now (g.W.Write.contents c.args.writer.now) (g.W.Write.contents c.send_between.new.writer) (g.W.Write.contents c.send.new.writer) c.in-Some.text.items made c.in_ok-send_between-in-Some.ensures.ok (subst P c.as_slice.ensures.value k)) c.send.ensures.err
