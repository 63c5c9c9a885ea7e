use Rattle.std.proofs.Common.{List, ℕ, subst, sym}
use Rattle.gq_reply.specs.Sending.{Passes}
use Rattle.gq_reply.proofs.Bytes.{of_err, of_ok, passes_both, prefix_after}
use Rattle.gq_reply.proofs.buffer.Buffer.push_over.Goals as goal

pub returns-then-bytes-gt-CAPACITY-clause-ok : goal.returns-then-bytes-gt-CAPACITY-clause-ok
returns-then-bytes-gt-CAPACITY-clause-ok g c =
    let start = g.W.Write.contents c.args.writer.now in
    let end = g.W.Write.contents c.write_whole.new.writer in
    let P : List ℕ → Type 0 = λ q. Passes start end c.args.self.now q c.args.bytes.now in
    of_ok _ _ c.write_whole.result (λ k. subst P (sym c.in_ok-empty.ensures.empty) (passes_both start (g.W.Write.contents c.empty.new.writer) end c.args.self.now c.args.bytes.now c.in_ok-empty.ensures.ok k)) c.write_whole.ensures.ok

pub returns-then-bytes-gt-CAPACITY-clause-err : goal.returns-then-bytes-gt-CAPACITY-clause-err
returns-then-bytes-gt-CAPACITY-clause-err g c =
    of_err _ _ c.write_whole.result (λ k. prefix_after (g.W.Write.contents c.args.writer.now) (g.W.Write.contents c.empty.new.writer) (g.W.Write.contents c.write_whole.new.writer) c.args.self.now c.args.bytes.now c.in_ok-empty.ensures.ok k) c.write_whole.ensures.err
