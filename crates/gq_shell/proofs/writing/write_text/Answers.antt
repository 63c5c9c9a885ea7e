use Rattle.std.proofs.Common.{arith, subst, ℕ, List}
use Rattle.gq_reply.specs.Sending.{AppendsPrefix}
use Rattle.gq_reply.proofs.Bytes.{wrote_more, prefix_kept}
use Rattle.gq_shell.proofs.writing.write_text.Goals as goal

pub loop-at-preserved : goal.loop-at-preserved
loop-at-preserved g c = record {
  within = omega (arith, c.in-Ok.ensures.bound, c.split_at.ensures.back_len);
  written = wrote_more _ _ _ c.as_bytes-bytes.result.now _ c.loop-at.at c.in-Ok.n c.split_at.ensures.back c.loop-at.invariant.written c.in-Ok.ensures.bytes;
}

pub returns-in-Err-flush : goal.returns-in-Err-flush
returns-in-Err-flush g c =
    let P : List ℕ → Type 0 = λ l. AppendsPrefix (g.W.Write.contents c.args.writer.now) (g.W.Write.contents c.flush.new.self) l in
    subst P c.as_bytes-bytes.ensures.value
    (prefix_kept _ _ _ _ c.loop-at.at c.loop-at.invariant.written c.in-Err-flush.ensures.bytes)
