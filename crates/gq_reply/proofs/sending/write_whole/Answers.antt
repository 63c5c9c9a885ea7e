use Rattle.std.proofs.Common.{arith}
use Rattle.gq_reply.proofs.Bytes.{wrote_more, prefix_more, prefix_kept}
use Rattle.gq_reply.proofs.sending.write_whole.Goals as goal

pub returns-in-Ok-eq0-clause-err : goal.returns-in-Ok-eq0-clause-err
returns-in-Ok-eq0-clause-err g c = prefix_more _ _ _ c.args.bytes.now _ c.loop-at.at c.in-Ok-eq0.field-0 c.split_at.ensures.back c.loop-at.invariant.written c.in-Ok-eq0.ensures.bytes

pub loop-at-preserved : goal.loop-at-preserved
loop-at-preserved g c = record {
  within = omega (arith, c.in-Ok.ensures.bound, c.split_at.ensures.back_len);
  written = wrote_more _ _ _ c.args.bytes.now _ c.loop-at.at c.in-Ok.n c.split_at.ensures.back c.loop-at.invariant.written c.in-Ok.ensures.bytes;
}

pub returns-in-Err-clause-err : goal.returns-in-Err-clause-err
returns-in-Err-clause-err g c = prefix_kept _ _ _ c.args.bytes.now c.loop-at.at c.loop-at.invariant.written c.in-Err.ensures.bytes
