use Rattle.std.proofs.Common.{◌≤◌, List, ℕ, drop, length, take, subst, arith}
use Rattle.gq_reply.specs.Bare.{records}
use Rattle.gq_reply.specs.Sending.{Passes}
use Rattle.gq_reply.proofs.Bytes.{cut_within, on_err, passes_more}
use Rattle.gq_reply.proofs.RowsLemmas.{block_left, one_more_block}
use Rattle.gq_reply.proofs.records.push_rows.Goals as goal

pub returns-in_err-push_block-clause-err : goal.returns-in_err-push_block-clause-err
returns-in_err-push_block-clause-err g c =
    let rows = c.args.rows.now in
    let at = c.loop-at.at in
    let end = c.block_end-end.result in
    on_err _ c.from_residual.result (cut_within _ _ _ _ _ (records (drop c.args.from (take at rows))) (records (drop at (take end rows))) (records (drop end rows)) (records (drop c.args.from rows))
    c.loop-at.invariant.written c.in_err-push_block.ensures.err (block_left rows c.args.from at end c.loop-at.invariant.low c.block_end-end.ensures.order (omega (arith, c.block_end-end.ensures.within, c.len-in-loop-at.ensures))))

pub loop-at-preserved : goal.loop-at-preserved
loop-at-preserved g c =
    let rows = c.args.rows.now in
    let at = c.loop-at.at in
    let end = c.block_end-end.result in
    let high : end ≤ length rows = omega (arith, c.block_end-end.ensures.within, c.len-in-loop-at.ensures) in
    let Q : List ℕ → Type 0 = λ l. Passes (g.W.Write.contents c.args.writer.now) (g.W.Write.contents c.push_block.new.writer) c.args.buffer.now c.push_block.new.buffer l in
    record {
      low = omega (arith, c.loop-at.invariant.low, c.block_end-end.ensures.order);
      high = high;
      written = subst Q (one_more_block rows c.args.from at end c.loop-at.invariant.low c.block_end-end.ensures.order high) (passes_more _ _ _ _ _ _ _ _ c.loop-at.invariant.written c.in_ok-push_block.ensures.ok);
    }
