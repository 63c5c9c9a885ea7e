use Rattle.std.proofs.Common.{◌≡◌, ◌<◌, ◌≤◌, ◌+◌, ◌++◌, [], List, ℕ, drop, length, take, get_or, subst, arith}
use Rattle.gq_row.specs.declared.value.Value.{Value}
use Rattle.gq_reply.specs.Bare.{records, row_record}
use Rattle.gq_reply.specs.Sending.{AppendsPrefix, Passes}
use Rattle.gq_reply.proofs.Bytes.{cut_within, on_err, passes_more}
use Rattle.gq_reply.proofs.RowsLemmas.{one_more_record, records_left}
use Rattle.gq_reply.proofs.records.push_block.Goals as goal

pub returns-in_err-push_row-clause-err : goal.returns-in_err-push_row-clause-err
returns-in_err-push_row-clause-err g c =
    let i = c.loop-i.i in
    let rows = c.args.rows.now in
    let start = c.args.start in
    let end = c.args.end in
    let less : i < end = omega (arith, c.loop-i-test.true) in
    let low : start ≤ i = c.loop-i.auto.i in
    let row : c.row.result ≡ get_or rows i [] = c.row.ensures in
    let P : List Value → Type 0 = λ r. AppendsPrefix (g.W.Write.contents c.loop-i.writer) (g.W.Write.contents c.push_row.new.writer) (c.loop-i.buffer ++ row_record r) in
    on_err _ c.from_residual.result (cut_within _ _ _ _ _ (records (drop start (take i rows))) (row_record (get_or rows i [])) (records (drop (i + 1) (take end rows))) (records (drop start (take end rows)))
    c.loop-i.invariant (subst P row c.in_err-push_row.ensures.err) (records_left rows start i end low less (omega (arith, c.requires.within))))

pub loop-i-preserved : goal.loop-i-preserved
loop-i-preserved g c =
    let i = c.loop-i.i in
    let rows = c.args.rows.now in
    let start = c.args.start in
    let less : i < length rows = omega (arith, c.loop-i-test.true, c.requires.within) in
    let row : c.row.result ≡ get_or rows i [] = c.row.ensures in
    let P : List Value → Type 0 = λ r. Passes (g.W.Write.contents c.loop-i.writer) (g.W.Write.contents c.push_row.new.writer) c.loop-i.buffer c.push_row.new.buffer (row_record r) in
    let Q : List ℕ → Type 0 = λ l. Passes (g.W.Write.contents c.args.writer.now) (g.W.Write.contents c.push_row.new.writer) c.args.buffer.now c.push_row.new.buffer l in
    subst Q (one_more_record rows start i c.loop-i.auto.i less) (passes_more _ _ _ _ _ _ _ _ c.loop-i.invariant (subst P row c.in_ok-push_row.ensures.ok))
