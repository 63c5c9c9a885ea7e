use Rattle.std.proofs.Common.{◌≡◌, ◌++◌, ◌∙◌, List, ℕ, Some, append_assoc, ap, take, drop, sym, subst, arith}
use Rattle.gq_reply.specs.Bare.{records}
use Rattle.gq_reply.specs.Replies.{record_text, records_text}
use Rattle.gq_reply.specs.Sending.{Passes}
use Rattle.gq_reply.proofs.Bytes.{of_ok, passes_end, passes_more}
use Rattle.gq_reply.proofs.RowsLemmas.{block_left}
use Rattle.gq_reply.proofs.text.append_records.Goals as goal

pub returns : goal.returns
returns c =
    let rows = c.args.rows.now in
    let names = c.as_slice.result.now in
    let first = c.block_end-first.result in
    let head = record_text names in
    let block = records (take first rows) in
    let rest = records (drop first rows) in
    let P : List ℕ → Type 0 = λ l. Passes (Some l) (Some c.push_rows.new.writer.items) c.push_block.new.buffer c.push_rows.new.buffer rest in
    let all = passes_more _ _ _ _ _ _ (head ++ block) rest (passes_more _ _ _ _ _ _ head block c.in_ok-push_names.ensures.ok c.in_ok-push_block.ensures.ok) (subst P c.make_room.ensures c.in_ok-push_rows.ensures.ok) in
    let whole : records rows ≡ block ++ rest = block_left rows 0 0 first (omega arith) (omega arith) (omega (arith, c.block_end-first.ensures.within, c.len.ensures)) in
    let text : c.clear.new.self ++ ((head ++ block) ++ rest) ≡ records_text c.args.header.now rows =
    ap (λ b. b ++ ((head ++ block) ++ rest)) c.clear.ensures ∙ append_assoc head block rest ∙ ap (λ l. head ++ l) (sym whole) ∙ ap (λ h. record_text h ++ records rows) c.as_slice.ensures in
    of_ok _ _ c.empty.result (λ k. passes_end (Some c.args.text.now.items) (Some c.push_rows.new.writer.items) (Some c.empty.new.writer.items) c.clear.new.self c.push_rows.new.buffer ((head ++ block) ++ rest) all k ∙ ap (λ l. c.args.text.now.items ++ l) text) c.empty.ensures.ok
