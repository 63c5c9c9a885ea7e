use Rattle.std.proofs.Common.{◌++◌, List, ℕ, subst}
use Rattle.gq_reply.specs.Bare.{records}
use Rattle.gq_reply.specs.Replies.{record_text, records_text}
use Rattle.gq_reply.specs.Sending.{AppendsPrefix}
use Rattle.gq_reply.proofs.Bytes.{appends_kept, end_cut, on_err, passes_cut, passes_end, passes_more, prefix_longer, whole_prefix}
use Rattle.gq_reply.proofs.records.send_records.Goals as goal

pub returns-in_err-push_names-clause-err : goal.returns-in_err-push_names-clause-err
returns-in_err-push_names-clause-err g c =
    let Q : List (List ℕ) → Type 0 = λ h. AppendsPrefix (g.W.Write.contents c.args.writer.now) (g.W.Write.contents c.push_names.new.writer) (records_text h c.args.rows.now) in
    let P : List ℕ → Type 0 = λ b. AppendsPrefix (g.W.Write.contents c.args.writer.now) (g.W.Write.contents c.push_names.new.writer) (b ++ record_text c.as_slice.result.now) in
    on_err _ c.from_residual.result (subst Q c.as_slice.ensures (prefix_longer _ _ (record_text c.as_slice.result.now) (records c.args.rows.now) (subst P c.clear.ensures c.in_err-push_names.ensures.err)))

pub returns-in_err-push_rows-clause-err : goal.returns-in_err-push_rows-clause-err
returns-in_err-push_rows-clause-err g c =
    let Q : List (List ℕ) → Type 0 = λ h. AppendsPrefix (g.W.Write.contents c.args.writer.now) (g.W.Write.contents c.push_rows.new.writer) (records_text h c.args.rows.now) in
    let P : List ℕ → Type 0 = λ b. AppendsPrefix (g.W.Write.contents c.args.writer.now) (g.W.Write.contents c.push_rows.new.writer) (b ++ records_text c.as_slice.result.now c.args.rows.now) in
    on_err _ c.from_residual-in_err-push_rows.result (subst Q c.as_slice.ensures (subst P c.clear.ensures (passes_cut _ _ _ _ _ (record_text c.as_slice.result.now) (records c.args.rows.now) c.in_ok-push_names.ensures.ok c.in_err-push_rows.ensures.err)))

pub returns-in_err-empty-clause-err : goal.returns-in_err-empty-clause-err
returns-in_err-empty-clause-err g c =
    let Q : List (List ℕ) → Type 0 = λ h. AppendsPrefix (g.W.Write.contents c.args.writer.now) (g.W.Write.contents c.empty.new.writer) (records_text h c.args.rows.now) in
    let P : List ℕ → Type 0 = λ b. AppendsPrefix (g.W.Write.contents c.args.writer.now) (g.W.Write.contents c.empty.new.writer) (b ++ records_text c.as_slice.result.now c.args.rows.now) in
    on_err _ c.from_residual-in_err-empty.result (subst Q c.as_slice.ensures (subst P c.clear.ensures
    (end_cut _ _ _ _ _ (records_text c.as_slice.result.now c.args.rows.now) (passes_more _ _ _ _ _ _ (record_text c.as_slice.result.now) (records c.args.rows.now) c.in_ok-push_names.ensures.ok c.in_ok-push_rows.ensures.ok) c.in_err-empty.ensures.err)))

pub returns-clause-err : goal.returns-clause-err
returns-clause-err g c =
    let Q : List (List ℕ) → Type 0 = λ h. AppendsPrefix (g.W.Write.contents c.args.writer.now) (g.W.Write.contents c.flush.new.writer) (records_text h c.args.rows.now) in
    let P : List ℕ → Type 0 = λ b. AppendsPrefix (g.W.Write.contents c.args.writer.now) (g.W.Write.contents c.flush.new.writer) (b ++ records_text c.as_slice.result.now c.args.rows.now) in
    on_err _ c.flush.result (subst Q c.as_slice.ensures (subst P c.clear.ensures (whole_prefix _ _ _ (appends_kept _ _ _ _
    (passes_end _ _ _ _ _ (records_text c.as_slice.result.now c.args.rows.now) (passes_more _ _ _ _ _ _ (record_text c.as_slice.result.now) (records c.args.rows.now) c.in_ok-push_names.ensures.ok c.in_ok-push_rows.ensures.ok) c.in_ok-empty.ensures.ok) c.flush.ensures)))
    )
