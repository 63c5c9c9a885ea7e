use Rattle.std.proofs.Common.{◌≡◌, ◌<◌, ◌++◌, ◌∙◌, [], List, ℕ, get_or, length, map, take, sym, ap, subst, arith}
use Rattle.std.proofs.lemmas.List.{length-map, take_all}
use Rattle.csv.specs.Writing.{default_writer, field_text, is_blank, next_sep, row_body}
use Rattle.csv.proofs.WriteFacts.{row-step}
use Rattle.gq_cells.specs.Cells.{value_of}
use Rattle.gq_reply.specs.Bare.{ending, row_record}
use Rattle.gq_reply.specs.Replies.{cell_text}
use Rattle.gq_reply.specs.Sending.{AppendsPrefix, Passes}
use Rattle.gq_reply.proofs.Bytes.{cut_within, of_err, of_ok, on_err, passes_cut, passes_more}
use Rattle.gq_reply.proofs.RecordLemmas.{cell_field, record_parts, rest_after}
use Rattle.gq_reply.proofs.records.push_cells.Goals as goal

pub returns-in_err-push_cell-clause-err : goal.returns-in_err-push_cell-clause-err
returns-in_err-push_cell-clause-err g c =
    let i = c.loop-column.column in
    let row = c.args.row.now in
    let fields = map cell_text row in
    let less : i < length row = omega (arith, c.loop-column-test.true, c.len-column-end.ensures, c.loop-column.auto.column-end) in
    let within : i < length fields = omega (arith, less, length-map row cell_text) in
    let P : List ℕ → Type 0 = λ f. AppendsPrefix (g.W.Write.contents c.loop-column.writer) (g.W.Write.contents c.push_cell.new.writer) (c.loop-column.buffer ++ (next_sep default_writer i ++ field_text default_writer f)) in
    let field : cell_text (value_of c.cell.result) ≡ get_or fields i [] = ap cell_text c.cell.ensures ∙ sym (cell_field row i less) in
    on_err _ c.from_residual.result (cut_within _ _ _ _ _ (row_body default_writer (take i fields)) (next_sep default_writer i ++ field_text default_writer (get_or fields i [])) (rest_after i fields) (row_record row)
    c.loop-column.invariant (subst P field c.in_err-push_cell.ensures.err) (record_parts fields i within))

pub loop-column-preserved : goal.loop-column-preserved
loop-column-preserved g c =
    let i = c.loop-column.column in
    let row = c.args.row.now in
    let fields = map cell_text row in
    let less : i < length row = omega (arith, c.loop-column-test.true, c.len-column-end.ensures, c.loop-column.auto.column-end) in
    let within : i < length fields = omega (arith, less, length-map row cell_text) in
    let P : List ℕ → Type 0 = λ f. Passes (g.W.Write.contents c.loop-column.writer) (g.W.Write.contents c.push_cell.new.writer) c.loop-column.buffer c.push_cell.new.buffer (next_sep default_writer i ++ field_text default_writer f) in
    let field : cell_text (value_of c.cell.result) ≡ get_or fields i [] = ap cell_text c.cell.ensures ∙ sym (cell_field row i less) in
    let Q : List ℕ → Type 0 = λ l. Passes (g.W.Write.contents c.args.writer.now) (g.W.Write.contents c.push_cell.new.writer) c.args.buffer.now c.push_cell.new.buffer l in
    subst Q (sym (row-step default_writer fields i within)) (passes_more _ _ _ _ _ _ _ _ c.loop-column.invariant (subst P field c.in_ok-push_cell.ensures.ok))

pub returns-clause-ok : goal.returns-clause-ok
returns-clause-ok g c =
    let row = c.args.row.now in
    let fields = map cell_text row in
    let all : take c.loop-column.column fields ≡ fields = take_all c.loop-column.column fields (omega (arith, c.loop-column-test.false, c.len-column-end.ensures, length-map row cell_text)) in
    let P : List (List ℕ) → Type 0 = λ l. Passes (g.W.Write.contents c.args.writer.now) (g.W.Write.contents c.loop-column.writer) c.args.buffer.now c.loop-column.buffer (row_body default_writer l) in
    let Q : List ℕ → Type 0 = λ l. Passes (g.W.Write.contents c.loop-column.writer) (g.W.Write.contents c.push_end.new.writer) c.loop-column.buffer c.push_end.new.buffer l in
    of_ok _ _ c.push_end.result (λ k. passes_more _ _ _ _ _ _ (row_body default_writer fields) (ending (is_blank default_writer fields)) (subst P all c.loop-column.invariant) (subst Q (ap ending c.is_blank_row.ensures) k)) c.push_end.ensures.ok

pub returns-clause-err : goal.returns-clause-err
returns-clause-err g c =
    let row = c.args.row.now in
    let fields = map cell_text row in
    let all : take c.loop-column.column fields ≡ fields = take_all c.loop-column.column fields (omega (arith, c.loop-column-test.false, c.len-column-end.ensures, length-map row cell_text)) in
    let P : List (List ℕ) → Type 0 = λ l. Passes (g.W.Write.contents c.args.writer.now) (g.W.Write.contents c.loop-column.writer) c.args.buffer.now c.loop-column.buffer (row_body default_writer l) in
    let Q : List ℕ → Type 0 = λ l. AppendsPrefix (g.W.Write.contents c.loop-column.writer) (g.W.Write.contents c.push_end.new.writer) (c.loop-column.buffer ++ l) in
    of_err _ _ c.push_end.result (λ k. passes_cut _ _ _ _ _ (row_body default_writer fields) (ending (is_blank default_writer fields)) (subst P all c.loop-column.invariant) (subst Q (ap ending c.is_blank_row.ensures) k)) c.push_end.ensures.err
