use Rattle.std.proofs.Common.{◌≡◌, ◌<◌, ◌++◌, ◌∙◌, [], List, ℕ, get_or, length, take, sym, ap, subst, arith}
use Rattle.std.proofs.lemmas.List.{get_or_default, take_all}
use Rattle.csv.specs.Writing.{default_writer, field_text, is_blank, next_sep, row_body}
use Rattle.csv.proofs.WriteFacts.{row-step}
use Rattle.gq_reply.specs.Bare.{ending}
use Rattle.gq_reply.specs.Replies.{record_text}
use Rattle.gq_reply.specs.Sending.{AppendsPrefix, Passes}
use Rattle.gq_reply.proofs.Bytes.{cut_within, of_err, of_ok, on_err, passes_cut, passes_more}
use Rattle.gq_reply.proofs.RecordLemmas.{record_parts, rest_after}
use Rattle.gq_reply.proofs.records.push_names.Goals as goal

pub returns-in_err-push_next-clause-err : goal.returns-in_err-push_next-clause-err
returns-in_err-push_next-clause-err g c =
    let i = c.loop-i.i in
    let fields = c.args.names.now in
    let within : i < length fields = omega (arith, c.loop-i-test.true) in
    let P : List ℕ → Type 0 = λ f. AppendsPrefix (g.W.Write.contents c.loop-i.writer) (g.W.Write.contents c.push_next.new.writer) (c.loop-i.buffer ++ (next_sep default_writer i ++ field_text default_writer f)) in
    let field : c.as_bytes.result.now ≡ get_or fields i [] = c.as_bytes.ensures.value ∙ c.as_str.ensures ∙ c.index-names-i.is ∙ get_or_default fields i c.index-names-i.result [] within in
    on_err _ c.from_residual.result (cut_within _ _ _ _ _ (row_body default_writer (take i fields)) (next_sep default_writer i ++ field_text default_writer (get_or fields i [])) (rest_after i fields) (record_text fields)
    c.loop-i.invariant (subst P field c.in_err-push_next.ensures.err) (record_parts fields i within))

pub loop-i-preserved : goal.loop-i-preserved
loop-i-preserved g c =
    let i = c.loop-i.i in
    let fields = c.args.names.now in
    let within : i < length fields = omega (arith, c.loop-i-test.true) in
    let P : List ℕ → Type 0 = λ f. Passes (g.W.Write.contents c.loop-i.writer) (g.W.Write.contents c.push_next.new.writer) c.loop-i.buffer c.push_next.new.buffer (next_sep default_writer i ++ field_text default_writer f) in
    let field : c.as_bytes.result.now ≡ get_or fields i [] = c.as_bytes.ensures.value ∙ c.as_str.ensures ∙ c.index-names-i.is ∙ get_or_default fields i c.index-names-i.result [] within in
    let Q : List ℕ → Type 0 = λ l. Passes (g.W.Write.contents c.args.writer.now) (g.W.Write.contents c.push_next.new.writer) c.args.buffer.now c.push_next.new.buffer l in
    subst Q (sym (row-step default_writer fields i within)) (passes_more _ _ _ _ _ _ _ _ c.loop-i.invariant (subst P field c.in_ok-push_next.ensures.ok))

pub returns-clause-ok : goal.returns-clause-ok
returns-clause-ok g c =
    let fields = c.args.names.now in
    let all : take c.loop-i.i fields ≡ fields = take_all c.loop-i.i fields (omega (arith, c.loop-i-test.false)) in
    let P : List (List ℕ) → Type 0 = λ l. Passes (g.W.Write.contents c.args.writer.now) (g.W.Write.contents c.loop-i.writer) c.args.buffer.now c.loop-i.buffer (row_body default_writer l) in
    let Q : List ℕ → Type 0 = λ l. Passes (g.W.Write.contents c.loop-i.writer) (g.W.Write.contents c.push_end.new.writer) c.loop-i.buffer c.push_end.new.buffer l in
    of_ok _ _ c.push_end.result (λ k. passes_more _ _ _ _ _ _ (row_body default_writer fields) (ending (is_blank default_writer fields)) (subst P all c.loop-i.invariant) (subst Q (ap ending c.is_blank_header.ensures) k)) c.push_end.ensures.ok

pub returns-clause-err : goal.returns-clause-err
returns-clause-err g c =
    let fields = c.args.names.now in
    let all : take c.loop-i.i fields ≡ fields = take_all c.loop-i.i fields (omega (arith, c.loop-i-test.false)) in
    let P : List (List ℕ) → Type 0 = λ l. Passes (g.W.Write.contents c.args.writer.now) (g.W.Write.contents c.loop-i.writer) c.args.buffer.now c.loop-i.buffer (row_body default_writer l) in
    let Q : List ℕ → Type 0 = λ l. AppendsPrefix (g.W.Write.contents c.loop-i.writer) (g.W.Write.contents c.push_end.new.writer) (c.loop-i.buffer ++ l) in
    of_err _ _ c.push_end.result (λ k. passes_cut _ _ _ _ _ (row_body default_writer fields) (ending (is_blank default_writer fields)) (subst P all c.loop-i.invariant) (subst Q (ap ending c.is_blank_header.ensures) k)) c.push_end.ensures.err
