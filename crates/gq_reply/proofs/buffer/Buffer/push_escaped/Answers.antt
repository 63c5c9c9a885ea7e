use Rattle.std.proofs.Common.{◌<◌, List, ℕ, length, subst, arith}
use Rattle.std.proofs.Common.{get_or, ◌∷◌, [], take, drop, ◌+◌}
use Rattle.csv.specs.Writing.{default_writer, escaped}
use Rattle.gq_reply.specs.Sending.{Passes}
use Rattle.gq_reply.proofs.Bytes.{cut_within, on_err, passes_more, passes_nothing}
use Rattle.gq_reply.proofs.RecordLemmas.{escaped_more, escaped_parts}
use Rattle.gq_reply.proofs.buffer.Buffer.push_escaped.Goals as goal

pub loop-byte-init : goal.loop-byte-init
unfolding escaped
loop-byte-init g c = passes_nothing _ _

pub returns-in_err-push_byte-clause-err : goal.returns-in_err-push_byte-clause-err
returns-in_err-push_byte-clause-err g c =
    let i = c.loop-byte.byte-index in
    let field = c.args.field.now in
    let less : i < length field = omega (arith, c.loop-byte-test.true, c.loop-byte.auto.byte-index-end) in
    on_err _ c.from_residual.result (cut_within _ _ _ _ _ (escaped default_writer (take i field)) (escaped default_writer (get_or field i 0 ∷ [])) (escaped default_writer (drop (i + 1) field)) (escaped default_writer field)
    c.loop-byte.invariant c.in_err-push_byte.ensures.err (escaped_parts field i less))

pub loop-byte-preserved : goal.loop-byte-preserved
loop-byte-preserved g c =
    let i = c.loop-byte.byte-index in
    let field = c.args.field.now in
    let less : i < length field = omega (arith, c.loop-byte-test.true, c.loop-byte.auto.byte-index-end) in
    let P : List ℕ → Type 0 = λ l. Passes (g.W.Write.contents c.args.writer.now) (g.W.Write.contents c.push_byte.new.writer) c.args.self.now c.push_byte.new.self l in
    subst P (escaped_more field i less) (passes_more _ _ _ _ _ _ _ _ c.loop-byte.invariant c.in_ok-push_byte.ensures.ok)
