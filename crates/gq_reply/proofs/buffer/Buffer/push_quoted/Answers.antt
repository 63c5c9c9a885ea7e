use Rattle.std.proofs.Common.{◌++◌, ◌∷◌, []}
use Rattle.csv.specs.Writing.{default_writer, escaped}
use Rattle.gq_reply.proofs.Bytes.{cut_longer, of_err, of_ok, on_err, passes_cut, passes_more}
use Rattle.gq_reply.proofs.buffer.Buffer.push_quoted.Goals as goal

pub returns-in_err-push-clause-err : goal.returns-in_err-push-clause-err
returns-in_err-push-clause-err g c = on_err _ c.from_residual.result (cut_longer _ _ _ (34 ∷ []) (escaped default_writer c.args.field.now ++ 34 ∷ []) c.in_err-push.ensures.err)

pub returns-in_err-push_escaped-clause-err : goal.returns-in_err-push_escaped-clause-err
returns-in_err-push_escaped-clause-err g c =
    let inner = escaped default_writer c.args.field.now in
    on_err _ c.from_residual-in_err-push_escaped.result (cut_longer _ _ _ (34 ∷ inner) (34 ∷ []) (passes_cut _ _ _ _ _ (34 ∷ []) inner c.in_ok-push.ensures.ok c.in_err-push_escaped.ensures.err))

pub returns-clause-ok : goal.returns-clause-ok
returns-clause-ok g c = of_ok _ _ c.push-2.result (λ k. passes_more _ _ _ _ _ _ (34 ∷ escaped default_writer c.args.field.now) (34 ∷ []) (passes_more _ _ _ _ _ _ (34 ∷ []) (escaped default_writer c.args.field.now) c.in_ok-push.ensures.ok c.in_ok-push_escaped.ensures.ok) k) c.push-2.ensures.ok

pub returns-clause-err : goal.returns-clause-err
returns-clause-err g c = of_err _ _ c.push-2.result (λ k. passes_cut _ _ _ _ _ (34 ∷ escaped default_writer c.args.field.now) (34 ∷ []) (passes_more _ _ _ _ _ _ (34 ∷ []) (escaped default_writer c.args.field.now) c.in_ok-push.ensures.ok c.in_ok-push_escaped.ensures.ok) k) c.push-2.ensures.err
