use Rattle.std.proofs.Common.{◌≡◌, ◌∷◌, [], refl}
use Rattle.std.proofs.lemmas.Bool.{ne_eqb}
use Rattle.csv.specs.Writing.{default_writer, field_text, next_sep}
use Rattle.gq_reply.proofs.Bytes.{cut_longer, of_err, of_ok, on_err, passes_cut, passes_more}
use Rattle.gq_reply.proofs.records.push_next.Goals as goal

pub returns-in_err-push-clause-err : goal.returns-in_err-push-clause-err
returns-in_err-push-clause-err g c =
    let sep : next_sep default_writer c.args.place ≡ 44 ∷ [] = rw (ne_eqb c.args.place 0 c.if-place-eq0.false) refl in
    on_err _ c.from_residual.result (rw sep (cut_longer _ _ _ (44 ∷ []) (field_text default_writer c.args.field.now) c.in_err-push.ensures.err))

pub returns-clause-ok : goal.returns-clause-ok
returns-clause-ok g c =
    let sep : next_sep default_writer c.args.place ≡ 44 ∷ [] = rw (ne_eqb c.args.place 0 c.if-place-eq0.false) refl in
    rw sep (of_ok _ _ c.push_field-2.result (λ k. passes_more _ _ _ _ _ _ (44 ∷ []) (field_text default_writer c.args.field.now) c.in_ok-push.ensures.ok k) c.push_field-2.ensures.ok)

pub returns-clause-err : goal.returns-clause-err
returns-clause-err g c =
    let sep : next_sep default_writer c.args.place ≡ 44 ∷ [] = rw (ne_eqb c.args.place 0 c.if-place-eq0.false) refl in
    rw sep (of_err _ _ c.push_field-2.result (λ k. passes_cut _ _ _ _ _ (44 ∷ []) (field_text default_writer c.args.field.now) c.in_ok-push.ensures.ok k) c.push_field-2.ensures.err)
