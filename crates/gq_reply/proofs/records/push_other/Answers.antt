use Rattle.std.proofs.Common.{◌∙◌}
use Rattle.gq_reply.specs.Bare.{row_record}
use Rattle.gq_reply.proofs.Bytes.{of_err, of_ok, on_err, passes_emptied, emptied_cut, prefix_longer}
use Rattle.gq_reply.proofs.records.push_other.Goals as goal

pub returns-in_err-empty-clause-err : goal.returns-in_err-empty-clause-err
returns-in_err-empty-clause-err g c = on_err _ c.from_residual.result (prefix_longer _ _ c.args.buffer.now (row_record c.args.row.now) c.in_err-empty.ensures.err)

pub returns-clause-ok : goal.returns-clause-ok
returns-clause-ok g c =
    let none = c.append_bare.ensures.unchanged c.if-append_bare.false ∙ c.in_ok-empty.ensures.empty in
    of_ok _ _ c.push_cells-2.result (λ k. passes_emptied _ _ _ _ _ _ (row_record c.args.row.now) c.in_ok-empty.ensures.ok none k) c.push_cells-2.ensures.ok

pub returns-clause-err : goal.returns-clause-err
returns-clause-err g c =
    let none = c.append_bare.ensures.unchanged c.if-append_bare.false ∙ c.in_ok-empty.ensures.empty in
    of_err _ _ c.push_cells-2.result (λ k. emptied_cut _ _ _ _ _ (row_record c.args.row.now) c.in_ok-empty.ensures.ok none k) c.push_cells-2.ensures.err
