use Rattle.std.proofs.Common.{◌≡◌, ◌++◌, ◌∷◌, ◌∙◌, [], length, map, take, ap, rules, arith}
use Rattle.gq_cells.specs.declared.rows.Span.{Span}
use Rattle.std.proofs.lemmas.Grind.{common_steps}
use Rattle.gq_cells.specs.Lists.{row_at}
use Rattle.gq_cells.proofs.RowsLemmas.{row_pushed, rows_kept}
use Rattle.gq_cells.proofs.rows.Rows.push_copy.Goals as goal

pub returns-clause-pushed : goal.returns-clause-pushed
returns-clause-pushed c =
    let xs = c.self.inside.cells in
    let row = c.args.row.now in
    let span : Span = record { start = c.len-start.result; end = c.len-end.result } in
    let cells : c.loop-value.self-inside.cells ≡ xs ++ row = grind (arith, common_steps) in
    let spans : c.push-2.new.self.items ≡ c.self.inside.spans.items ++ span ∷ [] = search rules in
    let low : c.len-start.result ≡ length xs = search rules in
    let high : c.len-end.result ≡ length c.loop-value.self-inside.cells = search rules in
    (λ i. map (row_at (cells i)) (spans i))
    ∙ row_pushed xs row c.self.inside.spans.items span low (high ∙ ap length cells) c.self.invariant
    ∙ ap (λ l. l ++ row ∷ []) c.self.view_is

pub returns-in_err-copy-clause-unchanged : goal.returns-in_err-copy-clause-unchanged
returns-in_err-copy-clause-unchanged c =
    let xs = c.self.inside.cells in
    let came = take c.loop-value.value-index c.args.row.now in
    let cells : c.loop-value.self-inside.cells ≡ xs ++ came = search rules in
    let still : map (row_at c.loop-value.self-inside.cells) c.self.inside.spans.items ≡ c.args.self.now =
    (λ i. map (row_at (cells i)) c.self.inside.spans.items) ∙ rows_kept xs came c.self.inside.spans.items c.self.invariant ∙ c.self.view_is in
    search rules

pub returns-in_err-push-clause-unchanged : goal.returns-in_err-push-clause-unchanged
returns-in_err-push-clause-unchanged c =
    let xs = c.self.inside.cells in
    let came = take c.loop-value.value-index c.args.row.now in
    let same : c.push.new.self ≡ c.loop-value.self-inside.cells = search rules in
    let cells : c.loop-value.self-inside.cells ≡ xs ++ came = search rules in
    let still : map (row_at c.push.new.self) c.self.inside.spans.items ≡ c.args.self.now =
    (λ i. map (row_at ((same ∙ cells) i)) c.self.inside.spans.items) ∙ rows_kept xs came c.self.inside.spans.items c.self.invariant ∙ c.self.view_is in
    search rules

pub returns-in_err-push-2-clause-unchanged : goal.returns-in_err-push-2-clause-unchanged
returns-in_err-push-2-clause-unchanged c =
    let xs = c.self.inside.cells in
    let row = c.args.row.now in
    let cells : c.loop-value.self-inside.cells ≡ xs ++ row = grind (arith, common_steps) in
    let spans : c.push-2.new.self.items ≡ c.self.inside.spans.items = search rules in
    let still : map (row_at c.loop-value.self-inside.cells) c.push-2.new.self.items ≡ c.args.self.now =
    (λ i. map (row_at (cells i)) (spans i)) ∙ rows_kept xs row c.self.inside.spans.items c.self.invariant ∙ c.self.view_is in
    search rules

pub returns-in_err-new-clause-unchanged : goal.returns-in_err-new-clause-unchanged
returns-in_err-new-clause-unchanged c =
    let xs = c.self.inside.cells in
    let row = c.args.row.now in
    let cells : c.loop-value.self-inside.cells ≡ xs ++ row = grind (arith, common_steps) in
    let still : map (row_at c.loop-value.self-inside.cells) c.self.inside.spans.items ≡ c.args.self.now =
    (λ i. map (row_at (cells i)) c.self.inside.spans.items) ∙ rows_kept xs row c.self.inside.spans.items c.self.invariant ∙ c.self.view_is in
    search rules
