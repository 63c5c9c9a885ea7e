use Rattle.std.proofs.Common.{◌≡◌, ◌++◌, ◌∷◌, ◌∙◌, [], drop, length, map, ap, rules}
use Rattle.gq_cells.specs.declared.rows.Span.{Span}
use Rattle.gq_cells.specs.Lists.{row_at}
use Rattle.gq_cells.proofs.RowsLemmas.{row_pushed, rows_kept}
use Rattle.gq_cells.proofs.rows.Rows.push.Goals as goal

pub returns-clause-pushed : goal.returns-clause-pushed
returns-clause-pushed c =
    let xs = c.self.inside.cells in
    let row = c.args.row.now.items in
    let span : Span = record { start = c.len-start.result; end = c.len-end.result } in
    let cells : c.push_all.new.self ≡ xs ++ row = search rules in
    let spans : c.push.new.self.items ≡ c.self.inside.spans.items ++ span ∷ [] = search rules in
    let low : c.len-start.result ≡ length xs = search rules in
    let high : c.len-end.result ≡ length c.push_all.new.self = search rules in
    (λ i. map (row_at (cells i)) (spans i))
    ∙ row_pushed xs row c.self.inside.spans.items span low (high ∙ ap length cells) c.self.invariant
    ∙ ap (λ l. l ++ row ∷ []) c.self.view_is

pub returns-in_err-push-clause-unchanged : goal.returns-in_err-push-clause-unchanged
returns-in_err-push-clause-unchanged c =
    let xs = c.self.inside.cells in
    let row = c.args.row.now.items in
    let cells : c.push_all.new.self ≡ xs ++ row = search rules in
    let spans : c.push.new.self.items ≡ c.self.inside.spans.items = search rules in
    let still : map (row_at c.push_all.new.self) c.push.new.self.items ≡ c.args.self.now =
    (λ i. map (row_at (cells i)) (spans i)) ∙ rows_kept xs row c.self.inside.spans.items c.self.invariant ∙ c.self.view_is in
    search rules

pub returns-in_err-push_all-clause-unchanged : goal.returns-in_err-push_all-clause-unchanged
returns-in_err-push_all-clause-unchanged c =
    let xs = c.self.inside.cells in
    let more = drop (length xs) c.push_all.new.self in
    let spans = c.self.inside.spans.items in
    let still : map (row_at c.push_all.new.self) spans ≡ c.args.self.now =
    (λ i. map (row_at (c.push_all.ensures.kept i)) spans) ∙ rows_kept xs more spans c.self.invariant ∙ c.self.view_is in
    search rules

pub returns-in_err-new-clause-unchanged : goal.returns-in_err-new-clause-unchanged
returns-in_err-new-clause-unchanged c =
    let xs = c.self.inside.cells in
    let more = drop (length xs) c.push_all.new.self in
    let spans = c.self.inside.spans.items in
    let still : map (row_at c.push_all.new.self) spans ≡ c.args.self.now =
    (λ i. map (row_at (c.push_all.ensures.kept i)) spans) ∙ rows_kept xs more spans c.self.invariant ∙ c.self.view_is in
    search rules
