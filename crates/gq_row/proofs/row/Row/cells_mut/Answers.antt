use Rattle.std.proofs.Common.{◌≡◌, ◌++◌, ◌∙◌, List, length, take, drop, refl, ap, append-nil, drop_of_length-le, take_all, arith}
use Rattle.gq_row.specs.declared.value.Value.{Value}
use Rattle.gq_row.specs.Lending.{with_cells}
use Rattle.gq_row.proofs.row.Row.cells_mut.Goals as goal

over_all : (row cells : List Value) → length cells ≡ length row → with_cells row cells ≡ cells
over_all row cells long =
    ap (λ l. take (length row) (cells ++ l)) (drop_of_length-le row (omega arith)) ∙ ap (take (length row)) (append-nil cells) ∙ take_all (length row) cells (omega arith)

pub returns : goal.returns
returns c =
    let view = c.self.view_is in
    let long : c.self.inside.cells.len ≡ length c.args.self.now = c.self.inside.cells.ok.0 ∙ ap (λ (l : List Value). length l) view in (
      (refl, (λ w i. take (long i) (w ++ drop (length w) (view i)))),
      record {
        writes_back = tt;
        value = c.as_mut_slice.ensures.value ∙ view;
        written = λ cells h. over_all c.args.self.now cells (h ∙ ap (λ (l : List Value). length l) (c.as_mut_slice.ensures.value ∙ view));
      },
    )
