use Rattle.std.proofs.Common.{◌≡◌, ◌∙◌, ◌+◌, ◌-◌, ◌*◌, ap, arith, length, drop, take, refl}
use Rattle.gq_table.proofs.RowStoreLemmas.{row_back, row_lent, stands}
use Rattle.gq_table.proofs.row_store.RowStore.row_mut.Goals as goal

pub overflow_mul-start : goal.overflow_mul-start
overflow_mul-start c =
    let s = c.self.inside in
    let it = stands s.width s.rows c.args.position s.cells.items c.args.self.now c.self.view_is c.self.invariant c.requires in
    omega (arith, it.end, s.cells.ok, s.cells.small)

pub overflow_add-end : goal.overflow_add-end
overflow_add-end c =
    let s = c.self.inside in
    let it = stands s.width s.rows c.args.position s.cells.items c.args.self.now c.self.view_is c.self.invariant c.requires in
    omega (arith, it.end, s.cells.ok, s.cells.small)

pub slice_mut-requires-clause-in_bounds : goal.slice_mut-requires-clause-in_bounds
slice_mut-requires-clause-in_bounds c =
    let s = c.self.inside in
    let it = stands s.width s.rows c.args.position s.cells.items c.args.self.now c.self.view_is c.self.invariant c.requires in
    omega (arith, it.end, s.cells.ok)

pub returns : goal.returns
returns c =
    let s = c.self.inside in
    let i = c.args.position in
    let it = stands s.width s.rows i s.cells.items c.args.self.now c.self.view_is c.self.invariant c.requires in
    let wide : i * s.width + s.width - i * s.width ≡ s.width = omega arith in
    let value = c.slice_mut.ensures.value ∙ ap (λ k. take k (drop (i * s.width) s.cells.items)) wide ∙ it.row in (
      (refl, (λ w. row_lent s.width s.rows i s.cells.len s.cells.items w c.args.self.now c.self.view_is c.self.invariant s.cells.ok.0 c.requires)),
      record {
        writes_back = tt;
        value = value;
        written = λ cells h. row_back s.width s.rows i s.cells.items cells c.args.self.now c.self.view_is c.self.invariant c.requires (h ∙ ap length value ∙ it.long);
      },
    )
