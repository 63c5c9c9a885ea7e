use Rattle.std.proofs.Common.{◌≡◌, ◌≤◌, ◌∙◌, ◌+◌, ◌-◌, ◌*◌, List, ap, arith, drop, length, subst, sym, take}
use Rattle.gq_row.specs.declared.value.Value.{Value}
use Rattle.gq_table.proofs.RowStoreLemmas.{stands}
use Rattle.gq_table.proofs.row_store.RowStore.row.Goals as goal

pub overflow_mul-start : goal.overflow_mul-start
overflow_mul-start c =
    let s = c.self.inside in
    let it = stands s.width s.rows c.args.position s.cells.items c.args.self.now c.self.view_is c.self.invariant c.requires in
    omega (arith, it.end, s.cells.ok, s.cells.small)

pub overflow_add-result : goal.overflow_add-result
overflow_add-result c =
    let s = c.self.inside in
    let it = stands s.width s.rows c.args.position s.cells.items c.args.self.now c.self.view_is c.self.invariant c.requires in
    omega (arith, it.end, s.cells.ok, s.cells.small)

pub offset_bounds-deref-start : goal.offset_bounds-deref-start
offset_bounds-deref-start c =
    let s = c.self.inside in
    let it = stands s.width s.rows c.args.position s.cells.items c.args.self.now c.self.view_is c.self.invariant c.requires in
    omega (arith, it.end, ap length c.deref.ensures.value, c.deref.type_inv)

pub slice_bounds-result-end : goal.slice_bounds-result-end
slice_bounds-result-end c =
    let s = c.self.inside in
    let it = stands s.width s.rows c.args.position s.cells.items c.args.self.now c.self.view_is c.self.invariant c.requires in
    subst (λ (l : List Value). c.args.position * s.width + s.width ≤ length l) (sym c.deref.ensures.value) it.end

pub returns : goal.returns
returns c =
    let s = c.self.inside in
    let i = c.args.position in
    let it = stands s.width s.rows i s.cells.items c.args.self.now c.self.view_is c.self.invariant c.requires in
    let wide : i * s.width + s.width - i * s.width ≡ s.width = omega arith in
    (λ z. take (wide z) (drop (i * s.width) (c.deref.ensures.value z))) ∙ it.row
