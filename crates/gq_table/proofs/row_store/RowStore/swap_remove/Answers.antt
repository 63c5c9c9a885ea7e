use Rattle.std.proofs.Common.{◌∙◌, ◌*◌, ◌-◌, List, ap, arith, drop, length, refl, take}
use Rattle.std.proofs.lemmas.List.{take_at}
use Rattle.gq_row.specs.declared.value.Value.{Value}
use Rattle.gq_table.specs.RowStores.{rows_along, written_over}
use Rattle.gq_table.proofs.RowStoreLemmas.{last_removed, other_removed, stands}
use Rattle.gq_table.proofs.row_store.RowStore.swap_remove.Goals as goal
use Rattle.gq_table.proofs.row_store.RowStore.swap_remove.Goals.{then-position-last, else-position-last}

pub overflow_sub-last : goal.overflow_sub-last
overflow_sub-last c =
    let s = c.self.inside in
    let it = stands s.width s.rows c.args.position s.cells.items c.args.self.now c.self.view_is c.self.invariant c.requires in
    omega (arith, it.within)

pub returns : goal.returns
returns c =
    let s = c.self.inside in
    let i = c.args.position in
    let last = s.rows - 1 in
    let end = last * s.width in
    elim c.if-position-last.branch [
      | then-position-last w ↦
          (let now = w.exchange_last.new.cells in
          let same = w.exchange_last.auto.cells ∙ w.as_mut_slice.ensures.len in
          let is = w.exchange_last.ensures ∙ ap (λ (l : List Value). written_over (take end l) (i * s.width) (drop end l)) w.as_mut_slice.ensures.value in
          (λ z. rows_along (w.self-inside-is z).width last (c.truncate.ensures.items z))
          ∙ ap (λ l. rows_along s.width last (take end l)) (ap (λ (o : _). o.cells.items) w.self-inside-is ∙ take_at now (drop (length now) s.cells.items) s.cells.len same)
          ∙ other_removed s.width s.rows last i s.cells.items c.args.self.now c.self.view_is c.self.invariant refl c.requires now w.if-position-last.true is)
      | else-position-last w ↦
          (λ z. rows_along (w.self-inside-is z).width last (c.truncate.ensures.items z))
          ∙ ap (λ l. rows_along s.width last (take end l)) (ap (λ (o : _). o.cells.items) w.self-inside-is)
          ∙ last_removed s.width s.rows last i s.cells.items c.args.self.now c.self.view_is c.self.invariant refl c.requires w.if-position-last.false
    ]
