use Rattle.std.proofs.Common.{◌≡◌, ◌+◌, ℕ, suc, List, sym, ap, ◌∙◌, arith, slice_index_or, slice_set, take, drop, ◌++◌, ◌∷◌, []}
use Rattle.std.proofs.lemmas.Grind.{common_steps}
use Rattle.gq_row.specs.declared.value.Value.{Value}
use Rattle.gq_agg.specs.declared.kind.AggKind.TheVariants.{CountAll}
use Rattle.gq_group.specs.Entries.{tallies}
use Rattle.gq_group.specs.Groups.{column_of}
use Rattle.gq_group.proofs.AggLemmas.{next_tally, next_fits, tally_set}
use Rattle.gq_group.proofs.aggs.add_cells.Goals as goal

pub add_cell-requires-clause-fits : goal.add_cell-requires-clause-fits
add_cell-requires-clause-fits c =
    let rows : List (List Value) = c.requires.tallied.0 in
    next_fits c.args.row.now c.args.asked.now rows (rows ++ c.args.row.now ∷ []) c.aggs.i c.aggs.aggs c.index-aggs-i.result (CountAll, 0) (omega arith) (c.aggs.invariant rows c.requires.tallied.2) c.requires.fits

pub aggs-preserved : goal.aggs-preserved
aggs-preserved c = λ rows is.
    let asked = c.args.asked.now in
    let row = c.args.row.now in
    let i : ℕ = c.aggs.i in
    let more : i + 1 ≡ suc i = omega arith in
    let now : c.aggs.aggs ≡ take i (tallies asked (rows ++ row ∷ [])) ++ drop i (tallies asked rows) = c.aggs.invariant rows is in
    let at_i = slice_index_or asked i (CountAll, 0) in
    let added = c.in_ok-add_cell.ensures at_i.0 (column_of at_i.1 rows) (ap (λ l. slice_index_or l i c.index-aggs-i.result) now ∙ next_tally asked rows (rows ++ row ∷ []) i c.index-aggs-i.result (CountAll, 0) (omega arith)) in
    ap (λ l. slice_set l i c.add_cell.new.agg) now
    ∙ tally_set asked rows row i c.add_cell.new.agg (CountAll, 0) (omega arith) added
    ∙ ap (λ n. take n (tallies asked (rows ++ row ∷ [])) ++ drop n (tallies asked rows)) (sym more)

pub offset_bounds-aggs-i : goal.offset_bounds-aggs-i
offset_bounds-aggs-i c = grind (arith, common_steps)

pub bounds-aggs-i : goal.bounds-aggs-i
bounds-aggs-i c = grind (arith, common_steps)
