use Rattle.std.proofs.Common.{refl}
use Rattle.std.proofs.lemmas.List.Sorted.{IsPermutation-refl}
use Rattle.gq_query.specs.declared.tie_sort.Tie.{Tie}
use Rattle.gq_query.proofs.TieLemmas.{changed_moved, decided_sorted, keep_places, keep_widths, start_tied}
use Rattle.gq_query.proofs.tie_sort.sort_groups.Goals as goal

pub sort_prefixed-requires : goal.sort_prefixed-requires
sort_prefixed-requires c =
    let cells = c.args.cells.now in
    let old = c.args.groups.now in
    let new = c.write_prefixes.new.groups in
    let width = c.least_width.result in
    let tie : Tie = record { cell = 0; skip = 0; width = width; depth = 64 } in
    let moved = changed_moved old new new c.write_prefixes.ensures.kept (IsPermutation-refl new) in
    start_tied cells tie new refl refl (keep_places cells old new moved c.requires) (keep_widths width old new moved c.least_width.ensures)

pub returns-clause-moved : goal.returns-clause-moved
returns-clause-moved c = changed_moved c.args.groups.now c.write_prefixes.new.groups c.sort_prefixed.new.groups c.write_prefixes.ensures.kept c.sort_prefixed.ensures.moved

pub returns-clause-sorted : goal.returns-clause-sorted
returns-clause-sorted c = decided_sorted c.args.cells.now c.write_prefixes.new.groups c.sort_prefixed.new.groups c.write_prefixes.ensures.decide c.sort_prefixed.ensures.moved c.sort_prefixed.ensures.sorted
