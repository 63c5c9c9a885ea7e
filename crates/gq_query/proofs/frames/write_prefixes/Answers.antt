use Rattle.std.proofs.lemmas.List.Sorted.{IsPermutation-refl}
use Rattle.gq_query.proofs.TieLemmas.{changed_moved, frames_decide, keep_places, keep_widths}
use Rattle.gq_query.proofs.frames.write_prefixes.Goals as goal

pub returns-clause-decide : goal.returns-clause-decide
returns-clause-decide c =
    let cells = c.args.cells.now in
    let old = c.args.groups.now in
    let new = c.write_to.new.groups in
    let moved = changed_moved old new new c.write_to.ensures.kept (IsPermutation-refl new) in
    frames_decide cells c.args.width c.of-frames.result new c.of-frames.ensures (keep_places cells old new moved c.requires.within) (keep_widths c.args.width old new moved c.requires.wide) c.write_to.ensures.prefixed
