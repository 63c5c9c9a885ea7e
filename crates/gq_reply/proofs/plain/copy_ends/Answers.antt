use Rattle.std.proofs.Common.{◌-◌, length, arith}
use Rattle.gq_row.proofs.ShortTextLemmas.{both_ends}
use Rattle.gq_reply.proofs.PlainLemmas.{ends_plain}
use Rattle.gq_reply.proofs.plain.copy_ends.Goals as goal

pub returns-clause-copied : goal.returns-clause-copied
returns-clause-copied g c =
    let text = c.args.field.now in
    both_ends g.row.N (length text - g.row.N) c.args.bytes.now text (omega (arith, c.requires.covers.0)) (omega (arith, c.requires.covers.1)) c.requires.fits

pub returns-clause-plain : goal.returns-clause-plain
returns-clause-plain g c =
    let text = c.args.field.now in
    λ clear. ends_plain g.row.N (length text - g.row.N) text c.requires.lanes.0 (omega (arith, c.requires.covers.0)) (omega (arith, c.requires.covers.1)) (c.are_clear.ensures.front clear) (c.are_clear.ensures.back clear)
