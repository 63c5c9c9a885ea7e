use Rattle.std.proofs.Common.{◌-◌, length, arith}
use Rattle.gq_row.proofs.ShortTextLemmas.{both_ends}
use Rattle.gq_record.proofs.encoding.copy_ends.Goals as goal

pub returns : goal.returns
returns g c =
    let text = c.args.text.now in
    both_ends g.row.N (length text - g.row.N) c.args.bytes.now text (omega (arith, c.requires.covers.0)) (omega (arith, c.requires.covers.1)) c.requires.fits
