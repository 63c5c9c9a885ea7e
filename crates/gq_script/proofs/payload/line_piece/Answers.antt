use Rattle.gq_script.proofs.Marks.{piece_end, no_piece_end}
use Rattle.gq_script.proofs.payload.line_piece.Goals as goal

pub returns-in-Some-clause-piece : goal.returns-in-Some-clause-piece
returns-in-Some-clause-piece c = piece_end c.args.bytes.now c.in-Some.index c.in-Some.ensures.0.high c.in-Some.ensures.0.before c.in-Some.ensures.1

pub returns-in-None-clause-piece : goal.returns-in-None-clause-piece
returns-in-None-clause-piece c = no_piece_end c.args.bytes.now c.in-None.ensures
