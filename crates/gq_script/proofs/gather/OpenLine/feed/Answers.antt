use Rattle.std.proofs.lemmas.Bool.{ne_eqb}
use Rattle.gq_script.proofs.Gathered.{behind, not_behind, then_cr, then_other}
use Rattle.gq_script.proofs.gather.OpenLine.feed.Goals as goal
use Rattle.gq_script.proofs.gather.OpenLine.feed.Goals.{then-after_cr, else-after_cr}

pub returns-then-byte-eq13 : goal.returns-then-byte-eq13
returns-then-byte-eq13 c = elim c.if-after_cr.branch [
  | then-after_cr w ↦ λ most raw h. then_cr most c.if-after_cr.self raw c.args.byte (rw w.self-is (behind most c.args.self.now w.add.new.self c.args.after_cr raw h w.if-after_cr.true w.add.ensures)) c.if-byte-eq13.true
  | else-after_cr w ↦ λ most raw h. then_cr most c.if-after_cr.self raw c.args.byte (rw w.self-is (not_behind most c.args.self.now c.args.after_cr raw h w.if-after_cr.false)) c.if-byte-eq13.true
]

pub returns : goal.returns
returns c = elim c.if-after_cr.branch [
  | then-after_cr w ↦ λ most raw h. then_other most c.add-2.new.self raw c.args.byte (c.add-2.ensures most raw (rw w.self-is (behind most c.args.self.now w.add.new.self c.args.after_cr raw h w.if-after_cr.true w.add.ensures))) (ne_eqb c.args.byte 13 c.if-byte-eq13.false)
  | else-after_cr w ↦ λ most raw h. then_other most c.add-2.new.self raw c.args.byte (c.add-2.ensures most raw (rw w.self-is (not_behind most c.args.self.now c.args.after_cr raw h w.if-after_cr.false))) (ne_eqb c.args.byte 13 c.if-byte-eq13.false)
]
