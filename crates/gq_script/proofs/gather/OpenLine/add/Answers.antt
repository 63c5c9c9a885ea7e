use Rattle.std.proofs.Common.{refl, true, ◌-◌}
use Rattle.gq_script.proofs.Gathered.{added, added_past}
use Rattle.gq_script.proofs.gather.OpenLine.add.Goals as goal

pub returns-then-self-eq0 : goal.returns-then-self-eq0
returns-then-self-eq0 c = λ most front h. added_past most c.args.self.now (record c.args.self.now { too_long = true; opening = c.after-self.result }) front c.args.byte h c.after-self.ensures c.if-self-eq0.true refl refl refl

pub returns-else-self-eq0 : goal.returns-else-self-eq0
returns-else-self-eq0 c = λ most front h. added most c.args.self.now (record c.args.self.now { room = c.args.self.now.room - 1; opening = c.after-self.result; first_word = c.after-word.result }) c.keep_after.new.self front c.args.byte h c.after-self.ensures c.if-self-eq0.false refl refl refl refl c.after-word.ensures c.keep_after.ensures
