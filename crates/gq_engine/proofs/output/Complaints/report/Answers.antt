use Rattle.std.proofs.Common.{sym, ◌∙◌}
use Rattle.gq_engine.proofs.OutputLemmas.{silent, unrefused}
use Rattle.gq_engine.proofs.output.Complaints.report.Goals as goal

pub returns-then-not-self-clause-reported : goal.returns-then-not-self-clause-reported
returns-then-not-self-clause-reported g c = silent c.args.limits.now.bounds c.args.self.now.output c.args.script.now.line c.args.script.now.wrong c.args.reply.now c.args.self.now.is_open (g.E.Write.contents c.args.errors.now) c.if-not-self.true

pub returns-then-not-is_refusal-clause-reported : goal.returns-then-not-is_refusal-clause-reported
returns-then-not-is_refusal-clause-reported g c =
    unrefused c.args.limits.now.bounds c.args.self.now.output c.args.script.now.line c.args.script.now.wrong c.args.reply.now c.args.self.now.is_open (g.E.Write.contents c.args.errors.now) c.if-not-self.false (sym c.is_refusal.ensures ∙ c.if-not-is_refusal.true)
