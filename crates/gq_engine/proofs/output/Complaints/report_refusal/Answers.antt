use Rattle.std.proofs.Common.{◌≡◌, ℕ, Bool, sym, ap, subst, ◌∙◌}
use Rattle.gq_engine.specs.Outputs.{ComplainsOn, complaint}
use Rattle.gq_engine.proofs.OutputLemmas.{sent, reported_fixed}
use Rattle.gq_engine.proofs.output.Complaints.report_refusal.Goals as goal

pub returns-in-Some-complaint-clause-reported : goal.returns-in-Some-complaint-clause-reported
returns-in-Some-complaint-clause-reported g c =
    let output = c.args.self.now.output in
    let before = g.E.Write.contents c.args.errors.now in
    let after = g.E.Write.contents c.send-in-Some-complaint.new.writer in
    let ok = c.is_ok-self-in-Some-complaint.result in
    let bytes = c.as_bytes-in-Some-complaint.result.now in
    let fixed : bytes ≡ complaint output c.args.script.now.line c.args.reply.now =
    c.as_bytes-in-Some-complaint.ensures.value ∙ c.as_str.ensures.value ∙ sym c.in-Some-complaint.ensures.text ∙ ap (λ (n : ℕ). complaint output n c.args.reply.now) c.line-line.ensures in
    let reported : ComplainsOn c.args.self.now.is_open ok before after bytes =
    subst (λ (o : Bool). ComplainsOn o ok before after bytes) (sym c.requires)
    (sent c.send-in-Some-complaint.result ok before after bytes c.is_ok-self-in-Some-complaint.ensures.value c.send-in-Some-complaint.ensures.ok c.send-in-Some-complaint.ensures.err) in
    reported_fixed c.args.limits.now.bounds output c.args.script.now.line c.args.script.now.wrong c.args.reply.now c.args.self.now.is_open ok before after bytes fixed reported
