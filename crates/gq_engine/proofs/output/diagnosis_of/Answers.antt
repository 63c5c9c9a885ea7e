use Rattle.std.proofs.Common.{◌≡◌, ℕ, sym, ap, subst, ◌∙◌}
use Rattle.std.specs.Prelude.{string_bytes}
use Rattle.std.proofs.lemmas.Result.{IfOk-weaker}
use Rattle.gq_command.specs.Script.{Gathers, Numbered, line_of}
use Rattle.gq_check.specs.Reports.{IsOneLine}
use Rattle.gq_reply.specs.declared.refusal.Refusal.TheVariants as refusal
use Rattle.gq_format.specs.Refusals.{diagnosis, refusal_text}
use Rattle.gq_engine.specs.Outputs.{Diagnosed}
use Rattle.gq_engine.proofs.output.diagnosis_of.Goals as goal

pub returns : goal.returns
returns c =
    let column = c.in_ok-report.report.column in
    let message = c.as_str-message.result.now in
    IfOk-weaker c.diagnosis_text.result
    (λ text. string_bytes text ≡ refusal_text c.args.line refusal.Syntax c.args.number (diagnosis column message))
    (λ text. (item : Numbered) → item.number ≡ c.args.line → Gathers c.args.limits.now.bounds.line c.args.wrong.now (line_of item.entry) → Diagnosed item c.args.number (string_bytes text))
    (λ text e item num kept. record {
      column = column;
      message = message;
      is = e ∙ ap (λ (n : ℕ). refusal_text n refusal.Syntax c.args.number (diagnosis column message)) (sym num);
      within = c.in_ok-report.ensures.column (line_of item.entry) kept;
      one_line = subst IsOneLine (sym c.as_str-message.ensures.value) c.in_ok-report.ensures.one_line;
    })
    c.diagnosis_text.ensures
