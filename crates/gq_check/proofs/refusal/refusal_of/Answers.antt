use Rattle.std.proofs.Common.{◌≡◌, ◌<◌, true, false, refl, sym, subst, length}
use Rattle.std.specs.Prelude.{Result, Ok, Err, IfOk, IsErrOf}
use Rattle.std.specs.Result.{result_err}
use Rattle.gq_row.specs.declared.limits.Bounds.{Bounds}
use Rattle.gq_token.specs.Texts.{Bytes}
use Rattle.gq_command.specs.Commands.{fits}
use Rattle.gq_command.specs.Lines.{Says}
use Rattle.gq_command.specs.declared.command.Command.{Command}
use Rattle.gq_command.specs.declared.lines.LineRefusal.{LineRefusal}
use Rattle.gq_command.specs.declared.lines.LineRefusal.TheVariants as refusal
use Rattle.gq_check.specs.Findings.{IsToldOf}
use Rattle.gq_check.proofs.refusal.refusal_of.Goals as goal

told : (b : Bounds) (line : Bytes) (r : Result Command LineRefusal) → IfOk r (λ c. Says line c) → IfOk r (λ c. fits b c ≡ true)
    → (IsErrOf r refusal.Syntax → (c : Command) → Says line c → ⊥) → (IsErrOf r refusal.Limit → (c : Command) × Says line c × (fits b c ≡ false)) → (IsErrOf r refusal.LineTooLong → b.line < length line)
    → IsToldOf b line (result_err r)
told b line (Ok c) said within syntax limit too = (c, said, within)
told b line (Err refusal.Syntax) said within syntax limit too = syntax refl
told b line (Err refusal.LineTooLong) said within syntax limit too = too refl
told b line (Err refusal.Limit) said within syntax limit too = limit refl
told b line (Err refusal.Memory) said within syntax limit too = tt

pub returns : goal.returns
returns c =
    let b = c.args.limits.now.bounds in
    let line = c.args.line.now in
    let h = c.parse_line.ensures in
    subst (IsToldOf b line) (sym c.err.ensures.value) (told b line c.parse_line.result h.said h.within h.syntax h.limit h.too_long.0)
