use Rattle.std.proofs.Common.{Bool, [], ◌∷◌, ◌++◌, Option, Result, Ok, Err, refl, subst, sym}
use Rattle.std.proofs.lemmas.Bool.{true≢false}
use Rattle.std.specs.Prelude.{IfSome, IsErr}
use Rattle.gq_row.specs.Limits.{GREATEST}
use Rattle.gq_row.specs.declared.limits.Bounds.{Bounds}
use Rattle.gq_command.specs.Commands.{Bytes}
use Rattle.gq_command.specs.Script.{numbered_left}
use Rattle.gq_check.specs.Reports.{Between, Reports}
use Rattle.gq_check.proofs.Steps.{nothing-between}
use Rattle.gq_reply.proofs.Bytes.{appends_nothing}
use Rattle.gq_shell.proofs.CheckLemmas.{reported-all, reported-cut, reported-prefix, reports-more}
use Rattle.gq_shell.specs.Checking.{ReportedPrefix, ReportedAs}
use Rattle.gq_shell.specs.Streams.{Stream}
use Rattle.gq_shell.specs.declared.checking.CheckStop.{CheckStop}
use Rattle.gq_shell.proofs.checking.report_all.Goals as goal

-- after an error a prefix was written
stopped : (name : Bytes) (script : Option Bytes) (replies : Stream) (r : Result Bool CheckStop) → IsErr r → IfSome script (λ bytes. ReportedPrefix name bytes replies) → ReportedAs name script replies r
stopped name script replies (Ok any) is prefix = absurd (true≢false (sym is))
stopped name script replies (Err why) is prefix = prefix

pub loop-init : goal.loop-init
loop-init g c = ([], record { between = nothing-between GREATEST c.args.checker.now; written = appends_nothing _; any_is = refl })

pub returns-in-Err : goal.returns-in-Err
returns-in-Err g c = λ script begins. reported-prefix _ script _ c.loop.checker _ _ c.loop.any _ begins c.loop.invariant.1

pub returns : goal.returns
returns g c = λ script begins. reported-prefix _ script _ c.loop.checker _ _ c.loop.any _ begins c.loop.invariant.1

pub returns-in-Ok-None : goal.returns-in-Ok-None
returns-in-Ok-None g c = λ script begins.
    let P : Bounds → Type 0 = λ b. IfSome c.loop.checker.left (λ bytes. Reports b (numbered_left b c.loop.checker.lines bytes) []) in
    reported-all _ script _ c.loop.checker _ _ c.loop.any _ begins c.loop.invariant.1
    (subst P c.greatest-limits.ensures (rw c.in-Ok-None.field-0-is at c.in-Ok-None.ensures.end))

pub returns-in_err-write_report : goal.returns-in_err-write_report
returns-in_err-write_report g c = λ script begins.
    let r = c.in-Ok-Some.report in
    let P : Bounds → Type 0 = λ b. Between b c.loop.checker c.next.new.self (r ∷ []) in
    stopped _ script _ _ c.from_residual.ensures.0
    (reported-cut _ script _ c.loop.checker c.next.new.self _ _ _ c.loop.any _ r begins c.loop.invariant.1
    (subst P c.greatest-limits.ensures (rw c.in-Ok-Some.field-0-is at c.in-Ok-Some.ensures.report))
    (rw c.in_err-write_report.was at c.write_report.ensures))

pub loop-preserved : goal.loop-preserved
loop-preserved g c =
    let r = c.in-Ok-Some.report in
    let P : Bounds → Type 0 = λ b. Between b c.loop.checker c.next.new.self (r ∷ []) in (
      c.loop.invariant.0 ++ r ∷ [],
      reports-more _ c.args.checker.now c.loop.checker c.next.new.self _ _ _ c.loop.any c.loop.invariant.0 r c.loop.invariant.1
          (subst P c.greatest-limits.ensures (rw c.in-Ok-Some.field-0-is at c.in-Ok-Some.ensures.report))
          (rw c.in_ok-write_report.was at c.write_report.ensures),
    )
