-- What checking a script did.
use Rattle.std.specs.Prelude.{◌≡◌, ◌⊎◌, ℕ, Bool, true, false, List, [], ◌∷◌, ◌++◌, codes, flat_map, Option, Some, None, Result, Ok, Err, IfSome}
use Rattle.std.specs.declared.io.Error.{Error}
use Rattle.gq_row.specs.Limits.{GREATEST}
use Rattle.gq_token.specs.Texts.{some}
use Rattle.gq_command.specs.Commands.{Bytes}
use Rattle.gq_command.specs.Script.{Numbered, numbered, without_mark}
use Rattle.gq_check.specs.declared.report.Report.{Report}
use Rattle.gq_check.specs.Reports.{Place, Reports, report_text}
use Rattle.gq_options.specs.CommandLine.{Text}
use Rattle.gq_shell.specs.Sources.{Sources, Stopped, StoppedBy, StoppedForMemory, script_of}
use Rattle.gq_shell.specs.Streams.{Stream, Got, GotPrefix, IsUntouched}
use Rattle.gq_shell.specs.declared.checking.CheckStop.{CheckStop}
use Rattle.gq_shell.specs.declared.checking.CheckStop.TheVariants as stop

-- the texts of reports, of a script of this name
abbrev pub texts : Bytes → List Report → Bytes
texts name reports = flat_map (report_text name) reports

-- The reports of a script went to the standard output, one for each item that reading refuses; `any` is whether there is one.
pub record ReportedAll (name script : Bytes) (replies : Stream) (any : Bool) : Type 0 where
  pub reports : List Report
  pub are : Reports GREATEST (numbered GREATEST script) reports
  pub reported : Got replies (texts name reports)
  pub any_is : any ≡ some reports

-- The reports of some first items went there, the last perhaps cut short.
pub record ReportedPrefix (name script : Bytes) (replies : Stream) : Type 0 where
  pub done : List Numbered
  pub left : List Numbered
  pub first : numbered GREATEST script ≡ done ++ left
  pub reports : List Report
  pub are : Reports GREATEST done reports
  pub reported : GotPrefix replies (texts name reports)

abbrev pub ReportedAs : Bytes → Option Bytes → Stream → Result Bool CheckStop → Type 0
ReportedAs name script replies (Ok any) = IfSome script (λ bytes. ReportedAll name bytes replies any)
ReportedAs name script replies (Err why) = IfSome script (λ bytes. ReportedPrefix name bytes replies)

-- a report was written, or a prefix of it
abbrev pub WroteReport : Bytes → Report → Stream → Result (Unit {0}) CheckStop → Type 0
WroteReport name r replies (Ok done) = Got replies (report_text name r)
WroteReport name r replies (Err why) = GotPrefix replies (report_text name r)

-- the place at which the check of a script begins
pub record Begins (script : Option Bytes) (start : Place) : Type 0 where
  pub left : IfSome script (λ bytes. start.left ≡ Some (without_mark bytes))
  pub lines : start.lines ≡ 0

-- the exit status of a check, and what the standard error got
abbrev pub EndedCheck : Result Bool CheckStop → Stream → ℕ → Type 0
EndedCheck (Ok true) errors status = IsUntouched errors × (status ≡ 1)
EndedCheck (Ok false) errors status = IsUntouched errors × (status ≡ 0)
EndedCheck (Err stop.Read) errors status = Stopped errors (codes "groupsh: read fault\n") 3 status
EndedCheck (Err stop.Write) errors status = Stopped errors (codes "groupsh: write fault\n") 3 status
EndedCheck (Err stop.Memory) errors status = StoppedForMemory errors status

-- A script was checked: its reports were written, and the status says how that ended.
pub record CheckedScript (name : Bytes) (script : Option Bytes) (replies errors : Stream) (status : ℕ) : Type 0 where
  pub ended : Result Bool CheckStop
  pub reported : ReportedAs name script replies ended
  pub status_is : EndedCheck ended errors status

-- what opening a path gave was checked; or it could not be opened
abbrev pub CheckedOpened : {S : Type 0} → Sources S → Text → Result S Error → Stream → Stream → ℕ → Type 0
CheckedOpened sources name (Ok script) replies errors status = CheckedScript name (sources.remaining script) replies errors status
CheckedOpened sources name (Err e) replies errors status = IsUntouched replies × StoppedBy e (codes "groupsh: cannot open script\n") 3 errors status

-- without a path the standard input is the script, and has a name of its own in reports
abbrev pub CheckedNamed : {S : Type 0} → Sources S → Option Text → Stream → Stream → ℕ → Type 0
CheckedNamed sources None replies errors status = CheckedScript (codes "<stdin>") sources.input replies errors status
CheckedNamed {S} sources (Some path) replies errors status =
    (opened : Result S Error) × sources.opens path opened × CheckedOpened sources path opened replies errors status

-- commands of the command line are the script, if there are any, and have a name of their own too
abbrev pub CheckedGiven : {S : Type 0} → Sources S → Option Text → List Text → Stream → Stream → ℕ → Type 0
CheckedGiven sources path [] replies errors status = CheckedNamed sources path replies errors status
CheckedGiven sources path (lines ∷ more) replies errors status =
    CheckedScript (codes "<command>") (Some (script_of (lines ∷ more))) replies errors status
    ⊎ (IsUntouched replies × StoppedForMemory errors status)
