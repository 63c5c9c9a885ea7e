-- What a session did, and what its status means.
use Rattle.std.specs.Prelude.{◌≡◌, ◌==◌, ◌++◌, ℕ, Bool, [], if◌then◌else◌, codes, decimal, Option, Result, Ok, Err}
use Rattle.gq_command.specs.Commands.{Bytes}
use Rattle.gq_group.specs.declared.grouping.Spent.{Spent}
use Rattle.gq_engine.specs.declared.run.Summary.{Summary}
use Rattle.gq_engine.specs.declared.run.Fault.{Fault}
use Rattle.gq_engine.specs.declared.run.Fault.TheVariants.{Read, Write}
use Rattle.gq_engine.specs.declared.output.Output.{Output}
use Rattle.gq_engine.specs.declared.output.Output.TheVariants.{Replies}
use Rattle.gq_engine.specs.Headline.{State}
use Rattle.gq_engine.specs.Outputs.{RanAs}
use Rattle.gq_engine.specs.Runs.{Setting}
use Rattle.gq_reply.specs.Sending.{AppendsPrefix}
use Rattle.gq_shell.specs.Streams.{Stream}
use Rattle.gq_shell.specs.declared.seeding.RunSeed.{RunSeed}
use Rattle.gq_shell.specs.declared.seeding.RunSeed.TheVariants.{Given, Drawn}

-- the exit status: 0 where all commands were accepted, 1 where some were refused, 3 after a fault
abbrev pub status_of : Result Summary Fault → ℕ
status_of (Ok summary) = if summary.refused == 0 then 0 else 1
status_of (Err fault) = 3

-- the number of a seed, wherever it comes from
abbrev pub number_of : RunSeed → ℕ
number_of (Given number) = number
number_of (Drawn number) = number

-- what a line shows of the seed: the number, if it was drawn
abbrev pub seed_text : RunSeed → Bytes
seed_text (Given number) = []
seed_text (Drawn number) = codes ", seed " ++ decimal number

-- the line on the work of a session's groupings, and on the seed
abbrev pub work_line : RunSeed → Spent → Bytes
work_line seed spent = codes "groupsh: read " ++ decimal spent.rows_read ++ codes ", written " ++ decimal spent.rows_written ++ codes ", groups " ++ decimal spent.groups ++ codes ", runs " ++ decimal spent.runs ++ seed_text seed ++ codes "\n"

-- the same where it is asked for, and else nothing
abbrev pub report_of : Bool → RunSeed → Spent → Bytes
report_of stats seed spent = if stats then work_line seed spent else []

-- what the standard error says: of a fault its line, and otherwise the report
abbrev pub errors_text : Bytes → Result Summary Fault → Bytes
errors_text report (Ok summary) = report
errors_text report (Err Read) = codes "groupsh: read fault\n"
errors_text report (Err Write) = codes "groupsh: write fault\n"

-- The engine ran and ended as the status says. The standard error got the refusals, and none of them if replies are written; then a fault, or otherwise the report, as far as it took it.
pub record EndedWith (output : Output) (setting : Setting) (old : State) (script : Option Bytes) (new : State) (report : Bytes) (replies errors : Stream) (status : ℕ) : Type 0 where
  pub ended : Result Summary Fault
  pub refusals : Option Bytes
  pub ran : RanAs output setting old script new replies.before replies.after errors.before refusals ended
  pub quiet : output ≡ Replies → refusals ≡ errors.before
  pub status_is : status ≡ status_of ended
  pub reported : AppendsPrefix refusals errors.after (errors_text report ended)
