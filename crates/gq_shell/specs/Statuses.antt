-- What each exit status means for a session whose script is known.
use Rattle.std.specs.Prelude.{◌≡◌, ◌≢◌, ◌⊎◌, ℕ, Some}
use Rattle.gq_command.specs.Commands.{Bytes}
use Rattle.gq_engine.specs.declared.run.Summary.{Summary}
use Rattle.gq_engine.specs.declared.output.Output.TheVariants.{Replies}
use Rattle.gq_engine.specs.Headline.{RanToEnd, State, StoppedReading, StoppedWriting}
use Rattle.gq_engine.specs.Runs.{Setting}
use Rattle.gq_shell.specs.Session.{EndedWith}
use Rattle.gq_shell.specs.Streams.{Stream}

-- one session's script, streams, states and report, its status aside; it writes replies
pub record Course : Type 0 where
  pub setting : Setting
  pub old : State
  pub script : Bytes
  pub new : State
  pub report : Bytes
  pub replies : Stream
  pub errors : Stream

abbrev pub Ends : Course → ℕ → Type 0
Ends c status = EndedWith Replies c.setting c.old (Some c.script) c.new c.report c.replies c.errors status

-- each item of the script was answered, and these are the counts
abbrev pub AnsweredAll : Course → Summary → Type 0
AnsweredAll c summary = RanToEnd c.setting c.old c.script c.new c.replies.before c.replies.after summary

-- 0: each item was answered and none refused. 1: each was answered and some were refused. 3: a fault stopped the run. There is no other.
pub record StatusesMean : Type 0 where
  pub zero : (c : Course) → Ends c 0 → (summary : Summary) × AnsweredAll c summary × (summary.refused ≡ 0)
  pub one : (c : Course) → Ends c 1 → (summary : Summary) × AnsweredAll c summary × (summary.refused ≢ 0)
  pub three : (c : Course) → Ends c 3 → StoppedReading c.setting c.old c.script c.new c.replies.before c.replies.after ⊎ StoppedWriting c.setting c.old c.script c.new c.replies.before c.replies.after
  pub only : (c : Course) (status : ℕ) → Ends c status → (status ≡ 0) ⊎ ((status ≡ 1) ⊎ (status ≡ 3))
