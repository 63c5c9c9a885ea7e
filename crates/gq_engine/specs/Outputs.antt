-- What a run writes of its replies: to the standard output their texts in an output, and to the standard error what is said of refusals.
use Rattle.std.specs.Prelude.{◌≡◌, ◌≤◌, ◌+◌, ◌⊎◌, IfSome, ⊤, ℕ, Bool, true, false, ◌||◌, List, [], ◌∷◌, ◌++◌, length, count_by, if◌then◌else◌, Option, Some, None, Result, Ok, Err}
use Rattle.std.specs.List.{list_any}
use Rattle.std.specs.Io.KnownBytes.{Appends}
use Rattle.gq_row.specs.declared.value.Value.{Value}
use Rattle.gq_command.specs.Commands.{Bytes}
use Rattle.gq_row.specs.declared.limits.Bounds.{Bounds}
use Rattle.gq_command.specs.Script.{Gathers, Numbered, OpenLine, entries_of, line_of, numbered}
use Rattle.gq_check.specs.Reports.{IsOneLine}
use Rattle.gq_reply.specs.declared.refusal.Refusal.TheVariants as refusal
use Rattle.gq_reply.specs.Refusals.{words_of}
use Rattle.gq_reply.specs.declared.reply.Reply.{Reply}
use Rattle.gq_reply.specs.declared.reply.Reply.TheVariants as reply
use Rattle.gq_reply.specs.Replies.{text, is_refusal}
use Rattle.gq_format.specs.Formats.{result_text, separator_of}
use Rattle.gq_format.specs.declared.format.Format.TheVariants as format
use Rattle.gq_format.specs.Refusals.{diagnosis, refusal_text}
use Rattle.gq_engine.specs.declared.output.Output.{Output}
use Rattle.gq_engine.specs.declared.output.Output.TheVariants.{Replies, Results}
use Rattle.gq_engine.specs.declared.run.Summary.{Summary}
use Rattle.gq_engine.specs.declared.run.Fault.{Fault}
use Rattle.gq_engine.specs.declared.run.Fault.TheVariants as fault
use Rattle.gq_engine.specs.Headline.{Answered, State}
use Rattle.gq_engine.specs.Runs.{Setting}
use Rattle.gq_reply.specs.Sending.{AppendsPrefix}

abbrev pub is_result : Reply → Bool
is_result (reply.Done n) = false
is_result (reply.Rows header rows) = true
is_result (reply.Refused why number) = false

-- what comes before a result, if another came earlier
abbrev pub between : Output → Bool → Bytes
between Replies earlier = []
between (Results format) earlier = if earlier then separator_of format else []

-- a result in an output
abbrev pub result_in : Output → List Bytes → List (List Value) → Bytes
result_in Replies header rows = text (reply.Rows header rows)
result_in (Results format) header rows = result_text format header rows

-- the reply is a result with this text
abbrev pub IsResultIn : Output → Reply → Bytes → Type 0
IsResultIn output (reply.Done n) bytes = ⊥
IsResultIn output (reply.Rows header rows) bytes = bytes ≡ result_in output header rows
IsResultIn output (reply.Refused why number) bytes = ⊥

-- a reply that is no result: its line, or nothing
abbrev pub line_in : Output → Reply → Bytes
line_in Replies r = text r
line_in (Results format) r = []

-- a reply that is written without allocation: a line, or a result as CSV records
abbrev pub IsDirect : Output → Reply → Type 0
IsDirect output (reply.Done n) = Unit {0}
IsDirect output (reply.Rows header rows) = output ≡ Results format.Csv
IsDirect output (reply.Refused why number) = Unit {0}

-- what a reply brings to the standard output
abbrev pub text_as : Output → Bool → Reply → Bytes
text_as output earlier (reply.Done n) = line_in output (reply.Done n)
text_as output earlier (reply.Rows header rows) = between output earlier ++ result_in output header rows
text_as output earlier (reply.Refused why number) = line_in output (reply.Refused why number)

-- what replies bring to it, one after the other
abbrev pub texts_after : Output → Bool → List Reply → Bytes
texts_after output earlier [] = []
texts_after output earlier (r ∷ rs) = text_as output earlier r ++ texts_after output (earlier || is_result r) rs

abbrev pub texts : Output → List Reply → Bytes
texts output replies = texts_after output false replies

-- the report on the standard error of the reply to the command on a line, in fixed words
abbrev pub complaint : Output → ℕ → Reply → Bytes
complaint Replies line r = []
complaint (Results format) line (reply.Done n) = []
complaint (Results format) line (reply.Rows header rows) = []
complaint (Results format) line (reply.Refused why number) = refusal_text line why number (words_of why)

-- a complaint about an item whose line is no command: a column in its line or right after it, of which the first byte's is 1, and a message of one line
pub record Diagnosed (item : Numbered) (number : Option ℕ) (text : Bytes) : Type 0 where
  pub column : ℕ
  pub message : Bytes
  pub is : text ≡ refusal_text item.number refusal.Syntax number (diagnosis column message)
  pub within : (1 ≤ column) × (column ≤ length (line_of item.entry) + 1)
  pub one_line : IsOneLine message

abbrev pub IsDiagnosed : Output → Numbered → Reply → Bytes → Type 0
IsDiagnosed Replies item r text = ⊥
IsDiagnosed (Results format) item (reply.Done n) text = ⊥
IsDiagnosed (Results format) item (reply.Rows header rows) text = ⊥
IsDiagnosed (Results format) item (reply.Refused why number) text = (why ≡ refusal.Syntax) × Diagnosed item number text

-- the report of the reply to an item: a line that isn't a command may be diagnosed
abbrev pub IsComplaint : Output → Numbered → Reply → Bytes → Type 0
IsComplaint output item r text = (text ≡ complaint output item.number r) ⊎ IsDiagnosed output item r text

-- the reports of the replies to these items
abbrev pub AreComplaints : Output → List Numbered → List Reply → Bytes → Type 0
AreComplaints output [] replies said = said ≡ []
AreComplaints output (x ∷ xs) [] said = said ≡ []
AreComplaints output (x ∷ xs) (r ∷ rs) said = (text : Bytes) × (rest : Bytes) × (said ≡ text ++ rest) × IsComplaint output x r text × AreComplaints output xs rs rest

-- all texts but the last were written, and a prefix of that
pub record WroteInPart (output : Output) (replies : List Reply) (before after : Option Bytes) : Type 0 where
  pub first : List Reply
  pub last : Reply
  pub is : replies ≡ first ++ last ∷ []
  pub prefix : Bytes
  pub rest : Bytes
  pub cut : text_as output (list_any is_result first) last ≡ prefix ++ rest
  pub written : Appends before after (texts output first ++ prefix)

-- all texts were written, where no write failed
abbrev pub WroteTexts : Output → List Reply → Option Bytes → Option Bytes → Result Summary Fault → Type 0
WroteTexts output replies before after (Ok summary) = Appends before after (texts output replies)
WroteTexts output replies before after (Err fault.Read) = Appends before after (texts output replies)
WroteTexts output replies before after (Err fault.Write) = WroteInPart output replies before after

-- a run that reached the end of a script within the limit left nothing, and counted its replies
pub record CameToEnd (setting : Setting) (script : Bytes) (left : List Numbered) (replies : List Reply) (summary : Summary) : Type 0 where
  pub within : length script ≤ setting.limits.script
  pub nothing_left : left ≡ []
  pub commands : summary.commands ≡ length replies
  pub refused : summary.refused ≡ count_by is_refusal replies

abbrev pub Ends : Setting → Bytes → List Numbered → List Reply → Result Summary Fault → Type 0
Ends setting script left replies (Ok summary) = CameToEnd setting script left replies summary
Ends setting script left replies (Err why) = ⊤

-- A prefix of the script's items were answered, their texts written, and the refusals among them reported with the numbers of their lines, as far as the standard error took it; all items, if there was no fault.
pub record RanInto (output : Output) (setting : Setting) (old : State) (script : Bytes) (new : State) (before after errors reported : Option Bytes) (ended : Result Summary Fault) : Type 0 where
  pub done : List Numbered
  pub left : List Numbered
  pub first : numbered setting.limits script ≡ done ++ left
  pub replies : List Reply
  pub answered : Answered setting old (entries_of done) new replies
  pub wrote : WroteTexts output replies before after ended
  pub said : Bytes
  pub complaints : AreComplaints output done replies said
  pub complained : AppendsPrefix errors reported said
  pub ends : Ends setting script left replies ended

-- the same where the script's bytes are known
abbrev pub RanAs : Output → Setting → State → Option Bytes → State → Option Bytes → Option Bytes → Option Bytes → Option Bytes → Result Summary Fault → Type 0
RanAs output setting old None new before after errors reported ended = ⊤
RanAs output setting old (Some script) new before after errors reported ended = RanInto output setting old script new before after errors reported ended

-- bytes were sent to a stream that takes them or has failed, and then takes nothing more
abbrev pub ComplainsOn : Bool → Bool → Option Bytes → Option Bytes → Bytes → Type 0
ComplainsOn true true before after bytes = Appends before after bytes
ComplainsOn true false before after bytes = AppendsPrefix before after bytes
ComplainsOn false true before after bytes = ⊥
ComplainsOn false false before after bytes = after ≡ before

-- so was a complaint about any item with this number of whose line this is kept
pub record Complains (b : Bounds) (output : Output) (line : ℕ) (wrong : Option OpenLine) (r : Reply) (was_open is_open : Bool) (before after : Option Bytes) : Type 0 where
  pub text : Bytes
  pub about : (item : Numbered) → item.number ≡ line → IfSome wrong (λ kept. Gathers b.line kept (line_of item.entry)) → IsComplaint output item r text
  pub reported : ComplainsOn was_open is_open before after text
