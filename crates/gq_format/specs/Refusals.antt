-- Refusals in plain words.
use Rattle.std.specs.Prelude.{ℕ, List, ◌++◌, codes, decimal, Option}
use Rattle.gq_reply.specs.declared.refusal.Refusal.{Refusal}
use Rattle.gq_reply.specs.declared.reply.Reply.TheVariants as reply
use Rattle.gq_reply.specs.Replies.{text}

-- what standard error says of the command on a line: its reply, and these words below it
abbrev pub refusal_lead : ℕ → Refusal → Option ℕ → List ℕ
refusal_lead line why number = codes "groupsh: line " ++ decimal line ++ codes ": " ++ text (reply.Refused why number) ++ codes "  "

abbrev pub refusal_text : ℕ → Refusal → Option ℕ → List ℕ → List ℕ
refusal_text line why number words = refusal_lead line why number ++ words ++ codes "\n"

-- the words on a line that isn't a command: a column, and the message
abbrev pub diagnosis : ℕ → List ℕ → List ℕ
diagnosis column message = codes "column " ++ decimal column ++ codes ": " ++ message
