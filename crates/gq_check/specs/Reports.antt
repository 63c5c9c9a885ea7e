-- The reports of a script.
use Rattle.std.specs.Prelude.{◌≡◌, ◌≢◌, ◌↔◌, ◌⊎◌, ◌≤◌, ℕ, ◌+◌, true, List, [], ◌∷◌, ◌++◌, length, codes, decimal, string_bytes, Option, Some, None, IfSome}
use Rattle.std.specs.List.{All, list_all}
use Rattle.gq_row.specs.declared.limits.Bounds.{Bounds}
use Rattle.gq_token.specs.Texts.{Bytes}
use Rattle.gq_script.specs.Payloads.{is_plain}
use Rattle.gq_script.specs.Script.{line_of}
use Rattle.gq_command.specs.Lines.{Says}
use Rattle.gq_command.specs.declared.command.Command.{Command}
use Rattle.gq_check.specs.declared.fault.Fault.{Fault}
use Rattle.gq_check.specs.declared.fault.Fault.TheVariants as why
use Rattle.gq_check.specs.declared.report.Report.{Report}
use Rattle.gq_check.specs.Findings.{IsFaultOf}
use Rattle.gq_script.specs.Numbering.{Numbered, numbered, numbered_left}

-- the fixed message of each fault but `Syntax`: its name, and what it is about
abbrev pub limit_message : Fault → Bytes
limit_message why.Syntax = []
limit_message why.LineTooLong = codes "LineTooLong: the line has more than 65536 bytes"
limit_message why.Limit = codes "Limit: a name has more than 63 bytes, a text more than 65535, or there are more than 128 columns or 16 aggregates"
limit_message why.LoadOpen = codes "LoadOpen: no line '\\.' ends the payload"
limit_message why.PayloadTooLong = codes "Limit: the payload has more than 268435456 bytes"

-- the bytes contain no line feed
abbrev pub IsOneLine : Bytes → Type 0
IsOneLine bytes = list_all is_plain bytes ≡ true

-- the report of an item: its line's number, why it is refused, a column (from 1) in its line or just past its end, and a message of one line, which is fixed for each fault but `Syntax`
pub record IsReportOf (b : Bounds) (x : Numbered) (r : Report) : Type 0 where
  pub line : r.line ≡ x.number
  pub fault : IsFaultOf b x.entry (Some r.fault)
  pub column : (1 ≤ r.column) × (r.column ≤ length (line_of x.entry) + 1)
  pub one_line : IsOneLine (string_bytes r.message)
  pub limit : r.fault ≢ why.Syntax → string_bytes r.message ≡ limit_message r.fault

-- the reports of items, in order: one for each item that is refused, and none for others
abbrev pub Reports : Bounds → List Numbered → List Report → Type 0
Reports b [] reports = reports ≡ []
Reports b (x ∷ xs) reports =
    (IsFaultOf b x.entry None × Reports b xs reports)
    ⊎ ((r : Report) × (rest : List Report) × (reports ≡ r ∷ rest) × IsReportOf b x r × Reports b xs rest)

-- a position in a script: the remaining bytes, if they are known, and the number of lines before them
pub record Place : Type 0 where
  pub left : Option Bytes
  pub lines : ℕ

-- the items between two positions have these reports
abbrev pub Between : Bounds → Place → Place → List Report → Type 0
Between b old new found = IfSome old.left (λ bytes. (rest : Bytes) × (new.left ≡ Some rest) × (passed : List Numbered) × (numbered_left b old.lines bytes ≡ passed ++ numbered_left b new.lines rest) × Reports b passed found)

-- the bytes are a prefix of a line that parses as a command
abbrev pub Leads : Bytes → Type 0
Leads front = (rest : Bytes) × (c : Command) × Says (front ++ rest) c

-- the text of a report: the script's name, the line, the column and the message
abbrev pub report_text : Bytes → Report → Bytes
report_text name r = name ++ codes ":" ++ decimal r.line ++ codes ":" ++ decimal r.column ++ codes ": " ++ string_bytes r.message ++ codes "\n"

-- a script has no reports if and only if each of its items reads as a command without a fault
abbrev pub CleanTells : Type 0
CleanTells = (b : Bounds) (script : Bytes) → Reports b (numbered b script) [] ↔ All (λ (x : Numbered). IsFaultOf b x.entry None) (numbered b script)
