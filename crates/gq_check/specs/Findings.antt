-- Which items are refused, and why.
use Rattle.std.specs.Prelude.{◌≡◌, ◌<◌, true, false, ℕ, nat_lt, length, Option, Some, None, if◌then◌else◌}
use Rattle.gq_row.specs.declared.limits.Bounds.{Bounds}
use Rattle.gq_token.specs.Texts.{Bytes}
use Rattle.gq_script.specs.Script.{Entry, Plain, Loading}
use Rattle.gq_command.specs.Commands.{fits}
use Rattle.gq_command.specs.Items.{ReadsAs}
use Rattle.gq_command.specs.Lines.{Says}
use Rattle.gq_command.specs.declared.command.Command.{Command}
use Rattle.gq_command.specs.declared.lines.LineRefusal.{LineRefusal}
use Rattle.gq_command.specs.declared.lines.LineRefusal.TheVariants as refusal
use Rattle.gq_command.specs.declared.reader.Item.{Item}
use Rattle.gq_command.specs.declared.reader.Item.TheVariants as item
use Rattle.gq_check.specs.declared.fault.Fault.{Fault}
use Rattle.gq_check.specs.declared.fault.Fault.TheVariants as why

-- the fault of a line that is refused for this reason; out of memory is no fault of the line
abbrev pub refusal_fault : LineRefusal → Option Fault
refusal_fault refusal.Syntax = Some why.Syntax
refusal_fault refusal.LineTooLong = Some why.LineTooLong
refusal_fault refusal.Limit = Some why.Limit
refusal_fault refusal.Memory = None

-- what the outcome of a parse says about a line: `None` that it is a command within the limits, a reason why it isn't one, and `Memory` nothing
abbrev pub IsToldOf : Bounds → Bytes → Option LineRefusal → Type 0
IsToldOf b line None = (c : Command) × Says line c × (fits b c ≡ true)
IsToldOf b line (Some refusal.Syntax) = (c : Command) → Says line c → ⊥
IsToldOf b line (Some refusal.LineTooLong) = b.line < length line
IsToldOf b line (Some refusal.Limit) = (c : Command) × Says line c × (fits b c ≡ false)
IsToldOf b line (Some refusal.Memory) = Unit {0}

-- the fault of a load's payload: it is open, or it exceeds its limit
abbrev pub payload_fault : ℕ → Option Bytes → Option Fault
payload_fault most None = Some why.LoadOpen
payload_fault most (Some bytes) = if nat_lt most (length bytes) then Some why.PayloadTooLong else None

-- the fault of an entry that reads as this item: its line is refused, or else its payload has a fault
abbrev pub fault_in : Bounds → Entry → Item → Option Fault
fault_in b e (item.Refused r) = refusal_fault r
fault_in b (Plain line) (item.Command c) = None
fault_in b (Loading line given) (item.Command c) = payload_fault b.payload given

-- the entry reads as an item whose fault, if any, is `f`
abbrev pub IsFaultOf : Bounds → Entry → Option Fault → Type 0
IsFaultOf b e f = (it : Item) × ReadsAs b e it × (fault_in b e it ≡ f)
