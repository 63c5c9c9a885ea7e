-- The items that a reader of commands returns.
use Rattle.std.specs.Prelude.{◌≡◌, ℕ, ◌<◌, ◌≤◌, Bool, true, false, ◌∷◌, length, Option, Some, None, ◌⊎◌, IfSome}
use Rattle.gq_row.specs.declared.limits.Bounds.{Bounds}
use Rattle.gq_command.specs.declared.lines.LineRefusal.{LineRefusal}
use Rattle.gq_command.specs.declared.lines.LineRefusal.TheVariants as refusal
use Rattle.gq_command.specs.declared.reader.Item.{Item}
use Rattle.gq_command.specs.declared.reader.Item.TheVariants as item
use Rattle.gq_command.specs.declared.command.Payload.{Payload}
use Rattle.gq_command.specs.declared.command.Payload.TheVariants as payload
use Rattle.gq_command.specs.declared.command.Command.{Command}
use Rattle.gq_command.specs.declared.command.Command.TheVariants.{Load}
use Rattle.gq_command.specs.Commands.{Bytes, is_command, is_open, as_said, fits}
use Rattle.gq_command.specs.Lines.{Says}
use Rattle.gq_script.specs.Script.{Entry, Plain, Loading, line_of, raw_lines, first_entry, items_left}
use Rattle.gq_script.specs.Numbering.{numbered_left}
use Rattle.gq_script.specs.Gathering.{Gathers}
use Rattle.gq_script.specs.declared.gather.OpenLine.{OpenLine}

-- how a payload is returned: as its bytes within the limit, as `Open` if no line ends it, and as `TooLong` past the limit
abbrev pub Represents : ℕ → Option Bytes → Payload → Type 0
Represents most given (payload.Bytes bytes) = (given ≡ Some bytes) × (length bytes ≤ most)
Represents most given payload.Open = given ≡ None
Represents most given payload.TooLong = (bytes : Bytes) × (given ≡ Some bytes) × (most < length bytes)
Represents most given payload.NoMemory = ⊥

-- how a payload is returned if an allocation may fail: a payload that a line ends may also be `NoMemory`
abbrev pub MayRepresent : ℕ → Option Bytes → Payload → Type 0
MayRepresent most None p = Represents most None p
MayRepresent most (Some bytes) p = Represents most (Some bytes) p ⊎ (p ≡ payload.NoMemory)

-- the entry is this command, which is within the limits
abbrev pub IsCommandOf : Bounds → Entry → Command → Type 0
IsCommandOf b (Plain line) c = Says line c × (fits b c ≡ true)
IsCommandOf b (Loading line given) c = (table : Bytes) × (carried : Payload) × (c ≡ Load table carried) × Says line (Load table payload.Open) × (fits b (Load table payload.Open) ≡ true) × Represents b.payload given carried

-- why a line is refused: for its length, which is checked first; since it isn't a command; or since it is one past a limit
abbrev pub IsRefusalOf : Bounds → Bytes → LineRefusal → Type 0
IsRefusalOf b line refusal.LineTooLong = b.line < length line
IsRefusalOf b line refusal.Syntax = (length line ≤ b.line) × ((c : Command) → Says line c → ⊥)
IsRefusalOf b line refusal.Limit = (length line ≤ b.line) × ((c : Command) × Says line c × (fits b c ≡ false))
IsRefusalOf b line refusal.Memory = ⊥

-- what an entry is read as if no allocation fails
abbrev pub ReadsAs : Bounds → Entry → Item → Type 0
ReadsAs b e (item.Command c) = (length (line_of e) ≤ b.line) × IsCommandOf b e c
ReadsAs b e (item.Refused r) = IsRefusalOf b (line_of e) r

-- the entry is read as a load with a payload that a line ends, for which an allocation failed
pub record LosesPayload (b : Bounds) (e : Entry) (it : Item) : Type 0 where
  pub table : Bytes
  pub carried : Payload
  pub reads : ReadsAs b e (item.Command (Load table carried))
  pub closed : is_open carried ≡ false
  pub is : it ≡ item.Command (Load table payload.NoMemory)

-- what an entry is read as: if an allocation fails, `Memory` may replace each item, and `NoMemory` each payload that a line ends
abbrev pub IsReadAs : Bounds → Entry → Item → Type 0
IsReadAs b e it = ReadsAs b e it ⊎ ((it ≡ item.Refused refusal.Memory) ⊎ LosesPayload b e it)

-- a command of an item is within the limits of a line, and is one that a line can say, apart from a load's payload
abbrev pub IsReady : Bounds → Item → Type 0
IsReady b (item.Command c) = (is_command (as_said c) ≡ true) × (fits b c ≡ true)
IsReady b (item.Refused r) = Unit {0}

-- of the bytes that were left after `n` lines the first entry was taken, with the blank lines and comments before it and nothing after it: `number` is the number of its line, `m` lines were taken in all, `wrong` is its line if that is returned as wrong, and this item was read from it
pub record Gave (b : Bounds) (n : ℕ) (bytes : Bytes) (left : Option Bytes) (m number : ℕ) (wrong : Option OpenLine) (it : Item) : Type 0 where
  pub entry : Entry
  pub rest : Bytes
  pub first : first_entry b (raw_lines bytes) ≡ Some (entry, raw_lines rest)
  pub left_is : left ≡ Some rest
  pub order : items_left b bytes ≡ entry ∷ items_left b rest
  pub numbered : numbered_left b n bytes ≡ (record { number = number; entry = entry }) ∷ numbered_left b m rest
  pub kept : IfSome wrong (λ line. Gathers b.line line (line_of entry))
  pub reads : IsReadAs b entry it

-- the item with this payload, if it is a load
abbrev pub with_payload : Payload → Item → Item
with_payload p (item.Command (Load table carried)) = item.Command (Load table p)
with_payload p it = it

-- a reader: its remaining bytes, how many it gave, how many lines it took, the number of the last item's line, that line if it is returned as wrong, and whether a read failed
pub record Pending : Type 0 where
  pub left : Option Bytes
  pub given : ℕ
  pub lines : ℕ
  pub line : ℕ
  pub wrong : Option OpenLine
  pub failed : Bool
