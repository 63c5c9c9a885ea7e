-- The bytes of a reply.
use Rattle.std.specs.Prelude.{ℕ, Bool, true, false, List, [], ◌++◌, length, map, flat_map, codes, decimal, Option, Some, None}
use Rattle.std.specs.Fmt.{signed_decimal}
use Rattle.csv.specs.Writing.{row_text, default_writer}
use Rattle.gq_row.specs.declared.value.Value.{Value}
use Rattle.gq_row.specs.declared.value.Value.TheVariants.{Null, Int, Text, NoCase}
use Rattle.gq_reply.specs.declared.refusal.Refusal.{Refusal}
use Rattle.gq_reply.specs.declared.refusal.Refusal.TheVariants as refusal
use Rattle.gq_reply.specs.declared.reply.Reply.{Reply}
use Rattle.gq_reply.specs.declared.reply.Reply.TheVariants as reply

abbrev pub code_of : Refusal → ℕ
code_of refusal.Syntax = 1
code_of refusal.LineTooLong = 2
code_of refusal.NoTable = 3
code_of refusal.TableExists = 4
code_of refusal.NoColumn = 5
code_of refusal.TypeMismatch = 6
code_of refusal.NoKey = 7
code_of refusal.NullKey = 8
code_of refusal.Header = 9
code_of refusal.FieldCount = 10
code_of refusal.BadInt = 11
code_of refusal.BadText = 12
code_of refusal.SumRange = 13
code_of refusal.Limit = 14
code_of refusal.Memory = 15
code_of refusal.StoreFault = 16
code_of refusal.Damaged = 17
code_of refusal.LoadOpen = 18

abbrev pub name_of : Refusal → List ℕ
name_of refusal.Syntax = codes "Syntax"
name_of refusal.LineTooLong = codes "LineTooLong"
name_of refusal.NoTable = codes "NoTable"
name_of refusal.TableExists = codes "TableExists"
name_of refusal.NoColumn = codes "NoColumn"
name_of refusal.TypeMismatch = codes "TypeMismatch"
name_of refusal.NoKey = codes "NoKey"
name_of refusal.NullKey = codes "NullKey"
name_of refusal.Header = codes "Header"
name_of refusal.FieldCount = codes "FieldCount"
name_of refusal.BadInt = codes "BadInt"
name_of refusal.BadText = codes "BadText"
name_of refusal.SumRange = codes "SumRange"
name_of refusal.Limit = codes "Limit"
name_of refusal.Memory = codes "Memory"
name_of refusal.StoreFault = codes "StoreFault"
name_of refusal.Damaged = codes "Damaged"
name_of refusal.LoadOpen = codes "LoadOpen"

-- the field of a value: null is \N, a number its decimal, a text its bytes, with case or without
abbrev pub cell_text : Value → List ℕ
cell_text Null = codes "\\N"
cell_text (Int n) = signed_decimal n
cell_text (Text t) = t
cell_text (NoCase t) = t

-- a record as the CSV writer writes it
abbrev pub record_text : List (List ℕ) → List ℕ
record_text fields = row_text default_writer fields

-- the header and the rows, one record each
abbrev pub records_text : List (List ℕ) → List (List Value) → List ℕ
records_text header rows = record_text header ++ flat_map (λ row. record_text (map cell_text row)) rows

abbrev pub record_number : Option ℕ → List ℕ
record_number None = []
record_number (Some n) = codes " " ++ decimal n

abbrev pub accepted : ℕ → List ℕ
accepted n = codes "ok " ++ decimal n ++ codes "\n"

abbrev pub text : Reply → List ℕ
text (reply.Done n) = accepted n
text (reply.Rows header rows) = accepted (length rows) ++ record_text header ++ flat_map (λ row. record_text (map cell_text row)) rows
text (reply.Refused why number) = codes "err " ++ decimal (code_of why) ++ codes " " ++ name_of why ++ record_number number ++ codes "\n"

-- a reply of one line, which is written without allocation
abbrev pub IsLine : Reply → Type 0
IsLine (reply.Done n) = Unit {0}
IsLine (reply.Rows header rows) = ⊥
IsLine (reply.Refused why number) = Unit {0}

abbrev pub is_refusal : Reply → Bool
is_refusal (reply.Done n) = false
is_refusal (reply.Rows header rows) = false
is_refusal (reply.Refused why number) = true
