-- What a load finds in its payload.
use Rattle.std.specs.Prelude.{◌≡◌, ◌⊎◌, ℕ, Bool, true, false, List, Option, Some, IfSome, Result, Ok, Err}
use Rattle.gq_row.specs.declared.value.Value.{Value}
use Rattle.gq_row.specs.declared.limits.Bounds.{Bounds}
use Rattle.gq_row.specs.Schemas.{PlainSchema}
use Rattle.gq_load.specs.declared.load_refusal.LoadRefusal.{LoadRefusal}
use Rattle.gq_load.specs.declared.load_refusal.LoadRefusal.TheVariants as fault
use Rattle.gq_load.specs.declared.row_fault.RowFault.{RowFault}
use Rattle.gq_load.specs.declared.row_fault.RowFault.TheVariants as row_fault
use Rattle.gq_load.specs.declared.short_records.Short.{Short}
use Rattle.gq_load.specs.Payloads.{load}
use Rattle.gq_command.specs.declared.command.Payload.{Payload}
use Rattle.gq_command.specs.declared.command.Payload.TheVariants as payload
use Rattle.gq_command.specs.Commands.{Bytes}
use Rattle.gq_reply.specs.declared.refusal.Refusal.{Refusal}
use Rattle.gq_reply.specs.declared.refusal.Refusal.TheVariants as refusal
use Rattle.gq_reply.specs.declared.refusal.Refused.{Refused}
use Rattle.gq_reply.specs.Refusals.{unnumbered}
use Rattle.gq_engine.specs.declared.csv_fault.CsvFault.{CsvFault}
use Rattle.gq_engine.specs.declared.csv_fault.CsvFault.TheVariants as csv_fault

-- a payload for which there was no memory
abbrev pub is_lost : Payload → Bool
is_lost (payload.Bytes bytes) = false
is_lost payload.Open = false
is_lost payload.TooLong = false
is_lost payload.NoMemory = true

-- the bytes of a payload, or why there are none
abbrev pub payload_bytes : Payload → Result Bytes Refused
payload_bytes (payload.Bytes bytes) = Ok bytes
payload_bytes payload.Open = Err (unnumbered refusal.LoadOpen)
payload_bytes payload.TooLong = Err (unnumbered refusal.Limit)
payload_bytes payload.NoMemory = Err (unnumbered refusal.Memory)

-- a refusal that names a record of a payload
abbrev pub numbered : Refusal → ℕ → Refused
numbered why number = record { why = why; number = Some number }

-- the refusal for a payload's fault, with the number of the faulty record where there is one
abbrev pub fault_refusal : LoadRefusal → Refused
fault_refusal (fault.NullKey number) = numbered refusal.NullKey number
fault_refusal fault.Header = unnumbered refusal.Header
fault_refusal (fault.FieldCount number) = numbered refusal.FieldCount number
fault_refusal (fault.BadInt number) = numbered refusal.BadInt number
fault_refusal (fault.BadText number) = numbered refusal.BadText number
fault_refusal fault.Limit = unnumbered refusal.Limit
fault_refusal fault.Memory = unnumbered refusal.Memory

-- the rows of a payload for a table of this schema, or the refusal for its first fault
abbrev pub refused_by : Result (List (List Value)) LoadRefusal → Result (List (List Value)) Refused
refused_by (Ok rows) = Ok rows
refused_by (Err fault) = Err (fault_refusal fault)

abbrev pub csv_rows : Short → Bounds → PlainSchema → Bytes → Result (List (List Value)) Refused
csv_rows short limits schema bytes = refused_by (load short schema limits bytes)

-- the fault of a CSV text, by that of its rows
abbrev pub csv_fault_of : RowFault → CsvFault
csv_fault_of (row_fault.Refused why) = csv_fault.Refused (fault_refusal why)
csv_fault_of row_fault.Read = csv_fault.Read

-- the refusal for it, if a read fails only when an allocation does
abbrev pub refused_in : CsvFault → Refused
refused_in (csv_fault.Refused why) = why
refused_in csv_fault.Read = unnumbered refusal.Memory

-- a CSV text is refused as reading it is, where it is known what that gives, or there was no memory, or a read failed
abbrev pub IsTold : {A : Type 0} → Option (Result A Refused) → CsvFault → Type 0
IsTold read (csv_fault.Refused why) = (why ≡ unnumbered refusal.Memory) ⊎ IfSome read (λ given. given ≡ Err why)
IsTold read csv_fault.Read = Unit {0}
