-- Why a word's file is in no table.
use Rattle.std.specs.Prelude.{◌≡◌, ◌⊎◌, ℕ, Bool, true, false, List, Option, Some, is_some, slice_index_or, Result, Err}
use Rattle.std.specs.declared.io.Error.{Error}
use Rattle.gq_row.specs.declared.limits.Bounds.{Bounds}
use Rattle.gq_row.specs.declared.schema.Column.{Column}
use Rattle.gq_load.specs.declared.short_records.Short.{Short}
use Rattle.gq_command.specs.Commands.{Bytes}
use Rattle.gq_command.specs.declared.command.Payload.TheVariants as payload
use Rattle.gq_reply.specs.declared.refusal.Refusal.TheVariants as refusal
use Rattle.gq_reply.specs.declared.refusal.Refused.{Refused}
use Rattle.gq_reply.specs.Refusals.{unnumbered}
use Rattle.gq_engine.specs.Databases.{Database}
use Rattle.gq_engine.specs.Steps.{create, load_table}
use Rattle.gq_infer.specs.declared.fault.InferFault.{InferFault}
use Rattle.gq_infer.specs.declared.fault.InferFault.TheVariants as infer
use Rattle.gq_infer.specs.declared.word.TableWord.{TableWord}
use Rattle.gq_infer.specs.Files.{header_fault, same_columns}
use Rattle.gq_tables.specs.declared.fault.TableFault.{TableFault}
use Rattle.gq_tables.specs.declared.fault.Why.{Why}
use Rattle.gq_tables.specs.declared.fault.Why.TheVariants as why
use Rattle.gq_tables.specs.declared.files.Files.{Files}
use Rattle.gq_tables.specs.Files.{OfFile}

-- what is known of a refusal
abbrev pub IfRefused : Why → (Refused → Type 0) → Type 0
IfRefused why.CannotOpen P = Unit {0}
IfRefused why.ReadFault P = Unit {0}
IfRefused why.Memory P = Unit {0}
IfRefused (why.Refused refused) P = P refused

-- whether the file could not be read, or an allocation failed
abbrev pub is_failure : Why → Bool
is_failure why.CannotOpen = true
is_failure why.ReadFault = true
is_failure why.Memory = true
is_failure (why.Refused refused) = false

-- why a table has no columns, by the fault of its files' headers
abbrev pub why_of_header : InferFault → Why
why_of_header infer.Header = why.Refused (unnumbered refusal.Header)
why_of_header infer.Limit = why.Refused (unnumbered refusal.Limit)
why_of_header infer.Memory = why.Memory
why_of_header infer.Read = why.ReadFault

-- a command is refused, unless the refusal is that there is no memory, which is a failure
abbrev pub IsWhyOf : Refused → Why → Type 0
IsWhyOf refused found = ((refused.why ≡ refusal.Memory) × (found ≡ why.Memory)) ⊎ ((refused.why ≡ refusal.Memory → ⊥) × (found ≡ why.Refused refused))

-- Why a word is refused: it gives columns, though another word of its name comes before; its file's header can't name columns, or names others than the file before; its table can't be created; or a load of its file alone is refused, with the same number of a record.
pub data IsRefused (short : Short) (limits : Bounds) (word : TableWord) (file : Bytes) (refused : Refused) : Type 0 where
  GivesAgain : (gives : is_some word.columns ≡ true) (is : refused ≡ unnumbered refusal.TableExists) → IsRefused short limits word file refused
  BadHeader : (bounds : Bounds) (fault : InferFault) (faulty : header_fault bounds file ≡ Some fault) (is : why.Refused refused ≡ why_of_header fault) → IsRefused short limits word file refused
  OtherHeader : (names : List Bytes) (other : same_columns names file ≡ false) (is : refused ≡ unnumbered refusal.Header) → IsRefused short limits word file refused
  NotCreated : (db : Database) (columns : List Column) (key : List Bytes) (is : create limits db word.name columns key ≡ Err refused) → IsRefused short limits word file refused
  NotLoaded : (db : Database) (is : load_table short limits db word.name (payload.Bytes file) ≡ Err refused) → IsRefused short limits word file refused

-- a fault is one of a word and its file
abbrev pub IsReason : Short → Bounds → TableWord → Bytes → Why → Type 0
IsReason short limits word file found = IfRefused found (IsRefused short limits word file)

-- a fault is one of the word at a position and of its file
abbrev pub IsFaultAt : {S F : Type 0} → (S → Option Bytes) → (Bytes → Result S Error → Type 0) → Files F → Bounds → ℕ → Why → Type 0
IsFaultAt remaining opens files limits at found = OfFile remaining opens files at (λ word file. IsReason files.short limits word file found)

-- a fault is one of its word and of the bytes of the word's file
abbrev pub IsFaultOf : (Bytes → Bytes) → Short → Bounds → List TableWord → TableFault → Type 0
IsFaultOf contents short limits words fault =
    (d : TableWord) → IsReason short limits (slice_index_or words fault.word d) (contents (slice_index_or words fault.word d).file.now) fault.why
