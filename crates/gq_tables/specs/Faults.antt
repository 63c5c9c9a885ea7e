-- What is said of a file that ends the making of tables, and the exit status.
use Rattle.std.specs.Prelude.{ℕ, Bool, true, false, List, [], ◌++◌, codes, decimal}
use Rattle.gq_load.specs.declared.short_records.Short.{Short}
use Rattle.gq_load.specs.declared.short_records.Short.TheVariants as short
use Rattle.gq_reply.specs.declared.refusal.Refusal.{Refusal}
use Rattle.gq_reply.specs.declared.refusal.Refusal.TheVariants as refusal
use Rattle.gq_reply.specs.declared.refusal.Refused.{Refused}
use Rattle.gq_reply.specs.Replies.{code_of, name_of, record_number}
use Rattle.gq_reply.specs.Refusals.{words_of}
use Rattle.gq_tables.specs.declared.fault.Why.{Why}
use Rattle.gq_tables.specs.declared.fault.Why.TheVariants as why

-- 1 for a refusal, 3 if a file can't be read or an allocation failed
abbrev pub status_of : Why → ℕ
status_of why.CannotOpen = 3
status_of why.ReadFault = 3
status_of why.Memory = 3
status_of (why.Refused refused) = 1

-- a way to have short records taken, for a record with another number of fields
abbrev pub hint : Bool → List ℕ
hint true = codes "; --ragged completes short records with nulls"
hint false = []

-- whether that way is open: for a wrong number of fields alone, whatever other refusals there are
abbrev pub can_complete : Short → Refusal → Bool
can_complete short.Refused refusal.FieldCount = true
can_complete short.Refused other = false
can_complete short.Completed other = false

abbrev pub code_and_name : Refusal → List ℕ
code_and_name why = codes "err " ++ decimal (code_of why) ++ codes " " ++ name_of why

-- a line in words
abbrev pub meaning : Short → Refusal → List ℕ
meaning flag why = codes "\n  " ++ words_of why ++ hint (can_complete flag why) ++ codes "\n"

-- the refusal as replies have it, and what it means
abbrev pub refusal_text : Short → Refused → List ℕ
refusal_text flag refused = code_and_name refused.why ++ record_number refused.number ++ meaning flag refused.why

abbrev pub reason : Short → Why → List ℕ
reason flag why.CannotOpen = codes "cannot open\n"
reason flag why.ReadFault = codes "read fault\n"
reason flag why.Memory = codes "out of memory\n"
reason flag (why.Refused refused) = refusal_text flag refused

abbrev pub fault_text : Short → List ℕ → Why → List ℕ
fault_text flag file why = codes "groupsh: " ++ file ++ codes ": " ++ reason flag why
