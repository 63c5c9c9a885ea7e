-- Refusals and their replies.
use Rattle.std.specs.Prelude.{List, ℕ, codes, None}
use Rattle.gq_reply.specs.declared.refusal.Refusal.{Refusal}
use Rattle.gq_reply.specs.declared.refusal.Refusal.TheVariants as refusal
use Rattle.gq_reply.specs.declared.refusal.Refused.{Refused}
use Rattle.gq_reply.specs.declared.reply.Reply.{Reply}
use Rattle.gq_reply.specs.declared.reply.Reply.TheVariants as reply

-- a refusal that names no record of a payload
abbrev pub unnumbered : Refusal → Refused
unnumbered why = record { why = why; number = None }

-- the reply for a refusal
abbrev pub of_refused : Refused → Reply
of_refused refused = reply.Refused refused.why refused.number

abbrev pub refused : Refusal → Reply
refused why = of_refused (unnumbered why)

-- what a refusal means, in a few words
abbrev pub words_of : Refusal → List ℕ
words_of refusal.Syntax = codes "the line is not a command"
words_of refusal.LineTooLong = codes "the line is too long"
words_of refusal.NoTable = codes "no table has that name"
words_of refusal.TableExists = codes "a table of that name exists already"
words_of refusal.NoColumn = codes "no column of the table has that name"
words_of refusal.TypeMismatch = codes "a value has the wrong type, or there are too many or too few values"
words_of refusal.NoKey = codes "the table has no key"
words_of refusal.NullKey = codes "a key column would be null"
words_of refusal.Header = codes "the header does not name each column of the table once"
words_of refusal.FieldCount = codes "the record has more or fewer fields than the header"
words_of refusal.BadInt = codes "a field is not a whole number of 64 bits"
words_of refusal.BadText = codes "a field is not UTF-8"
words_of refusal.SumRange = codes "a sum does not fit a whole number of 64 bits"
words_of refusal.Limit = codes "a name, a text, a payload, a table, the database or the result is too large"
words_of refusal.Memory = codes "out of memory"
words_of refusal.StoreFault = codes "spilled rows could not be written or read"
words_of refusal.Damaged = codes "spilled rows did not read back as they were written"
words_of refusal.LoadOpen = codes "the script ends before the line that closes the payload"
