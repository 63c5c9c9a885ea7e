-- What is wrong with an item, by how it is read.
use Rattle.std.proofs.Common.{◌≡◌, true, false, Option, Some, None, refl, sym, ap, subst, ◌∙◌, inl, inr}
use Rattle.gq_row.specs.declared.limits.Bounds.{Bounds}
use Rattle.gq_token.specs.Texts.{Bytes}
use Rattle.gq_script.specs.Gathering.{Gathers}
use Rattle.gq_script.specs.Script.{Plain, Loading, is_skipped, takes_payload}
use Rattle.gq_script.specs.declared.gather.Opening.TheVariants as opening
use Rattle.gq_script.specs.declared.gather.OpenLine.{OpenLine}
use Rattle.gq_command.specs.declared.command.Command.TheVariants.{Load}
use Rattle.gq_command.specs.declared.lines.LineRefusal.{LineRefusal}
use Rattle.gq_command.specs.declared.lines.LineRefusal.TheVariants as refusal
use Rattle.gq_command.specs.declared.reader.Item.{Item}
use Rattle.gq_command.specs.declared.reader.Item.TheVariants as item
use Rattle.gq_command.specs.Commands.{fits}
use Rattle.gq_command.specs.Items.{IsReadAs, LosesPayload}
use Rattle.gq_command.specs.Lines.{Says}
use Rattle.gq_command.proofs.Answered.{refused}
use Rattle.gq_command.proofs.LoadWord.{said_load}
use Rattle.gq_command.proofs.OneReading.{represents_some}
use Rattle.gq_check.specs.declared.fault.Fault.{Fault}
use Rattle.gq_check.specs.Findings.{IsFaultOf, IsToldOf, fault_in, payload_fault, refusal_fault}

none-lost : (b : Bounds) (line : Bytes) (it : Item) → LosesPayload b (Plain line) it → ⊥
none-lost b line it lost = let e : false ≡ true = sym lost.closed ∙ lost.reads.1.0.command in absurd cc

-- a line that is refused so, where memory wasn't wanting
pub refused-so : (b : Bounds) (line : Bytes) (r : LineRefusal) (f : Fault) → refusal_fault r ≡ Some f → IsReadAs b (Plain line) (item.Refused r) → IsFaultOf b (Plain line) (Some f)
refused-so b line r f e (inl h) = (item.Refused r, h, e)
refused-so b line r f e (inr (inl same)) =
    let bad : None ≡ Some f = sym (ap (λ (it : Item). fault_in b (Plain line) it) same) ∙ e in absurd cc
refused-so b line r f e (inr (inr lost)) = absurd (none-lost b line (item.Refused r) lost)

-- a line that says a command
pub accepted : (b : Bounds) (line : Bytes) (it : Item) → fault_in b (Plain line) it ≡ None → (it ≡ item.Refused refusal.Memory → ⊥) → IsReadAs b (Plain line) it → IsFaultOf b (Plain line) None
accepted b line it e never (inl h) = (it, h, e)
accepted b line it e never (inr (inl same)) = absurd (never same)
accepted b line it e never (inr (inr lost)) = absurd (none-lost b line it lost)

-- a line of which this is reported, by what was kept of it
pub refused-line : (b : Bounds) (line : OpenLine) (text : Bytes) → Gathers b.line line text → is_skipped text ≡ false → line.too_long ≡ false → line.lost ≡ false → (line.opening ≡ opening.Dash → ⊥)
    → (r : LineRefusal) → IsToldOf b line.kept.items (Some r) → IsReadAs b (Plain text) (item.Refused r)
refused-line b line text h skipped long lost never refusal.Syntax given =
    refused b line text h skipped long lost never refusal.Syntax (λ e. given) (λ e. absurd cc) (λ e. absurd cc)
refused-line b line text h skipped long lost never refusal.LineTooLong given =
    refused b line text h skipped long lost never refusal.LineTooLong (λ e. absurd cc) (λ e. absurd cc) (λ e. given)
refused-line b line text h skipped long lost never refusal.Limit given =
    refused b line text h skipped long lost never refusal.Limit (λ e. absurd cc) (λ e. given) (λ e. absurd cc)
refused-line b line text h skipped long lost never refusal.Memory given = inr (inl refl)

-- a load, by its line and its payload
abbrev pub either : Option Fault → Option Fault → Option Fault
either None second = second
either (Some f) second = Some f

pub with-payload : (b : Bounds) (line : Bytes) (given : Option Bytes) (f : Option Fault) → takes_payload b line ≡ true → IsFaultOf b (Plain line) f → IsFaultOf b (Loading line given) (either f (payload_fault b.payload given))
with-payload b line given f takes (item.Refused refusal.Memory, reads, e) = absurd reads
with-payload b line given f takes (item.Refused refusal.Syntax, reads, e) = (item.Refused refusal.Syntax, reads, ap (λ g. either g (payload_fault b.payload given)) e)
with-payload b line given f takes (item.Refused refusal.LineTooLong, reads, e) = (item.Refused refusal.LineTooLong, reads, ap (λ g. either g (payload_fault b.payload given)) e)
with-payload b line given f takes (item.Refused refusal.Limit, reads, e) = (item.Refused refusal.Limit, reads, ap (λ g. either g (payload_fault b.payload given)) e)
with-payload b line given f takes (item.Command c, reads, e) =
    let load = said_load b line c takes reads.0 reads.1.0 in
    let carried = represents_some b.payload given in (
      item.Command (Load load.0 carried.0),
      (reads.0, (load.0, carried.0, refl, subst (Says line) load.1 reads.1.0, sym (ap (fits b) load.1) ∙ reads.1.1, carried.1)),
      ap (λ g. either g (payload_fault b.payload given)) e,
    )
