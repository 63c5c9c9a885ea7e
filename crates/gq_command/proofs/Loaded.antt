-- A load that was read, with its payload.
use Rattle.std.proofs.Common.{◌≡◌, ◌≤◌, true, false, ℕ, length, Option, Some, None, refl, sym, ap, subst, ◌∙◌, inl, inr}
use Rattle.gq_row.specs.declared.limits.Bounds.{Bounds}
use Rattle.gq_command.specs.declared.command.Command.{Command}
use Rattle.gq_command.specs.declared.command.Command.TheVariants.{Create, Drop, Load, Upsert, Delete, Show, Group, Distinct}
use Rattle.gq_command.specs.declared.command.Payload.{Payload}
use Rattle.gq_command.specs.declared.command.Payload.TheVariants as payload
use Rattle.gq_command.specs.declared.reader.Item.{Item}
use Rattle.gq_command.specs.declared.reader.Item.TheVariants as item
use Rattle.gq_command.specs.Commands.{Bytes, is_open, fits}
use Rattle.gq_command.specs.Items.{Represents, MayRepresent, LosesPayload, IsReadAs, IsReady, with_payload}
use Rattle.gq_command.specs.Lines.{Says}
use Rattle.gq_script.specs.Script.{Plain, Loading, takes_payload}
use Rattle.gq_command.proofs.LoadWord.{said_load}
use Rattle.gq_command.proofs.OneReading.{represents_some}

-- a line alone loses no payload
none_lost : (b : Bounds) (line : Bytes) (it : Item) → LosesPayload b (Plain line) it → ⊥
none_lost b line it lost = let e : false ≡ true = sym lost.closed ∙ lost.reads.1.0.command in absurd cc

ends : (most : ℕ) (bytes : Bytes) (p : Payload) → Represents most (Some bytes) p → is_open p ≡ false
ends most bytes (payload.Bytes x) h = refl
ends most bytes payload.Open h = absurd cc
ends most bytes payload.TooLong h = refl
ends most bytes payload.NoMemory h = refl

-- a load that its line says
read_load : (b : Bounds) (line : Bytes) (given : Option Bytes) (p : Payload) (table : Bytes) → length line ≤ b.line → Says line (Load table payload.Open) → fits b (Load table payload.Open) ≡ true → MayRepresent b.payload given p
    → IsReadAs b (Loading line given) (item.Command (Load table p))
read_load b line None p table le says within s = inl (le, (table, p, refl, says, within, s))
read_load b line (Some bytes) p table le says within (inl s) = inl (le, (table, p, refl, says, within, s))
read_load b line (Some bytes) p table le says within (inr e) =
    let represented = represents_some b.payload (Some bytes) in
    inr (inr (record {
      table = table;
      carried = represented.0;
      reads = (le, (table, represented.0, refl, says, within, represented.1));
      closed = ends b.payload bytes represented.0 represented.1;
      is = ap (λ (p : Payload). item.Command (Load table p)) e;
    }))

pub loaded : (b : Bounds) (line : Bytes) (given : Option Bytes) (p : Payload) (it : Item) → takes_payload b line ≡ true → IsReadAs b (Plain line) it → MayRepresent b.payload given p → IsReadAs b (Loading line given) (with_payload p it)
loaded b line given p (item.Refused r) takes (inl h) s = inl h
loaded b line given p (item.Refused r) takes (inr (inl e)) s = inr (inl e)
loaded b line given p (item.Refused r) takes (inr (inr lost)) s = absurd (none_lost b line (item.Refused r) lost)
loaded b line given p (item.Command c) takes (inl h) s =
    let load = said_load b line c takes h.0 h.1.0 in
    let read = read_load b line given p load.0 h.0 (subst (Says line) load.1 h.1.0) (sym (ap (fits b) load.1) ∙ h.1.1) s in
    subst (λ (c : Command). IsReadAs b (Loading line given) (with_payload p (item.Command c))) (sym load.1) read
loaded b line given p (item.Command c) takes (inr (inl e)) s = absurd cc
loaded b line given p (item.Command c) takes (inr (inr lost)) s = absurd (none_lost b line (item.Command c) lost)

-- an item that is ready is so with any payload
pub ready_with : (b : Bounds) (p : Payload) (it : Item) → IsReady b it → IsReady b (with_payload p it)
ready_with b p (item.Refused r) h = h
ready_with b p (item.Command (Create t columns key)) h = h
ready_with b p (item.Command (Drop t)) h = h
ready_with b p (item.Command (Load t carried)) h = h
ready_with b p (item.Command (Upsert t values)) h = h
ready_with b p (item.Command (Delete t values)) h = h
ready_with b p (item.Command (Show t)) h = h
ready_with b p (item.Command (Group t by shown tests exists having)) h = h
ready_with b p (item.Command (Distinct t on tests)) h = h
