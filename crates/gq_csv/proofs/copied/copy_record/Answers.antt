use Rattle.std.proofs.Common.{refl}
use Rattle.csv.specs.declared.parser.Action.TheVariants as act
use Rattle.csv.specs.declared.parser.State.TheVariants as st
use Rattle.gq_csv.specs.Inputs.{known}
use Rattle.gq_csv.specs.Steps.{machine_state}
use Rattle.gq_csv.proofs.CopyLemmas.{copied_last, tracks_byte, tracks_copied, tracks_end, tracks_start}
use Rattle.gq_csv.proofs.copied.copy_record.Goals.{in-Skip, in-Copy+in_ok-push-in-Copy+in_ok-copy_plain-in-Copy, in-EndField+in_ok-end_field-in-EndField}
use Rattle.gq_csv.proofs.copied.copy_record.Goals as goal

pub bytes-init : goal.bytes-init
bytes-init g c = rw c.clear.ensures (tracks_start (known c.args.input.now))

pub returns-in_default : goal.returns-in_default
returns-in_default g c =
    let gave = rw c.in_default.is at c.in_ok-byte.ensures in
    copied_last c.end_record.result (known c.args.input.now) (known c.bytes.input) (known c.next_byte.new.input) c.bytes.state c.bytes.copied.fields c.end_record.new.copied.fields c.bytes.copied.field gave.0 gave.1 c.bytes.invariant c.end_record.ensures

pub returns-in-EndRecord : goal.returns-in-EndRecord
returns-in-EndRecord g c =
    let gave = rw c.in-Some.is at c.in_ok-byte.ensures in
    rw c.in_ok-end_field-in-EndRecord.ensures.fields (tracks_end (known c.args.input.now) (known c.bytes.input) (known c.next_byte.new.input) (machine_state c.bytes.state) c.bytes.copied.fields c.bytes.copied.field c.in-Some.byte gave c.in-EndRecord.ensures c.bytes.invariant)

pub bytes-preserved : goal.bytes-preserved
bytes-preserved g c =
    let gave = rw c.in-Some.is at c.in_ok-byte.ensures in
    elim c.match-next_step.branch [
      | in-Skip w ↦ rw (w.copied-is, w.input-is, w.state-is) (tracks_byte (known c.args.input.now) (known c.bytes.input) (known c.next_byte.new.input) (machine_state c.bytes.state) (machine_state w.in-Skip.next) act.Skip c.bytes.copied.fields c.bytes.copied.field c.in-Some.byte gave w.in-Skip.ensures refl c.bytes.invariant)
      | in-Copy+in_ok-push-in-Copy+in_ok-copy_plain-in-Copy w ↦
          let copied = w.in_ok-copy_plain-in-Copy.ensures in
          rw (w.copied-is, w.input-is, w.state-is, copied.fields, w.in_ok-push-in-Copy.ensures.fields) (tracks_copied (known c.args.input.now) (known c.bytes.input) c.next_byte.new.input w.copy_plain.new.input (machine_state c.bytes.state) w.in-Copy.next c.bytes.copied.fields c.bytes.copied.field w.copy_plain.new.copied.field c.in-Some.byte gave
          copied.ahead copied.after (rw w.in_ok-push-in-Copy.ensures.field at copied.field) w.in-Copy.ensures.0 w.in-Copy.ensures.1 c.bytes.invariant)
      | in-EndField+in_ok-end_field-in-EndField w ↦ rw (w.copied-is, w.input-is, w.state-is, w.in_ok-end_field-in-EndField.ensures.fields, w.in_ok-end_field-in-EndField.ensures.field) (tracks_byte (known c.args.input.now) (known c.bytes.input) (known c.next_byte.new.input) (machine_state c.bytes.state) st.StartField act.EndField c.bytes.copied.fields c.bytes.copied.field c.in-Some.byte gave w.in-EndField.ensures refl c.bytes.invariant)
    ]
