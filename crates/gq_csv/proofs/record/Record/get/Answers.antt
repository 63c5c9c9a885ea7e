use Rattle.std.proofs.Common.{sym}
use Rattle.gq_csv.proofs.FieldLemmas.{field_there, no_field}
use Rattle.gq_csv.proofs.record.Record.get.Goals as goal

pub returns-then-i-self : goal.returns-then-i-self
returns-then-i-self c =
    let own = c.self.inside in
    record { value = rw (← c.self.view_is) (sym (no_field own.bytes.now own.spans.now c.args.i c.if-i-self.true)) }

pub returns : goal.returns
returns c =
    let own = c.self.inside in
    record { value = rw (← c.self.view_is) (sym (field_there own.bytes.now own.spans.now c.args.i (record { start = 0; end = 0 }) c.if-i-self.false)) }
