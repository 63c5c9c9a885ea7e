use Rattle.std.proofs.Common.{sym, ap, ◌∙◌}
use Rattle.std.specs.List.{list_any}
use Rattle.std.specs.Prelude.{◌==◌, string_bytes}
use Rattle.gq_check.proofs.Plain.{plain-all}
use Rattle.gq_check.proofs.message.message_of.Goals as goal

pub returns-then-eq-clause-one_line : goal.returns-then-eq-clause-one_line
returns-then-eq-clause-one_line c =
    plain-all (string_bytes c.in_ok-written.written.message) (ap (list_any (λ y. y == 10)) (sym c.as_bytes.ensures.value) ∙ sym c.contains.ensures.value ∙ c.if-contains.false)
