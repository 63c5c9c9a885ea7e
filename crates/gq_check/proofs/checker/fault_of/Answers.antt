use Rattle.std.proofs.Common.{◌≡◌, true, false, Some, None, sym, refl, subst, ◌∙◌}
use Rattle.gq_command.specs.declared.lines.LineRefusal.TheVariants as refusal
use Rattle.gq_command.specs.declared.reader.Item.TheVariants as item
use Rattle.gq_command.specs.Commands.{Bytes}
use Rattle.gq_command.proofs.Answered.{command, dash, too_long}
use Rattle.gq_check.specs.declared.fault.Fault.TheVariants as why
use Rattle.gq_check.specs.Findings.{IsToldOf}
use Rattle.gq_check.proofs.Faults.{accepted, refused-so, refused-line}
use Rattle.gq_check.proofs.checker.fault_of.Goals as goal
use Rattle.gq_check.proofs.checker.fault_of.Goals.{in-Dash, in_default}

pub returns-then-line : goal.returns-then-line
returns-then-line c = λ text h e. refused-so c.args.limits.now.bounds text refusal.LineTooLong why.LineTooLong refl (too_long c.args.limits.now.bounds c.args.line.now text h c.if-line.true)

pub returns-then-matches : goal.returns-then-matches
returns-then-matches c = elim c.match-matches.branch [
  | in-Dash w ↦ λ text h e. refused-so c.args.limits.now.bounds text refusal.Syntax why.Syntax refl (dash c.args.limits.now.bounds c.args.line.now text h c.if-line.false w.in-Dash.is)
  | in_default w ↦ λ text h e. let f : false ≡ true = sym w.matches-is ∙ c.if-matches.true in absurd cc
]

pub returns-in-None : goal.returns-in-None
returns-in-None c =
    let b = c.args.limits.now.bounds in
    let told = subst (λ (l : Bytes). IsToldOf b l None) c.as_slice.ensures.value c.in-None.ensures in
    elim c.match-matches.branch [
      | in-Dash w ↦ λ text h e. let f : true ≡ false = sym w.matches-is ∙ c.if-matches.false in absurd cc
      | in_default w ↦ λ text h e. accepted b text (item.Command told.0) refl (λ x. absurd cc) (command b c.args.line.now text h e c.if-line.false c.if-line-2.false w.in_default.not-Dash told.0 told.1 told.2)
    ]

pub returns-in-Some-Syntax : goal.returns-in-Some-Syntax
returns-in-Some-Syntax c =
    let b = c.args.limits.now.bounds in
    let told = subst (λ (l : Bytes). IsToldOf b l (Some refusal.Syntax)) c.as_slice.ensures.value (rw c.in-Some-Syntax.field-0-is at c.in-Some-Syntax.ensures) in
    elim c.match-matches.branch [
      | in-Dash w ↦ λ text h e. let f : true ≡ false = sym w.matches-is ∙ c.if-matches.false in absurd cc
      | in_default w ↦ λ text h e. refused-so b text refusal.Syntax why.Syntax refl (refused-line b c.args.line.now text h e c.if-line.false c.if-line-2.false w.in_default.not-Dash refusal.Syntax told)
    ]

pub returns-in-Some-LineTooLong : goal.returns-in-Some-LineTooLong
returns-in-Some-LineTooLong c =
    let b = c.args.limits.now.bounds in
    let told = subst (λ (l : Bytes). IsToldOf b l (Some refusal.LineTooLong)) c.as_slice.ensures.value (rw c.in-Some-LineTooLong.field-0-is at c.in-Some-LineTooLong.ensures) in
    elim c.match-matches.branch [
      | in-Dash w ↦ λ text h e. let f : true ≡ false = sym w.matches-is ∙ c.if-matches.false in absurd cc
      | in_default w ↦ λ text h e. refused-so b text refusal.LineTooLong why.LineTooLong refl (refused-line b c.args.line.now text h e c.if-line.false c.if-line-2.false w.in_default.not-Dash refusal.LineTooLong told)
    ]

pub returns-in-Some-Limit : goal.returns-in-Some-Limit
returns-in-Some-Limit c =
    let b = c.args.limits.now.bounds in
    let told = subst (λ (l : Bytes). IsToldOf b l (Some refusal.Limit)) c.as_slice.ensures.value (rw c.in-Some-Limit.field-0-is at c.in-Some-Limit.ensures) in
    elim c.match-matches.branch [
      | in-Dash w ↦ λ text h e. let f : true ≡ false = sym w.matches-is ∙ c.if-matches.false in absurd cc
      | in_default w ↦ λ text h e. refused-so b text refusal.Limit why.Limit refl (refused-line b c.args.line.now text h e c.if-line.false c.if-line-2.false w.in_default.not-Dash refusal.Limit told)
    ]
