use Rattle.std.proofs.Common.{◌≡◌, true, false, sym, ◌∙◌, subst, length, ◌<◌, List, ℕ}
use Rattle.std.specs.Prelude.{Err, IsErrOf}
use Rattle.gq_command.specs.declared.lines.LineRefusal.{LineRefusal}
use Rattle.gq_command.specs.declared.lines.LineRefusal.TheVariants as refusal
use Rattle.gq_command.specs.declared.command.Command.{Command}
use Rattle.gq_command.specs.Commands.{Bytes, fits}
use Rattle.gq_command.specs.Lines.{Says}
use Rattle.gq_command.proofs.Answered.{dash, command, refused}
use Rattle.gq_command.proofs.reader.item_of.Goals as goal
use Rattle.gq_command.proofs.reader.item_of.Goals.{in-Dash, in_default}

pub returns-then-matches-clause-reads : goal.returns-then-matches-clause-reads
returns-then-matches-clause-reads c = elim c.match-matches.branch [
  | in-Dash w ↦ λ text h e. dash c.args.limits.now.bounds c.args.line text h c.if-line.false w.in-Dash.is
  | in_default w ↦ λ text h e. let f : false ≡ true = sym w.matches-is ∙ c.if-matches.true in absurd cc
]

pub returns-in-Ok-clause-reads : goal.returns-in-Ok-clause-reads
returns-in-Ok-clause-reads c =
    let kept : List ℕ = c.args.line.kept.items in
    let said = subst (λ (l : Bytes). Says l c.in-Ok.command) c.as_slice.ensures.value c.in-Ok.ensures.said in
    elim c.match-matches.branch [
      | in-Dash w ↦ λ text h e. let f : true ≡ false = sym w.matches-is ∙ c.if-matches.false in absurd cc
      | in_default w ↦ λ text h e. command c.args.limits.now.bounds c.args.line text h e c.if-line.false c.if-line-2.false w.in_default.not-Dash c.in-Ok.command said c.in-Ok.ensures.within
    ]

pub returns-in-Err-clause-reads : goal.returns-in-Err-clause-reads
returns-in-Err-clause-reads c =
    let b = c.args.limits.now.bounds in
    let r = c.in-Err.refusal in
    let syntax = subst (λ (l : Bytes). IsErrOf {T = Command} {E = LineRefusal} (Err r) refusal.Syntax → (c : Command) → Says l c → ⊥) c.as_slice.ensures.value c.in-Err.ensures.syntax in
    let limit = subst (λ (l : Bytes). IsErrOf {T = Command} {E = LineRefusal} (Err r) refusal.Limit → (c : Command) × Says l c × (fits b c ≡ false)) c.as_slice.ensures.value c.in-Err.ensures.limit in
    let too = subst (λ (l : Bytes). IsErrOf {T = Command} {E = LineRefusal} (Err r) refusal.LineTooLong → b.line < length l) c.as_slice.ensures.value c.in-Err.ensures.too_long.0 in
    elim c.match-matches.branch [
      | in-Dash w ↦ λ text h e. let f : true ≡ false = sym w.matches-is ∙ c.if-matches.false in absurd cc
      | in_default w ↦ λ text h e. refused b c.args.line text h e c.if-line.false c.if-line-2.false w.in_default.not-Dash r syntax limit too
    ]
