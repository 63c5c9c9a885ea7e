use Rattle.std.proofs.Common.{◌≡◌, [], ◌∷◌, true, false, sym, subst, ◌∙◌, suc, arith, Option, Some, None}
use Rattle.gq_script.specs.Script.{content, is_skipped}
use Rattle.gq_script.specs.Gathering.{TookLine}
use Rattle.gq_check.specs.declared.fault.Fault.{Fault}
use Rattle.gq_script.specs.Numbering.{numbered_left}
use Rattle.gq_check.specs.Reports.{Between, Place, Reports}
use Rattle.std.specs.Prelude.{IfSome}
use Rattle.gq_check.proofs.Steps.{Tells, at-end, item-taken, made-report, passed-over}
use Rattle.gq_check.proofs.checker.Checker.step.Goals as goal

pub returns-in_default : goal.returns-in_default
returns-in_default g c =
    let b = c.args.limits.now.bounds in
    let h = rw c.in_default.is at c.in_ok-line.ensures.end in
    let P : Place → Type 0 = λ p. IfSome p.left (λ bytes. Reports b (numbered_left b p.lines bytes) []) in
    subst P c.self.view_is (at-end b c.self.inside.lines c.self.inside.source.left h.1)

pub returns-then-is_skipped : goal.returns-then-is_skipped
returns-then-is_skipped g c =
    let b = c.args.limits.now.bounds in
    let t : TookLine b c.self.inside.source c.take_line.new.source c.in-Some.line = rw c.in-Some.is at c.in_ok-line.ensures.line in
    let e : is_skipped (content t.raw) ≡ true = sym (c.is_skipped.ensures b.line (content t.raw) t.gathers) ∙ c.if-is_skipped.true in
    let number : c.in-Some-checked_add.number ≡ suc c.self.inside.lines = omega (arith, c.in-Some-checked_add.ensures.1) in
    let P : Place → Type 0 = λ p. Between b p (record { left = c.take_line.new.source.left; lines = c.in-Some-checked_add.number }) [] in
    subst P c.self.view_is (passed-over b c.self.inside.lines c.in-Some-checked_add.number c.self.inside.source.left c.take_line.new.source.left t.raw number t.taken.bytes_are t.first e)

pub returns-in-None : goal.returns-in-None
returns-in-None g c =
    let b = c.args.limits.now.bounds in
    let t : TookLine b c.self.inside.source c.take_line.new.source c.in-Some.line = rw c.in-Some.is at c.in_ok-line.ensures.line in
    let e : is_skipped (content t.raw) ≡ false = sym (c.is_skipped.ensures b.line (content t.raw) t.gathers) ∙ c.if-is_skipped.false in
    let number : c.in-Some-checked_add.number ≡ suc c.self.inside.lines = omega (arith, c.in-Some-checked_add.ensures.1) in
    let P : Place → Type 0 = λ p. Between b p (record { left = c.take_item.new.source.left; lines = c.in_ok-fault.lines }) [] in
    subst P c.self.view_is
    (item-taken b c.self.inside.lines c.in_ok-fault.lines c.in-Some-checked_add.number c.self.inside.source.left c.take_line.new.source.left c.take_item.new.source.left t.raw c.in_ok-fault.fault None number t.taken.bytes_are t.first e
    (c.in_ok-fault.ensures.item (content t.raw) t.gathers e)
    (λ x n l h. subst (λ (f : Option Fault). Tells b x f None) (sym c.in-None.is) tt))

pub returns : goal.returns
returns g c =
    let b = c.args.limits.now.bounds in
    let r = c.in_ok-report_of-in-Some-fault.field-0 in
    let made = c.in_ok-report_of-in-Some-fault.ensures in
    let t : TookLine b c.self.inside.source c.take_line.new.source c.in-Some.line = rw c.in-Some.is at c.in_ok-line.ensures.line in
    let e : is_skipped (content t.raw) ≡ false = sym (c.is_skipped.ensures b.line (content t.raw) t.gathers) ∙ c.if-is_skipped.false in
    let number : c.in-Some-checked_add.number ≡ suc c.self.inside.lines = omega (arith, c.in-Some-checked_add.ensures.1) in
    let P : Place → Type 0 = λ p. Between b p (record { left = c.take_item.new.source.left; lines = c.in_ok-fault.lines }) (r ∷ []) in
    subst P c.self.view_is
    (item-taken b c.self.inside.lines c.in_ok-fault.lines c.in-Some-checked_add.number c.self.inside.source.left c.take_line.new.source.left c.take_item.new.source.left t.raw c.in_ok-fault.fault (Some r) number t.taken.bytes_are t.first e
    (c.in_ok-fault.ensures.item (content t.raw) t.gathers e)
    (λ x n l h. made-report b x r c.in-Some-checked_add.number (content t.raw) c.in-Some-fault.fault c.in_ok-fault.fault c.in-Some-fault.is made.is (made.column (content t.raw) t.gathers) made.one_line made.limit n l h))
