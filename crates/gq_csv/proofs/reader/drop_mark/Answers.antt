use Rattle.std.proofs.Common.{◌≤◌, ◌<◌, ◌∙◌, length, ap, sym, arith}
use Rattle.gq_csv.specs.Inputs.{known}
use Rattle.gq_csv.proofs.InputLemmas.{keeps_trans, no_mark, short_text, the_mark}
use Rattle.gq_csv.proofs.reader.drop_mark.Goals as goal

pub returns-then-not-branch : goal.returns-then-not-branch
returns-then-not-branch g c =
    let e = c.in_ok-refill.ensures in
    let few : length c.bytes.input.ahead < 3 = omega (arith, c.bytes-test.true, ap length c.ahead.ensures) in
    let end = e.end c.if-not-branch.true (omega (arith, few)) in
    short_text (known c.args.input.now) c.refill.new.self.after c.refill.new.self.ahead (omega (arith, few, ap length end.0)) end.1 (keeps_trans (known c.args.input.now) (known c.bytes.input) (known c.refill.new.self) c.bytes.invariant e.bytes)

pub returns-then-not-is_mark : goal.returns-then-not-is_mark
returns-then-not-is_mark g c =
    let size : 3 ≤ length c.bytes.input.ahead = omega (arith, c.bytes-test.false, ap length c.ahead.ensures) in
    let none = rw c.ahead-ahead.ensures at (sym c.is_mark.ensures ∙ c.if-not-is_mark.true) in
    no_mark (known c.args.input.now) c.bytes.input.after c.bytes.input.ahead size none c.bytes.invariant

pub returns : goal.returns
returns g c =
    let size : 3 ≤ length c.bytes.input.ahead = omega (arith, c.bytes-test.false, ap length c.ahead.ensures) in
    let mark = rw c.ahead-ahead.ensures at (sym c.is_mark.ensures ∙ c.if-not-is_mark.false) in
    rw (c.take.ensures.ahead, c.take.ensures.after) (the_mark (known c.args.input.now) c.bytes.input.after c.bytes.input.ahead size mark c.bytes.invariant)
