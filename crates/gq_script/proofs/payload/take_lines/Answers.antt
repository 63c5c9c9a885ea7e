use Rattle.std.proofs.Common.{◌≡◌, ◌+◌, ℕ, sym, ap, subst, take}
use Rattle.gq_script.specs.Payloads.{TookLines}
use Rattle.gq_script.specs.Script.{Stream, Takes}
use Rattle.gq_script.proofs.Gathered.{once_counted}
use Rattle.gq_script.proofs.payload.take_lines.Goals as goal

pub returns : goal.returns
returns g c =
    let len = c.lines_len-len.result.0 in
    let count = c.lines_len-len.result.1 in
    let same : take len c.args.source.now.ahead ≡ take len c.ahead-waiting.result.now = ap (take len) (sym c.ahead-waiting.ensures) in
    let taken : Takes c.args.source.now c.pass.new.self (take len c.ahead-waiting.result.now) = subst (Takes c.args.source.now c.pass.new.self) same c.in_ok-pass.ensures.taken in
    subst (λ (s : Stream). TookLines c.args.bounds.now.payload c.args.source.now s c.args.kept.now c.add.new.self) (sym c.in_ok-count_lines.ensures)
    (record {
      raw = take len c.ahead-waiting.result.now;
      taken = once_counted c.args.source.now c.pass.new.self (take len c.ahead-waiting.result.now) count taken;
      on = c.lines_len-len.ensures.lines;
      count = count;
      has = c.lines_len-len.ensures.count;
      counted = ap (λ (n : ℕ). n + count) c.in_ok-pass.ensures.lines;
      lines = c.add.ensures;
    })
