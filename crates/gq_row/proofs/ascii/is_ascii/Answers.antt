use Rattle.std.proofs.Common.{◌∙◌, sym, arith}
use Rattle.gq_row.proofs.AsciiLemmas.{last_small, more_small, some_large}
use Rattle.gq_row.proofs.ascii.is_ascii.Goals as goal

pub returns-then-not-lanes_are_ascii : goal.returns-then-not-lanes_are_ascii
returns-then-not-lanes_are_ascii c = some_large c.args.bytes.now 8 c.loop-at.at c.loop-at.invariant (sym c.lanes_are_ascii.ensures ∙ c.if-not-lanes_are_ascii.true)

pub loop-at-preserved : goal.loop-at-preserved
loop-at-preserved c = more_small c.args.bytes.now 8 c.loop-at.at c.loop-at.invariant (sym c.lanes_are_ascii.ensures ∙ c.if-not-lanes_are_ascii.false)

pub returns : goal.returns
returns c = c.lanes_are_ascii-2.ensures ∙ last_small c.args.bytes.now 8 c.loop-at.at _ c.loop-at-test.false (omega (arith, c.if-bytes-lt-LANES.false)) c.loop-at.invariant
