use Rattle.std.proofs.Common.{IsTrue}
use Rattle.gq_spill_tests.proofs.folder.both_by_turns.Given as goal

abbrev pub invariant-loop-to : goal.invariant-loop-to
invariant-loop-to g l = IsTrue ((g.S.RunStore.runs l.store).live l.first.number)
    × IsTrue ((g.S.RunStore.runs l.store).live l.second.number)
