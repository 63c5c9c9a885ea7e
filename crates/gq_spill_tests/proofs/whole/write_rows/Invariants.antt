use Rattle.std.proofs.Common.{◌≡◌, take, IsTrue}
use Rattle.gq_spill.specs.Writing.{Wrote}
use Rattle.gq_spill_tests.proofs.whole.write_rows.Given as goal

abbrev pub invariant-loop-row : goal.invariant-loop-row
invariant-loop-row g l = record {
  live : IsTrue ((g.S.RunStore.runs l.store).live l.writer.mark.id.number);
  honest : (g.S.RunStore.runs l.store).honest ≡ (g.S.RunStore.runs l.fn.store).honest;
  wrote : IsTrue (g.S.RunStore.runs l.fn.store).honest → Wrote l.writer (g.S.RunStore.runs l.store) (take l.row-index l.rows);
}
