use Rattle.std.proofs.Common.{◌≡◌, ◌++◌, List, IsTrue}
use Rattle.gq_row.specs.declared.value.Value.{Value}
use Rattle.gq_spill.specs.Reading.{Left, opened}
use Rattle.gq_spill_tests.proofs.whole.read_rows.Given as goal

abbrev pub invariant-loop : goal.invariant-loop
invariant-loop g l = record {
  live : IsTrue ((g.S.RunStore.runs l.store).live l.fn.mark.id.number);
  run : l.reader.tail.id ≡ l.fn.mark.id;
  honest : (g.S.RunStore.runs l.store).honest ≡ (g.S.RunStore.runs l.fn.store).honest;
  given : l.reader.given ≡ l.counter;
  records : l.reader.records ≡ l.fn.mark.records;
  rest : IsTrue (g.S.RunStore.runs l.fn.store).honest → (rows : List (List Value)) → Left (opened l.fn.mark l.columns) (g.S.RunStore.runs l.fn.store) rows
      → (rest : List (List Value)) × (rows ≡ l.rows.items ++ rest) × Left l.reader (g.S.RunStore.runs l.store) rest;
}
