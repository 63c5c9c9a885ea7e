use Rattle.std.proofs.Common.{◌≡◌}
use Rattle.gq_engine.proofs.StagingLemmas.{SoFar}
use Rattle.gq_engine.proofs.payloads.stage_rows.Given as goal

abbrev pub invariant-loop-count : goal.invariant-loop-count
invariant-loop-count g l = record {
  schema : l.reader.schema ≡ l.fn.staged.schema;
  rows : SoFar l.fn.staged.schema l.staged l.count l.reader.rows l.fn.reader.rows;
}
