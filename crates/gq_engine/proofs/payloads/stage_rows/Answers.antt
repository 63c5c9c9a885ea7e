use Rattle.std.proofs.Common.{◌∙◌, sym}
use Rattle.gq_engine.proofs.StagingLemmas.{begun, on_ok, onward}
use Rattle.gq_engine.proofs.payloads.stage_rows.Goals as goal

pub loop-count-preserved : goal.loop-count-preserved
loop-count-preserved g c = record {
  schema = c.in-Ok-true.ensures.schema ∙ c.loop-count.invariant.schema;
  rows = onward c.args.staged.now.schema c.loop-count.staged c.put_row.new.staged c.loop-count.count c.loop-count.reader.rows c.read.new.self.rows c.args.reader.now.rows c.read.new.row
      c.loop-count.invariant.rows (c.in-Ok-true.ensures.given c.in-Ok-true.field-0-test) (on_ok c.put_row.result (sym c.is_err.ensures.value ∙ c.if-is_err.false) c.put_row.ensures.put);
}

pub loop-count-init : goal.loop-count-init
loop-count-init g c = record { schema = c.requires.schema; rows = begun c.args.staged.now c.args.reader.now.rows c.requires.empty }
