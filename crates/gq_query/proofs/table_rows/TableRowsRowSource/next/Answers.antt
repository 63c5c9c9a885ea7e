use Rattle.std.specs.Prelude.{option_copied}
use Rattle.gq_query.specs.Keeping.{ours_of}
use Rattle.gq_query.proofs.table_rows.TableRowsRowSource.next.Goals as goal

pub returns-in-Ok-clause-ready : goal.returns-in-Ok-clause-ready
returns-in-Ok-clause-ready g c = (
  c.in-Ok-true.ensures.left c.args.self.now.columns.now c.requires.0,
  c.in-Ok-true.ensures.left (ours_of (option_copied c.args.self.now.kept.now.matching)) c.requires.1,
  c.requires.2,
)
