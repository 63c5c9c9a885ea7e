use Rattle.std.proofs.Common.{◌∙◌}
use Rattle.gq_record.proofs.RecordLemmas.{decoded, no_block, no_cells}
use Rattle.gq_record.proofs.decoding.decode_row_over.Goals as goal
use Rattle.gq_record.proofs.decoding.decode_row_over.Goals.{else-not-branch-via-then-not-branch+in_ok-take_row+else-not-branch-2, else-not-branch-via-else-not-branch}

pub returns-in_default-clause-none : goal.returns-in_default-clause-none
returns-in_default-clause-none c = no_block c.args.bytes.now (rw c.in_default.is at c.take_block.ensures.none)

pub returns-then-not-branch-2-clause-none : goal.returns-then-not-branch-2-clause-none
returns-then-not-branch-2-clause-none c =
    no_cells c.args.bytes.now c.in-Some.body.now c.in-Some.field-0-1.now c.in-Some.ensures.found.0 c.in-Some.ensures.found.1 (c.in_ok-take_row.ensures.none c.if-not-branch-2.true)

pub returns-clause-found : goal.returns-clause-found
returns-clause-found c = elim c.else-not-branch.branch [
  | else-not-branch-via-then-not-branch+in_ok-take_row+else-not-branch-2 w ↦
      let body = w.in_ok-take_row.ensures.found w.if-not-branch-2.false in
      rw w.row-is (decoded c.args.bytes.now c.in-Some.body.now c.in-Some.field-0-1.now w.take_row.new.row c.in-Some.ensures.found.0 c.in-Some.ensures.found.1 body.0 body.1)
  | else-not-branch-via-else-not-branch w ↦
      let body = c.in_ok-take_values.ensures w.if-not-branch.false in
      let whole = w.row-is ∙ c.cells_mut.ensures.written c.take_values.new.cells c.take_values.auto.cells in
      rw whole (decoded c.args.bytes.now c.in-Some.body.now c.in-Some.field-0-1.now c.take_values.new.cells c.in-Some.ensures.found.0 c.in-Some.ensures.found.1 body.0 body.1)
]
