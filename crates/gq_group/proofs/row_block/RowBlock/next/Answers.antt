use Rattle.gq_group.proofs.BlockLemmas.{comes_first, first_hashed, others_hashed}
use Rattle.gq_group.proofs.row_block.RowBlock.next.Goals as goal

pub returns-then-self-clause-comes : goal.returns-then-self-clause-comes
returns-then-self-clause-comes g c =
    let block = c.args.self.now in
    comes_first block.rows.items block.taken block.count block.within c.if-self.true _ _ _ _ _ _ c.requires.source

pub returns-then-self-clause-row : goal.returns-then-self-clause-row
returns-then-self-clause-row g c =
    let block = c.args.self.now in
    first_hashed block.rows.items block.taken block.count block.within c.if-self.true _ _ c.requires.hashed

pub returns-then-self-clause-hashed : goal.returns-then-self-clause-hashed
returns-then-self-clause-hashed g c =
    let block = c.args.self.now in
    others_hashed block.rows.items block.taken block.count block.within c.if-self.true _ _ c.requires.hashed
