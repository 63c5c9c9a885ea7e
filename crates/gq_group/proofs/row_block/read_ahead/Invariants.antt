use Rattle.std.proofs.Common.{◌≡◌, length, take}
use Rattle.gq_group.proofs.BlockLemmas.{AheadSoFar}
use Rattle.gq_group.proofs.row_block.read_ahead.Given as goal

abbrev pub invariant-rows : goal.invariant-rows
invariant-rows g l =
    let old = g.S.RunStore.runs l.fn.store in
    let new = g.S.RunStore.runs l.store in
    record {
      read : AheadSoFar l.pass.spec.now (g.H.KeyHash.hash_of l.table.groups.hasher) (take l.i l.rows) (g.R.RowSource.gives l.fn.source old) (g.R.RowSource.gives l.source new) (g.R.RowSource.owns l.fn.source) (g.R.RowSource.owns l.source)
          (g.R.RowSource.bound l.fn.source) (g.R.RowSource.bound l.source) (g.R.RowSource.is_ready l.source new) g.R.RowSource.makes_runs old new;
      long : length l.rows ≡ length l.fn.rows;
    }
