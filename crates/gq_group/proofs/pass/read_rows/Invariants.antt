use Rattle.std.proofs.Common.{◌≡◌, ◌+◌, length}
use Rattle.gq_group.specs.Blocks.{AreHashed, Then, left_of}
use Rattle.gq_group.specs.Partitioning.{partition_by, fan_out}
use Rattle.gq_group.proofs.RowLemmas.{RowsSoFar}
use Rattle.gq_group.proofs.pass.read_rows.Given as goal

abbrev pub invariant-rows : goal.invariant-rows
invariant-rows g l =
    let old = g.S.RunStore.runs l.fn.store in
    let new = g.S.RunStore.runs l.store in
    let first = left_of l.block.taken l.block.count l.block.rows.items in
    record {
      done : RowsSoFar l.pass.spec.now l.fn.table.budget.entries (partition_by (g.H.KeyHash.hash_of l.fn.table.groups.hasher) l.pass.depth) (fan_out l.pass.depth) (g.R.RowSource.bound l.fn.source) (length first + g.R.RowSource.bound l.source)
          (g.R.RowSource.gives l.fn.source old) (Then first (g.R.RowSource.gives l.source new)) (g.R.RowSource.owns l.fn.source) (g.R.RowSource.owns l.source) (g.R.RowSource.is_ready l.source new) g.R.RowSource.makes_runs old new
          l.rows_read l.rows_written l.runs l.columns l.table.groups.pairs l.partitions.items;
      hashed : AreHashed l.pass.spec.now (g.H.KeyHash.hash_of l.fn.table.groups.hasher) first;
      budget : l.table.budget ≡ l.fn.table.budget;
      each : l.table.groups.each ≡ length l.pass.spec.now.aggs;
      hasher : l.table.groups.hasher ≡ l.fn.table.groups.hasher;
    }

abbrev pub decreases-rows : goal.decreases-rows
decreases-rows g l = length (left_of l.block.taken l.block.count l.block.rows.items) + g.R.RowSource.bound l.source
