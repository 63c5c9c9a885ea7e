use Rattle.std.proofs.Common.{◌≡◌, ◌++◌, ◌-◌, take}
use Rattle.std.specs.Prelude.{replicate}
use Rattle.gq_row.specs.declared.value.Value.TheVariants.{Null}
use Rattle.gq_query.proofs.rollup.write_filled.Given as goal

abbrev pub invariant-loop : goal.invariant-loop
invariant-loop l = l.cells.items ≡ (l.fn.cells.items ++ take l.level l.row) ++ replicate (l.counter - l.level) Null
