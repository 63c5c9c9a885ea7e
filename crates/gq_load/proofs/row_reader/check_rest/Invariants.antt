use Rattle.std.proofs.Common.{◌≡◌, ◌+◌, Some, length}
use Rattle.std.specs.Prelude.{IfSome, option_map}
use Rattle.gq_load.specs.Coming.{data_left, fault_of}
use Rattle.gq_load.specs.Payloads.{rows_from}
use Rattle.gq_load.proofs.row_reader.check_rest.Given as goal

abbrev pub invariant-loop-last : goal.invariant-loop-last
invariant-loop-last g l = IfSome (data_left l.format.short (length l.format.header) l.fn.reader.rest) (λ all.
    option_map (λ left. fault_of (rows_from l.format.schema.now l.format.limits.now.bounds.text l.format.header (l.last + 1) left)) (data_left l.format.short (length l.format.header) l.reader.rest)
    ≡ Some (fault_of (rows_from l.format.schema.now l.format.limits.now.bounds.text l.format.header (l.number + 1) all)))
