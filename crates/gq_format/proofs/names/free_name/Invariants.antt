use Rattle.std.proofs.Common.{◌≡◌, ◌-◌, ◌++◌, not, map, find}
use Rattle.std.specs.List.{range_with_len}
use Rattle.std.specs.Prelude.{unwrap_or}
use Rattle.gq_format.specs.Names.{free_name, is_taken, numbered}
use Rattle.gq_format.proofs.names.free_name.Given as goal

abbrev pub invariant-loop-n : goal.invariant-loop-n
invariant-loop-n l = unwrap_or (find (λ own. not (is_taken (l.header ++ l.given) own)) (map (numbered l.name) (range_with_len l.n (l.n-end - l.n)))) l.name ≡ free_name (l.header ++ l.given) l.name
