use Rattle.std.proofs.Common.{◌≡◌, [], ◌∷◌, ◌++◌, drop, fold}
use Rattle.gq_format.specs.Names.{distinct_names, own_name}
use Rattle.gq_format.proofs.names.distinct_names.Given as goal

abbrev pub invariant-loop-name : goal.invariant-loop-name
invariant-loop-name l = fold (λ given name. given ++ own_name l.header given name ∷ []) l.names.items (drop l.name-index l.header) ≡ distinct_names l.header
