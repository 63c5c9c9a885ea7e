use Rattle.std.proofs.Common.{◌≡◌, map, take}
use Rattle.gq_infer.specs.Files.{place_of}
use Rattle.gq_infer.proofs.header.places_of.Given as goal

abbrev pub invariant-loop-name : goal.invariant-loop-name
invariant-loop-name l = l.places.items ≡ map (λ name. place_of l.header name) (take l.name-index l.names)
