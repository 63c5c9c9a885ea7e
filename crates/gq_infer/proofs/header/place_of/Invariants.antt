use Rattle.std.proofs.Common.{◌≡◌, ◌<◌, ℕ, [], false, get_or, bytes_eq}
use Rattle.gq_infer.proofs.header.place_of.Given as goal

abbrev pub invariant-loop-i : goal.invariant-loop-i
invariant-loop-i l = (k : ℕ) → k < l.i → bytes_eq (get_or l.header k []) l.name ≡ false
