use Rattle.std.proofs.Common.{◌≡◌, drop}
use Rattle.gq_engine.specs.Refusing.{fits_key}
use Rattle.gq_engine.proofs.keys.fit_key.Given as goal

abbrev pub invariant-loop-i : goal.invariant-loop-i
invariant-loop-i l = fits_key l.columns (drop l.i l.key) (drop l.i l.values) ≡ fits_key l.columns l.key l.values
