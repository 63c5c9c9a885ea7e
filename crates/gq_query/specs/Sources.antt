-- The runs of a source or a sink that owns none.
use Rattle.std.specs.Prelude.{IsTrue, ℕ, false}
use Rattle.std.proofs.lemmas.Bool.{false≢true}
use Rattle.gq_group.specs.Access.{RunSet}
use Rattle.gq_spill.specs.Runs.{Runs}

-- the empty set of runs
abbrev pub no_runs : RunSet
no_runs run = false

-- each owned run is live, since none is owned
pub none_live : (runs : Runs) (run : ℕ) → IsTrue (no_runs run) → IsTrue (runs.live run)
none_live runs run own = absurd (false≢true own)
