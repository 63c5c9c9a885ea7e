-- A source that owns no run, and a sink that owns none.
use Rattle.std.specs.Prelude.{IsTrue, false, ℕ}
use Rattle.std.proofs.lemmas.Bool.{false≢true}
use Rattle.gq_spill.specs.Runs.{Runs}

pub none_live : (runs : Runs) (run : ℕ) → IsTrue false → IsTrue (runs.live run)
none_live runs run own = absurd (false≢true own)
