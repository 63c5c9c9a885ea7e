-- A store that may not read back what was written.
use Rattle.std.specs.Prelude.{false}
use Rattle.gq_spill.specs.Runs.{Runs}

-- a store that isn't honest, and else the same
abbrev pub lying : Runs → Runs
lying runs = record { live = runs.live; content = runs.content; honest = false; made = runs.made; failures = runs.failures }
