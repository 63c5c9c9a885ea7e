-- A store that may not read back what was written.
use Rattle.std.specs.Prelude.{false}
use Rattle.gq_spill.specs.Runs.{Runs}

-- the runs of a store that promises nothing about their contents
abbrev pub lying : Runs → Runs
lying runs = record { live = runs.live; content = runs.content; honest = false; made = runs.made; failures = runs.failures }
