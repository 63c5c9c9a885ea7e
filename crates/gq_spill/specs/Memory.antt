-- A store that keeps its runs in a list: the content of each run that was made, or none once it was discarded.
use Rattle.std.specs.Prelude.{ℕ, true, List, length, Option, None, is_some, slice_index_or}
use Rattle.gq_spill.specs.Runs.{Runs}

-- the content of a run, by its number
abbrev pub run_at : List (Option (List ℕ)) → ℕ → Option (List ℕ)
run_at kept run = slice_index_or kept run None

-- a list of contents as a run store: it is honest, and never fails
abbrev pub mem_runs : List (Option (List ℕ)) → Runs
mem_runs kept = record {
  live = λ run. is_some (run_at kept run);
  content = run_at kept;
  honest = true;
  made = length kept;
  failures = 0;
}
