-- A store that keeps its runs in files. Contracts can't say what a file has, so it isn't honest.
use Rattle.std.specs.Prelude.{ℕ, false, List, None, Option, length, is_some, slice_index_or}
use Rattle.gq_spill.specs.Runs.{Runs}

-- the runs of a folder: a file for each that was made, or none once it was discarded
abbrev pub folder_runs : {F : Type 0} → List (Option F) → ℕ → Runs
folder_runs kept failures = record {
  live = λ run. is_some (slice_index_or kept run None);
  content = λ run. None;
  honest = false;
  made = length kept;
  failures = failures;
}
