-- How writers and readers of runs report the errors of the store.
use Rattle.std.specs.Prelude.{◌≡◌, ◌+◌, Bool, true, false, Result, Ok, Err}
use Rattle.gq_spill.specs.Runs.{Runs, one_if}
use Rattle.gq_spill.specs.declared.store_error.StoreError.{StoreError}
use Rattle.gq_spill.specs.declared.store_error.StoreError.TheVariants.{Memory as NoMemory, Fault}
use Rattle.gq_spill.specs.declared.spill_refusal.SpillRefusal.{SpillRefusal}
use Rattle.gq_spill.specs.declared.spill_refusal.SpillRefusal.TheVariants.{Memory, StoreFault, Damaged}

-- the error that a store's error becomes
abbrev pub refused_as : StoreError → SpillRefusal
refused_as NoMemory = Memory
refused_as Fault = StoreFault

-- a result is the error that the store failed
abbrev pub reports_fault : {T : Type 0} → Result T SpillRefusal → Bool
reports_fault (Ok x) = false
reports_fault (Err Memory) = false
reports_fault (Err StoreFault) = true
reports_fault (Err Damaged) = false

-- a call reports a failure of the store exactly if it failed, and the failure is counted once
abbrev pub ReportsFaults : {T : Type 0} → Result T SpillRefusal → Runs → Runs → Type 0
ReportsFaults result old new = new.failures ≡ old.failures + one_if (reports_fault result)
