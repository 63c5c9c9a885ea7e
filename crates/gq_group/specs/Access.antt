-- What sources and sinks do with the run store that they share.
use Rattle.std.specs.Prelude.{◌≡◌, ◌≤◌, ◌<◌, ◌||◌, ℕ, Bool, false, IsTrue}
use Rattle.gq_spill.specs.Runs.{Runs, SameRun}
use Rattle.gq_spill.specs.declared.spill_refusal.SpillRefusal.{SpillRefusal}
use Rattle.gq_spill.specs.declared.spill_refusal.SpillRefusal.TheVariants as spill
use Rattle.gq_group.specs.declared.refusal.Refusal.{Refusal}
use Rattle.gq_group.specs.declared.refusal.Refusal.TheVariants.{SumRange, Memory, StoreFault, Damaged}

-- a set of runs, as a test on their numbers
abbrev pub RunSet : Type 0
RunSet = ℕ → Bool

-- the runs of one or the other
abbrev pub either : RunSet → RunSet → RunSet
either a b run = a run || b run

-- no run is in both
abbrev pub Apart : RunSet → RunSet → Type 0
Apart a b = (run : ℕ) → IsTrue (a run) → b run ≡ false

-- Runs of others are as they were. It still owns its runs, and those that it gained were made since. No run is discarded.
pub record LeavesOthers (owned owns : RunSet) (old new : Runs) : Type 0 where
  pub others : (run : ℕ) → owns run ≡ false → SameRun old new run
  pub grows : (run : ℕ) → IsTrue (owned run) → IsTrue (owns run)
  pub fresh : (run : ℕ) → owned run ≡ false → IsTrue (owns run) → IsTrue (old.live run) → ⊥
  pub live : (run : ℕ) → IsTrue (old.live run) → IsTrue (new.live run)
  pub same_honest : new.honest ≡ old.honest
  pub no_fewer_failures : old.failures ≤ new.failures
  pub no_fewer_made : old.made ≤ new.made

-- its own runs are as they were, whatever became of others
pub record KeepsOwn (owns : RunSet) (old new : Runs) : Type 0 where
  pub own : (run : ℕ) → IsTrue (owns run) → SameRun old new run
  pub same_honest : new.honest ≡ old.honest

-- why a source or a sink refuses
abbrev pub HasCause : Refusal → Runs → Runs → Type 0
HasCause Memory old new = Unit {0}
HasCause StoreFault old new = old.failures < new.failures
HasCause Damaged old new = IsTrue old.honest → ⊥
HasCause SumRange old new = ⊥

-- the refusal of a run's writer or reader, as one of a grouping
abbrev pub refused_as : SpillRefusal → Refusal
refused_as spill.Memory = Memory
refused_as spill.StoreFault = StoreFault
refused_as spill.Damaged = Damaged

-- why a grouping refuses; a clause of its own says when it returns that a sum is out of range
abbrev pub GroupCause : Refusal → Runs → Runs → Type 0
GroupCause SumRange old new = Unit {0}
GroupCause Memory old new = HasCause Memory old new
GroupCause StoreFault old new = HasCause StoreFault old new
GroupCause Damaged old new = HasCause Damaged old new
