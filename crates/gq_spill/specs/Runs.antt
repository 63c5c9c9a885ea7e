-- What contracts see of a run store, and what each call does to it.
use Rattle.std.specs.Prelude.{◌≡◌, ◌≢◌, ◌+◌, ◌≤◌, ℕ, Bool, true, false, IsTrue, List, [], ◌++◌, length, take, drop, Option, Some, Result, Ok, Err, if◌then◌else◌, is_ok}
use Rattle.gq_spill.specs.declared.store_error.StoreError.{StoreError}
use Rattle.gq_spill.specs.declared.store_error.StoreError.TheVariants.{Memory, Fault}

-- a store: which runs are live; what each live run of an honest store contains, or none once an append to it
-- failed; whether the store is honest, so that it reads back what was written; how many runs were made; and how
-- often the store failed. The contents of a store that isn't honest are unspecified.
pub record Runs : Type 0 where
  pub live : ℕ → Bool
  pub content : ℕ → Option (List ℕ)
  pub honest : Bool
  pub made : ℕ
  pub failures : ℕ

-- a run is unchanged: it is live or not as before, and a live one of an honest store has the same content
pub record SameRun (old new : Runs) (run : ℕ) : Type 0 where
  pub live : new.live run ≡ old.live run
  pub content : IsTrue old.honest → IsTrue (old.live run) → new.content run ≡ old.content run

-- every other run is unchanged
pub record Others (run : ℕ) (old new : Runs) : Type 0 where
  pub same : (r : ℕ) → r ≢ run → SameRun old new r
  pub honest : new.honest ≡ old.honest

-- every run is unchanged
pub record Kept (old new : Runs) : Type 0 where
  pub same : (r : ℕ) → SameRun old new r
  pub honest : new.honest ≡ old.honest

-- a run was made that wasn't live, and is empty
pub record Makes (run : ℕ) (old new : Runs) : Type 0 where
  pub others : Others run old new
  pub fresh : IsTrue (old.live run) → ⊥
  pub live : IsTrue (new.live run)
  pub empty : IsTrue old.honest → new.content run ≡ Some []

-- bytes were appended to a run
pub record Appends (run : ℕ) (bytes : List ℕ) (old new : Runs) : Type 0 where
  pub others : Others run old new
  pub live : IsTrue (new.live run)
  pub content : IsTrue old.honest → (c : List ℕ) → old.content run ≡ Some c → new.content run ≡ Some (c ++ bytes)

-- an append to a run failed: the run is live, and its content is unspecified
pub record Loses (run : ℕ) (old new : Runs) : Type 0 where
  pub others : Others run old new
  pub live : IsTrue (new.live run)

-- bytes of a run were read: at most as many as the buffer takes, and over an honest store the content from a
-- position on, as much as fits. The rest of the buffer is unspecified.
pub record Reads (run at : ℕ) (count : ℕ) (old_buffer new_buffer : List ℕ) (runs : Runs) : Type 0 where
  pub within : count ≤ length old_buffer
  pub bytes : IsTrue runs.honest → (c : List ℕ) → runs.content run ≡ Some c → take count new_buffer ≡ take (length old_buffer) (drop at c)

-- a run was discarded, and nothing else changed
pub record Discards (run : ℕ) (old new : Runs) : Type 0 where
  pub others : Others run old new
  pub gone : IsTrue (new.live run) → ⊥
  pub made : new.made ≡ old.made
  pub failures : new.failures ≡ old.failures

-- only one run was written to: it stays live, every other run is unchanged, and none was made; failures may
-- have been counted
pub record OnlyWrites (run : ℕ) (old new : Runs) : Type 0 where
  pub others : Others run old new
  pub live : IsTrue (new.live run)
  pub made : new.made ≡ old.made
  pub failures : old.failures ≤ new.failures

-- nothing was written or made; failures may have been counted
pub record OnlyReads (old new : Runs) : Type 0 where
  pub kept : Kept old new
  pub made : new.made ≡ old.made
  pub failures : old.failures ≤ new.failures

-- a result is a failure of the store, and not of an allocation
abbrev pub is_fault : {T : Type 0} → Result T StoreError → Bool
is_fault (Ok x) = false
is_fault (Err Memory) = false
is_fault (Err Fault) = true

-- a test as a number
abbrev pub one_if : Bool → ℕ
one_if b = if b then 1 else 0

-- the counts after a call that makes no run: a failure is counted, and nothing else
pub record Counts {T : Type 0} (result : Result T StoreError) (old new : Runs) : Type 0 where
  pub made : new.made ≡ old.made
  pub failures : new.failures ≡ old.failures + one_if (is_fault result)

-- the counts after a call that makes a run: it is counted if it succeeds, and a failure else
pub record CountsMade {T : Type 0} (result : Result T StoreError) (old new : Runs) : Type 0 where
  pub made : new.made ≡ old.made + one_if (is_ok result)
  pub failures : new.failures ≡ old.failures + one_if (is_fault result)
