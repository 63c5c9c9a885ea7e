-- Rows of a source are read, and what became of each.
use Rattle.std.proofs.Common.{◌≡◌, ◌≤◌, ◌+◌, ◌∙◌, ◌==◌, ℕ, Bool, false, List, [], ◌∷◌, length, Result, Ok, Err, cond, refl, sym, subst, arith}
use Rattle.std.specs.Prelude.{IsTrue, IsErrAnd}
use Rattle.gq_row.specs.declared.value.Value.{Value}
use Rattle.gq_spill.specs.Runs.{Runs}
use Rattle.gq_group.specs.Access.{RunSet, Apart, either, LeavesOthers, KeepsOwn, HasCause}
use Rattle.gq_group.specs.Entries.{Pair}
use Rattle.gq_group.specs.Blocks.{Then}
use Rattle.gq_group.specs.Groups.{Spec}
use Rattle.gq_group.specs.PassResults.{RowsRead}
use Rattle.gq_group.specs.Passes.{Places, Reads}
use Rattle.gq_group.specs.Residents.{Resident}
use Rattle.gq_group.specs.Partitions.{among, Ours, AllHeld, AreEmpty}
use Rattle.gq_group.specs.declared.pass.Taken.{Taken}
use Rattle.gq_group.specs.declared.refusal.Refusal.{Refusal}
use Rattle.gq_group.specs.declared.partition.Partition.{Partition}
use Rattle.gq_group.specs.declared.row_block.Ahead.{Ahead}
use Rattle.gq_group.proofs.AccessLemmas.{keeps-apart, leaves-trans}
use Rattle.gq_group.proofs.ReadLemmas.{apart-empty, apart-flip, apart-step, cause-later, leaves-left, others-empty, ours-empty, ours-stays, placing, placing-cause, reads-end, reads-none, reads-step}
use Rattle.gq_group.proofs.PartitionLemmas.{held-stays}

-- what was done so far; at most `left` rows are still to come
pub record RowsSoFar (spec : Spec) (budget : ℕ) (part_of : List Value → ℕ) (fan_out most left : ℕ) (gives now : List (List Value) → Type 0) (a b : RunSet) (source_ready : Type 0) (source_makes : Bool) (old new : Runs)
    (count written began columns : ℕ) (pairs : List Pair) (partitions : List Partition) : Type 0 where
  pub ready : source_ready
  pub read : Reads spec budget part_of fan_out old.honest gives now new count written began columns pairs partitions
  pub bound : count + left ≤ most
  pub less : written ≤ count
  pub less_runs : began ≤ written
  pub same_length : length partitions ≡ fan_out
  pub ours : Ours partitions new
  pub apart : Apart (among partitions) b
  pub others : LeavesOthers a (either b (among partitions)) old new
  pub grows : (run : ℕ) → IsTrue (a run) → IsTrue (b run)
  pub owned : source_makes ≡ false → (run : ℕ) → IsTrue (b run) → IsTrue (a run)
  pub made : source_makes ≡ false → new.made ≡ old.made + began

at_err : (P : Result Taken Refusal → Type 0) (q : Result Taken Refusal) (e : Refusal) → IsErrAnd q (λ y. y ≡ e) → P (Err e) → P q
at_err P (Ok x) e is h = absurd is
at_err P (Err y) e is h = subst (λ x. P (Err x)) (sym is) h

module _ (spec : Spec) (budget : ℕ) (part_of : List Value → ℕ) (fan_out most : ℕ) (gives : List (List Value) → Type 0) (a : RunSet) (source_makes : Bool) (r0 : Runs) where
  pub rows-none : (first : List Ahead) (source_ready : Type 0) (pairs : List Pair) (partitions : List Partition) → first ≡ [] → source_ready → Resident spec budget [] pairs → length partitions ≡ fan_out → AreEmpty partitions
      → RowsSoFar spec budget part_of fan_out most (length first + most) gives (Then first gives) a a source_ready source_makes r0 r0 0 0 0 0 pairs partitions
  rows-none first source_ready pairs partitions none ready start places empty = subst (λ l. RowsSoFar spec budget part_of fan_out most (length l + most) gives (Then l gives) a a source_ready source_makes r0 r0 0 0 0 0 pairs partitions) (sym none) (record {
    ready = ready;
    read = reads-none spec budget part_of fan_out r0.honest gives (Then [] gives) r0 pairs partitions (λ rows is. (rows, refl, is)) start places empty;
    bound = omega arith;
    less = omega arith;
    less_runs = omega arith;
    same_length = places;
    ours = ours-empty partitions r0 empty;
    apart = apart-empty partitions a empty;
    others = others-empty partitions a r0 empty;
    grows = λ run h. h;
    owned = λ no_runs run h. h;
    made = λ no_runs. omega arith;
  })

  -- the source took a step
  module _ (b b' : RunSet) (left : ℕ) (now : List (List Value) → Type 0) (source_ready : Type 0) (r s : Runs) (count written began columns : ℕ) (pairs : List Pair) (partitions : List Partition)
      (inv : RowsSoFar spec budget part_of fan_out most left gives now a b source_ready source_makes r0 r count written began columns pairs partitions)
      (step : LeavesOthers b b' r s) (owned : source_makes ≡ false → (run : ℕ) → IsTrue (b' run) → IsTrue (b run)) where
    partitions_kept : KeepsOwn (among partitions) r s
    partitions_kept = keeps-apart b b' (among partitions) r s step (apart-flip (among partitions) b inv.apart) inv.ours.live

    stepped : LeavesOthers a (either b' (among partitions)) r0 s
    stepped = leaves-trans _ _ _ _ _ _ inv.others (leaves-left b b' (among partitions) r s step)

    away : Apart (among partitions) b'
    away = apart-step r s b b' (among partitions) step inv.apart inv.ours.live

    grows : (run : ℕ) → IsTrue (a run) → IsTrue (b' run)
    grows run h = step.grows run (inv.grows run h)

    all_owned : source_makes ≡ false → (run : ℕ) → IsTrue (b' run) → IsTrue (a run)
    all_owned none run h = inv.owned none run (owned none run h)

    -- and refused a row
    pub rows-stopped : (ready : Type 0) (q : Result Taken Refusal) (e : Refusal) → IsErrAnd q (λ y. y ≡ e) → HasCause e r s → RowsRead spec budget part_of fan_out most gives a b' ready source_makes r0 s pairs partitions q
    rows-stopped ready q e is cause = at_err (λ x. RowsRead spec budget part_of fan_out most gives a b' ready source_makes r0 s pairs partitions x) q e is (record {
      read = tt;
      bound = tt;
      less_runs = tt;
      places = inv.same_length;
      source = tt;
      ours = ours-stays r s b b' partitions step inv.ours;
      apart = away;
      others = stepped;
      grows = grows;
      owned = all_owned;
      made = λ none. tt;
      cause = cause-later e a (either b (among partitions)) r0 r s inv.others cause;
    })

    -- and there was no row
    pub rows-done : (ready : Type 0) → ready → (IsTrue r.honest → (rows : List (List Value)) → now rows → rows ≡ []) → (source_makes ≡ false → s.made ≡ r.made)
        → RowsRead spec budget part_of fan_out most gives a b' ready source_makes r0 s pairs partitions (Ok (record { rows_read = count; rows_written = written; runs = began; columns = columns }))
    rows-done ready is over made = record {
      read = reads-end spec budget part_of fan_out r0.honest gives now r s count written began columns pairs partitions inv.read (λ h. over (inv.others.same_honest ∙ h)) (λ parts held. held-stays r s partitions parts partitions_kept inv.ours held);
      bound = omega (arith, inv.bound);
      less_runs = inv.less_runs;
      places = inv.same_length;
      source = is;
      ours = ours-stays r s b b' partitions step inv.ours;
      apart = away;
      others = stepped;
      grows = grows;
      owned = all_owned;
      made = λ none. made none ∙ inv.made none;
      cause = tt;
    }

    -- and gave a row
    module _ (row : List Value) (mid : List (List Value) → Type 0) (next : IsTrue r.honest → (rows : List (List Value)) → now rows → (rest : List (List Value)) × (rows ≡ row ∷ rest) × mid rest) where
      module _ (m' : List Pair) (partitions' : List Partition) (t : Runs) (places : length partitions' ≡ fan_out) (ours : Ours partitions' t) (put : LeavesOthers (among partitions) (among partitions') s t) (live : (run : ℕ) → IsTrue (b' run) → IsTrue (s.live run)) where
        -- for which there was no place
        pub rows-unplaced : (ready : Type 0) (q : Result Taken Refusal) (e : Refusal) → IsErrAnd q (λ y. y ≡ e) → ((parts : List (List (List Value))) → AllHeld s partitions parts → HasCause e s t)
            → RowsRead spec budget part_of fan_out most gives a b' ready source_makes r0 t m' partitions' q
        rows-unplaced ready q e is cause =
            let done = placing a b b' partitions partitions' r0 r s t step put inv.ours inv.apart inv.others live in
            at_err (λ x. RowsRead spec budget part_of fan_out most gives a b' ready source_makes r0 t m' partitions' x) q e is (record {
              read = tt;
              bound = tt;
              less_runs = tt;
              places = places;
              source = tt;
              ours = ours;
              apart = done.apart;
              others = done.others;
              grows = grows;
              owned = all_owned;
              made = λ none. tt;
              cause = placing-cause e a b b' spec budget part_of fan_out r0.honest gives now r0 r s t count written began columns pairs partitions inv.read step inv.ours inv.apart inv.others cause;
            })

        -- and it was placed
        pub rows-more : (ready : Type 0) (after : List (List Value) → Type 0) (as_many : ℕ) (by_part : List Value → ℕ) (w n later wide wrote runs : ℕ) → wrote ≡ written + w → runs ≡ began + n → as_many ≡ budget → by_part ≡ part_of → Places spec as_many by_part fan_out row s t pairs m' partitions partitions' w n
            → wide ≡ cond (count == 0) (length row) columns → 1 + later ≤ left → (KeepsOwn b' s t → ready) → (KeepsOwn b' s t → IsTrue s.honest → (rest : List (List Value)) → mid rest → after rest)
            → (source_makes ≡ false → s.made ≡ r.made) → t.made ≡ s.made + n
            → RowsSoFar spec budget part_of fan_out most later gives after a b' ready source_makes r0 t (count + 1) wrote runs wide m' partitions'
        rows-more ready after as_many by_part w n later wide wrote runs is_wrote is_runs same alike placed is_wide fewer stays keeps made made_placing =
            let done = placing a b b' partitions partitions' r0 r s t step put inv.ours inv.apart inv.others live in
            record {
              ready = stays done.kept;
              read = reads-step spec budget as_many part_of by_part fan_out r0.honest gives now after r s t count written began columns w n pairs m' partitions partitions' row wrote runs is_wrote is_runs inv.read
                  (λ h rows is. let before = inv.others.same_honest ∙ h in let got = next before rows is in (got.0, got.1, keeps done.kept (step.same_honest ∙ before) got.0 got.2))
                  done.held same alike placed wide is_wide;
              bound = omega (arith, fewer, inv.bound);
              less = omega (arith, inv.less, placed.one, is_wrote);
              less_runs = omega (arith, inv.less_runs, placed.one_began, is_wrote, is_runs);
              same_length = places;
              ours = ours;
              apart = done.apart;
              others = done.others;
              grows = grows;
              owned = all_owned;
              made = λ none. omega (arith, made none, inv.made none, made_placing, is_runs);
            }
