-- What one pass did, by what was read and what was pushed.
use Rattle.std.proofs.Common.{◌≡◌, ◌≤◌, ◌<◌, ◌+◌, ◌++◌, ◌∙◌, ℕ, Bool, false, true, List, [], length, Result, Ok, Err, sym, ap, subst, append-nil}
use Rattle.std.specs.Prelude.{IsTrue, IsErrAnd, IsErrOf}
use Rattle.std.specs.FinMap.{len}
use Rattle.gq_row.specs.declared.value.Value.{Value}
use Rattle.gq_spill.specs.Runs.{Runs}
use Rattle.gq_group.specs.Access.{RunSet, Apart, either, LeavesOthers, KeepsOwn, HasCause, GroupCause}
use Rattle.gq_group.specs.Entries.{Pair, Grouped, listed}
use Rattle.gq_group.specs.Groups.{Spec, Group, Pushes, keys_of, out_of_range}
use Rattle.gq_group.specs.KeptAggs.{kept_spec}
use Rattle.gq_group.specs.PassResults.{PassRan}
use Rattle.gq_group.specs.Partitioning.{fan_out}
use Rattle.gq_group.specs.Passes.{Reads}
use Rattle.gq_group.specs.Residents.{taken}
use Rattle.gq_group.specs.Partitions.{among, Ours, AreEmpty}
use Rattle.gq_group.specs.declared.pass.PassStats.{PassStats}
use Rattle.gq_group.specs.declared.refusal.Refusal.{Refusal}
use Rattle.gq_group.specs.declared.refusal.Refusal.TheVariants.{SumRange, Memory}
use Rattle.gq_group.specs.declared.partition.Partition.{Partition}
use Rattle.gq_group.proofs.AccessLemmas.{keeps-apart, leaves-both, leaves-refl, or_left, or_right}
use Rattle.gq_group.proofs.PassLemmas.{parted, numbers, range-taken}
use Rattle.gq_group.proofs.ReadLemmas.{apart-step, apart-flip, apart-either, ours-empty, ours-stays, apart-empty, leaves-empty, group_cause-of, group_cause-later, places-few}
use Rattle.gq_group.proofs.PartitionLemmas.{held-stays}

at_err : (P : Result PassStats Refusal → Type 0) (q : Result PassStats Refusal) (e : Refusal) → IsErrAnd q (λ y. y ≡ e) → P (Err e) → P q
at_err P (Ok x) e is h = absurd is
at_err P (Err y) e is h = subst (λ x. P (Err x)) (sym is) h

module _ (spec : Spec) (budget bound : ℕ) (gives : List (List Value) → Type 0) (held holds : List Group → Type 0) (source_ready sink_ready : Type 0) (source_makes sink_makes : Bool) where
  -- nothing was read
  pub pass-none : (a k : RunSet) (r : Runs) (partitions : List Partition) → length partitions ≤ 16 → AreEmpty partitions → Apart a k → PassRan spec budget bound gives held holds a a k k source_ready sink_ready source_makes sink_makes r r partitions (Err Memory)
  pass-none a k r partitions few empty apart = record {
    parted = λ h. tt;
    overflow = λ e. let no : ⊥ = cc in absurd no;
    numbers = tt;
    places = few;
    source = tt;
    sink = tt;
    ours = ours-empty partitions r empty;
    apart = apart-empty partitions (either a k) empty;
    still_apart = apart;
    others = leaves-empty partitions a k r empty;
    grows = λ run h. h;
    sink_grows = λ run h. h;
    owned = λ none run h. h;
    made = λ none no. tt;
    cause = tt;
  }

  module _ (a a' k k' : RunSet) (r s t : Runs) (partitions : List Partition) (depth : ℕ) (apart : Apart a k) (live : (run : ℕ) → IsTrue (k run) → IsTrue (r.live run)) (few : length partitions ≡ fan_out depth)
      (ours : Ours partitions s) (away : Apart (among partitions) a') (step : LeavesOthers a (either a' (among partitions)) r s) (grows : (run : ℕ) → IsTrue (a run) → IsTrue (a' run))
      (owned : source_makes ≡ false → (run : ℕ) → IsTrue (a' run) → IsTrue (a run)) (then : LeavesOthers k k' s t) where
    sink_apart : Apart k (either a' (among partitions))
    sink_apart = apart-step r s a (either a' (among partitions)) k step (apart-flip a k apart) live

    source_apart : Apart a' k
    source_apart = apart-flip k a' (λ run i. or_left (a' run) (among partitions run) (sink_apart run i))

    partitions_apart : Apart (among partitions) k
    partitions_apart = apart-flip k (among partitions) (λ run i. or_right (a' run) (among partitions run) (sink_apart run i))

    still : ((run : ℕ) → IsTrue (a' run) → IsTrue (s.live run)) → Apart a' k'
    still source_live = apart-step s t k k' a' then source_apart source_live

    partitions_still : Apart (among partitions) (either a' k')
    partitions_still = apart-either (among partitions) a' k' away (apart-step s t k k' (among partitions) then partitions_apart ours.live)

    refused : (q : Result PassStats Refusal) (e : Refusal) → IsErrAnd q (λ y. y ≡ e) → Apart a' k' → (e ≡ SumRange → IsTrue r.honest → (rows : List (List Value)) → gives rows → out_of_range spec rows ≡ true) → GroupCause e r t
        → PassRan spec budget bound gives held holds a a' k k' source_ready sink_ready source_makes sink_makes r t partitions q
    refused q e is alone overflow cause = at_err (λ x. PassRan spec budget bound gives held holds a a' k k' source_ready sink_ready source_makes sink_makes r t partitions x) q e is (record {
      parted = λ h. tt;
      overflow = λ of. overflow cc;
      numbers = tt;
      places = places-few depth (length partitions) few;
      source = tt;
      sink = tt;
      ours = ours-stays s t k k' partitions then ours;
      apart = partitions_still;
      still_apart = alone;
      others = leaves-both a (either a' (among partitions)) k k' r s t step then;
      grows = grows;
      sink_grows = then.grows;
      owned = owned;
      made = λ none no. tt;
      cause = cause;
    })

    module _ (part_of : List Value → ℕ) (many count written began columns : ℕ) (m pairs : List Pair) (reads : Reads (kept_spec spec) many part_of (fan_out depth) r.honest gives (λ left. left ≡ []) s count written began columns m partitions)
        (as_many : many ≡ budget) (same : pairs ≡ m) (source_live : (run : ℕ) → IsTrue (a' run) → IsTrue (s.live run)) where
      read : Reads (kept_spec spec) budget part_of (fan_out depth) r.honest gives (λ left. left ≡ []) s count written began columns m partitions
      read = subst (λ n. Reads (kept_spec spec) n part_of (fan_out depth) r.honest gives (λ left. left ≡ []) s count written began columns m partitions) as_many reads

      grouped : Grouped (kept_spec spec) (taken spec m read.done) pairs
      grouped = subst (λ l. Grouped (kept_spec spec) (taken spec m read.done) l) (sym same) read.resident.grouped

      all_done : IsTrue r.honest → (rows : List (List Value)) → gives rows → rows ≡ read.done
      all_done h rows b = let got = read.rest h rows b in got.1 ∙ ap (λ l. read.done ++ l) got.2 ∙ append-nil read.done

      abbrev done : ℕ → PassStats
      done groups = record { rows_read = count; rows_written = written; groups = groups; runs = began; columns = columns }

      -- the sink refused a group
      pub pass-full : {U : Type 0} (q : Result PassStats Refusal) (e : Refusal) → IsErrAnd q (λ y. y ≡ e) → (IsErrOf {T = U} (Err e) SumRange → (rows : List (List Value)) → Grouped (kept_spec spec) rows pairs → out_of_range spec rows ≡ true)
          → GroupCause e s t → PassRan spec budget bound gives held holds a a' k k' source_ready sink_ready source_makes sink_makes r t partitions q
      pass-full {U = U} q e is overflow cause = refused q e is (still source_live)
          (λ of h rows b. ap (out_of_range spec) (all_done h rows b) ∙ range-taken spec budget read.done m read.resident (overflow (ap (λ (x : Refusal). Err x) of) (taken spec m read.done) grouped))
          (group_cause-later e a (either a' (among partitions)) r s t step cause)

      -- all was read and pushed
      pub pass-done : (groups : ℕ) (mid : List Group → Type 0) → ((k : List Value) → part_of k < fan_out depth) → 1 ≤ budget
          → count ≤ bound → began ≤ written → (KeepsOwn k r s → IsTrue r.honest → (before : List Group) → held before → mid before)
          → ((rows : List (List Value)) → Grouped (kept_spec spec) rows pairs → Pushes spec rows (λ out. IsTrue s.honest → (before : List Group) → mid before → holds (before ++ out)))
          → ((rows : List (List Value)) → Grouped (kept_spec spec) rows pairs → groups ≡ length (keys_of spec.by rows)) → groups ≡ len (listed pairs) → (KeepsOwn a' s t → source_ready) → sink_ready
          → (source_makes ≡ false → s.made ≡ r.made + began) → (sink_makes ≡ false → t.made ≡ s.made)
          → PassRan spec budget bound gives held holds a a' k k' source_ready sink_ready source_makes sink_makes r t partitions (Ok (done groups))
      pass-done groups mid lesser some within fewer keeps pushes keyed entries stays sink_ready made_reading made_pushing =
          let p = pushes (taken spec m read.done) grouped in
          let kept : KeepsOwn k r s = keeps-apart a (either a' (among partitions)) k r s step apart live in
          let partitions_kept : KeepsOwn (among partitions) s t = keeps-apart k k' (among partitions) s t then (apart-flip (among partitions) k partitions_apart) ours.live in
          let count = keyed (taken spec m read.done) grouped in
          let listed_count : groups ≡ len (listed m) = entries ∙ ap (λ (l : List Pair). len (listed l)) same in
          record {
            parted = λ h rows b.
                parted spec budget part_of (fan_out depth) r.honest gives s t m partitions (done groups) (λ out. (before : List Group) → held before → holds (before ++ out)) rows lesser read h b
                (p.0, p.1, λ before had. p.2 (step.same_honest ∙ h) before (keeps kept h before had)) count listed_count
                (λ parts i. held-stays s t partitions parts partitions_kept ours i);
            overflow = λ e. let no : ⊥ = cc in absurd no;
            numbers = numbers spec budget bound part_of (fan_out depth) r.honest gives s m partitions (done groups) some lesser read count listed_count within fewer;
            places = places-few depth (length partitions) few;
            source = stays (keeps-apart k k' a' s t then (apart-flip a' k source_apart) source_live);
            sink = sink_ready;
            ours = ours-stays s t k k' partitions then ours;
            apart = partitions_still;
            still_apart = still source_live;
            others = leaves-both a (either a' (among partitions)) k k' r s t step then;
            grows = grows;
            sink_grows = then.grows;
            owned = owned;
            made = λ none no. made_pushing no ∙ made_reading none;
            cause = tt;
          }

  -- the source refused a row, or there was no place for one
  pub pass-stopped : (a a' k : RunSet) (r s : Runs) (partitions : List Partition) (depth : ℕ) → Apart a k → ((run : ℕ) → IsTrue (k run) → IsTrue (r.live run)) → length partitions ≡ fan_out depth
      → Ours partitions s → Apart (among partitions) a' → LeavesOthers a (either a' (among partitions)) r s → ((run : ℕ) → IsTrue (a run) → IsTrue (a' run)) → (source_makes ≡ false → (run : ℕ) → IsTrue (a' run) → IsTrue (a run))
      → (q : Result PassStats Refusal) (e : Refusal) → IsErrAnd q (λ y. y ≡ e) → HasCause e r s → PassRan spec budget bound gives held holds a a' k k source_ready sink_ready source_makes sink_makes r s partitions q
  pass-stopped a a' k r s partitions depth apart live few ours away step grows owned q e is cause =
      let then = leaves-refl k s in
      refused a a' k k r s s partitions depth apart live few ours away step grows owned then q e is (source_apart a a' k k r s s partitions depth apart live few ours away step grows owned then)
      (λ of. absurd (subst (λ x. HasCause x r s) of cause)) (group_cause-of e r s cause)
