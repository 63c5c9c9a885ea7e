-- Passes one after the other, by what each of them did.
use Rattle.std.proofs.Common.{◌≡◌, ◌≤◌, ◌+◌, ◌-◌, ◌^◌, ◌++◌, ◌∙◌, ℕ, Bool, false, true, List, [], ◌∷◌, Some, None, Result, Ok, Err, Fits, w64, refl, sym, ap, subst, arith, append_assoc}
use Rattle.std.specs.Prelude.{IsTrue, IsErrAnd, IsErrOf}
use Rattle.gq_row.specs.declared.value.Value.{Value}
use Rattle.gq_spill.specs.Reading.{Reading, Left, opened}
use Rattle.gq_spill.specs.Runs.{Runs, Discards}
use Rattle.gq_spill.specs.Writing.{Writing}
use Rattle.gq_spill.specs.declared.run_mark.RunMark.{RunMark}
use Rattle.gq_group.specs.Access.{RunSet, Apart, either, KeepsOwn, GroupCause}
use Rattle.gq_group.specs.Groups.{Spec, Group, out_of_range}
use Rattle.gq_group.specs.PassResults.{PassRan, RunRead, PassesRan}
use Rattle.gq_group.specs.Passes.{AreRows, Numbers}
use Rattle.gq_group.specs.RunSources.{only, IsReady, same_number, equal_number}
use Rattle.gq_group.specs.Partitions.{among, Filled, Gone}
use Rattle.gq_group.specs.Stacks.{OnStack, Waits}
use Rattle.gq_group.specs.declared.grouping.Spent.{Spent}
use Rattle.gq_group.specs.declared.pass.PassStats.{PassStats}
use Rattle.gq_group.specs.declared.refusal.Refusal.{Refusal}
use Rattle.gq_group.specs.declared.refusal.Refusal.TheVariants.{SumRange, Memory}
use Rattle.gq_group.specs.declared.partition.Partition.{Partition}
use Rattle.gq_group.proofs.AccessLemmas.{or_left}
use Rattle.gq_group.proofs.GoneLemmas.{gone-one, gone-keeps, ours-gone}
use Rattle.gq_group.proofs.MapGroups.{on_ok, if_ok}
use Rattle.gq_group.proofs.OpenLemmas.{left-open, parted-later}
use Rattle.gq_group.proofs.ReadLemmas.{group_cause-later}
use Rattle.gq_group.proofs.Results.{if_err, if_err_at, if_ok_at, if_ok_on, on_ok_at}
use Rattle.gq_group.proofs.PartitionLemmas.{held-stays, none_there, not_both}
use Rattle.gq_group.proofs.StackLemmas.{Counts, Shrinks, Turned, counts-first, counts-read, counts-skip, counts-room, filled-read, filled-skip, gone-cause, made-more, shrinks, stack-first, stack-same, stack-skip, top-waits, turned, waits-first, waits-range, waits-read, waits-same, waits-skip}

-- a run was read as a source, and discarded
pub run-read : (spec : Spec) (budget columns : ℕ) (w : Writing) (held mid holds : List Group → Type 0) (k k' : RunSet) (middle ready : Type 0) (makes : Bool) (r s t : Runs) (partitions : List Partition) (q : Result PassStats Refusal) (mark : RunMark) (x y : Reading)
    → mark ≡ w.mark → x ≡ opened mark columns
    → PassRan spec budget (x.records - x.given) (λ rows. Left x r rows) held mid (only x.tail.id.number) (only y.tail.id.number) k k' (IsReady y s) middle false makes r s partitions q
    → Discards mark.id.number s t → (KeepsOwn k' s t → middle → ready) → (KeepsOwn k' s t → middle → IsTrue s.honest → (groups : List Group) → mid groups → holds groups)
    → RunRead spec budget columns w held holds k k' ready makes r t partitions q
run-read spec budget columns w held mid holds k k' middle ready makes r s t partitions q mark x y is_mark is_opened read discards stays keeps = record {
  parted = λ h. if_ok_on _ _ _ q told.sink
      (λ done ready parted rows run fit.
      parted-later spec budget rows partitions s t done _ _
      (λ out had before b. keeps sink_kept ready (told.others.same_honest ∙ h) (before ++ out) (had before b))
      (λ parts i. held-stays s t partitions parts partitions_kept told.ours i)
      (parted rows (left-open spec w columns r rows h run fit)))
      (told.parted h);
  overflow = λ e h rows run fit. told.overflow e h rows (left-open spec w columns r rows h run fit);
  numbers = if_ok _ _ q (λ done n. record { read = omega (arith, n.read); fewer = n.fewer; waits = n.waits; few = n.few; runs = n.runs; filled = n.filled }) told.numbers;
  places = told.places;
  sink = on_ok _ _ q (λ ready. stays sink_kept ready) told.sink;
  ours = ours-gone partitions (only w.mark.id.number) s t gone (λ run i. ap (among partitions) (equal_number run w.mark.id.number i) ∙ partitions_out) told.ours;
  apart = told.apart;
  still_apart = still;
  sink_grows = told.sink_grows;
  others = (s, told.others, gone);
  made = λ no. if_ok _ _ q (λ done made. gone.same_made ∙ made) (told.made refl no);
  cause = if_err _ _ q (λ e why. gone-cause e (only w.mark.id.number) r s t gone why) told.cause;
}
  where
    read_from : x ≡ opened w.mark columns
    read_from = is_opened ∙ ap (λ (m : RunMark). opened m columns) is_mark

    first : PassRan spec budget (w.mark.records - 0) (λ rows. Left (opened w.mark columns) r rows) held mid (only w.mark.id.number) (only y.tail.id.number) k k' (IsReady y s) middle false makes r s partitions q
    first = subst (λ (z : Reading). PassRan spec budget (z.records - z.given) (λ rows. Left z r rows) held mid (only z.tail.id.number) (only y.tail.id.number) k k' (IsReady y s) middle false makes r s partitions q) read_from read

    same : y.tail.id.number ≡ w.mark.id.number
    same = equal_number y.tail.id.number w.mark.id.number (first.owned refl y.tail.id.number (same_number y.tail.id.number))

    told : PassRan spec budget (w.mark.records - 0) (λ rows. Left (opened w.mark columns) r rows) held mid (only w.mark.id.number) (only w.mark.id.number) k k' (IsReady y s) middle false makes r s partitions q
    told = subst (λ n. PassRan spec budget (w.mark.records - 0) (λ rows. Left (opened w.mark columns) r rows) held mid (only w.mark.id.number) (only n) k k' (IsReady y s) middle false makes r s partitions q) same first

    gone : Gone (only w.mark.id.number) s t
    gone = subst (λ n. Gone (only n) s t) (ap (λ (m : RunMark). m.id.number) is_mark) (gone-one mark.id.number s t discards)

    still : k' w.mark.id.number ≡ false
    still = told.still_apart w.mark.id.number (same_number w.mark.id.number)

    sink_kept : KeepsOwn k' s t
    sink_kept = gone-keeps k' w.mark.id.number s t gone still

    partitions_out : among partitions w.mark.id.number ≡ false
    partitions_out = none_there (among partitions w.mark.id.number) (λ i. not_both (only w.mark.id.number w.mark.id.number) (same_number w.mark.id.number) (or_left (only w.mark.id.number w.mark.id.number) (k' w.mark.id.number) (told.apart w.mark.id.number i)))

    partitions_kept : KeepsOwn (among partitions) s t
    partitions_kept = gone-keeps (among partitions) w.mark.id.number s t gone partitions_out

-- what was done so far in reading a source, and runs that were begun
pub record SoFar (spec : Spec) (budget bound columns : ℕ) (gives : List (List Value) → Type 0) (held holds : List Group → Type 0) (a a' k k' : RunSet) (source_ready sink_ready : Type 0) (source_makes sink_makes : Bool) (r s : Runs)
    (stack : List Partition) (spent : Spent) : Type 0 where
  pub source : source_ready
  pub sink : sink_ready
  pub both : Apart a' k'
  pub grows_source : (run : ℕ) → IsTrue (a run) → IsTrue (a' run)
  pub grows_sink : (run : ℕ) → IsTrue (k run) → IsTrue (k' run)
  pub on : OnStack (either a k) (either a' k') stack r s
  pub filled : Filled stack
  pub counts : Counts stack spent.rows_written spent.groups spent.runs
  pub read : spent.rows_read ≤ bound
  pub waits : IsTrue r.honest → (rows : List (List Value)) → gives rows → AreRows spec rows → Waits spec budget rows columns stack s spent (λ out. (before : List Group) → held before → holds (before ++ out))
  pub made : source_makes ≡ false → sink_makes ≡ false → s.made ≡ r.made + spent.runs

at_err : (P : Result Spent Refusal → Type 0) (q : Result Spent Refusal) (e : Refusal) → IsErrAnd q (λ y. y ≡ e) → P (Err e) → P q
at_err P (Ok x) e is h = absurd is
at_err P (Err y) e is h = subst (λ x. P (Err x)) (sym is) h

range_inside : (x : Refusal) → IsErrOf {T = Spent} (Err x) SumRange → x ≡ SumRange
range_inside x h = cc

module _ (spec : Spec) (budget bound : ℕ) (gives : List (List Value) → Type 0) (held : List Group → Type 0) (a a' k : RunSet) (source_makes sink_makes : Bool) (r : Runs) where
  refused : (holds : List Group → Type 0) (k' : RunSet) (source_ready sink_ready : Type 0) (s : Runs) (stack : List Partition) (q : Result Spent Refusal) (e : Refusal) → IsErrAnd q (λ y. y ≡ e) → Apart a' k' → ((run : ℕ) → IsTrue (a run) → IsTrue (a' run)) → ((run : ℕ) → IsTrue (k run) → IsTrue (k' run))
      → OnStack (either a k) (either a' k') stack r s → (e ≡ SumRange → IsTrue r.honest → (rows : List (List Value)) → gives rows → AreRows spec rows → out_of_range spec rows ≡ true) → GroupCause e r s
      → PassesRan spec budget bound gives held holds a a' k k' source_ready sink_ready source_makes sink_makes r s stack q
  refused holds k' source_ready sink_ready s stack q e is apart grows more on overflow cause = at_err (λ x. PassesRan spec budget bound gives held holds a a' k k' source_ready sink_ready source_makes sink_makes r s stack x) q e is (record {
    waits = λ h. tt;
    overflow = λ of. overflow (range_inside e of);
    read = tt;
    apart = apart;
    grows_source = grows;
    grows_sink = more;
    source = tt;
    sink = tt;
    stack = on;
    made = λ none no. tt;
    cause = cause;
  })

  module _ (holds : List Group → Type 0) (k' : RunSet) (source_ready sink_ready : Type 0) (s : Runs) where
    -- the first pass
    pub passes-first : (partitions : List Partition) (q : Result Spent Refusal) (e : Refusal) → IsErrAnd q (λ y. y ≡ e) → PassRan spec budget bound gives held holds a a' k k' source_ready sink_ready source_makes sink_makes r s partitions (Err e)
        → PassesRan spec budget bound gives held holds a a' k k' source_ready sink_ready source_makes sink_makes r s partitions q
    passes-first partitions q e is n = refused holds k' source_ready sink_ready s partitions q e is n.still_apart n.grows n.sink_grows (stack-first a k a' k' partitions r s n.others n.ours n.apart n.grows n.sink_grows)
        (λ of h rows b are. n.overflow (ap (λ (x : Refusal). Err x) of) h rows b) n.cause

    pub so_far-first : (partitions : List Partition) (first : PassStats) → bound ≤ 2 ^ 31 → 1 ≤ budget → budget ≤ 1048576 → PassRan spec budget bound gives held holds a a' k k' source_ready sink_ready source_makes sink_makes r s partitions (Ok first)
        → SoFar spec budget bound first.columns gives held holds a a' k k' source_ready sink_ready source_makes sink_makes r s partitions (record { rows_read = first.rows_read; rows_written = first.rows_written; groups = first.groups; runs = first.runs })
    so_far-first partitions first few some small n = record {
      source = n.source;
      sink = n.sink;
      both = n.still_apart;
      grows_source = n.grows;
      grows_sink = n.sink_grows;
      on = stack-first a k a' k' partitions r s n.others n.ours n.apart n.grows n.sink_grows;
      filled = n.numbers.filled;
      counts = counts-first budget bound partitions first n.numbers few small;
      read = n.numbers.read;
      waits = λ h rows b are. waits-first spec budget rows partitions s first _ _ some are refl (n.parted h rows b);
      made = n.made;
    }

    module _ (columns : ℕ) (stack : List Partition) (spent : Spent) (inv : SoFar spec budget bound columns gives held holds a a' k k' source_ready sink_ready source_makes sink_makes r s stack spent) where
      -- there is no room for more on the stack
      pub passes-full : (other : List Partition) → other ≡ stack → PassesRan spec budget bound gives held holds a a' k k' source_ready sink_ready source_makes sink_makes r s other (Err Memory)
      passes-full other same = refused holds k' source_ready sink_ready s other (Err Memory) Memory refl inv.both inv.grows_source inv.grows_sink (stack-same (either a k) (either a' k') stack other r s (sym same) inv.on) (λ of. let no : ⊥ = cc in absurd no) tt

      -- the stack is empty
      pub passes-done : (other : List Partition) → stack ≡ [] → other ≡ [] → PassesRan spec budget bound gives held holds a a' k k' source_ready sink_ready source_makes sink_makes r s other (Ok spent)
      passes-done other none empty = record {
        waits = λ h. (columns, λ rows b are. waits-same spec budget rows columns stack [] s spent _ none (inv.waits h rows b are));
        overflow = λ of. let no : ⊥ = cc in absurd no;
        read = inv.read;
        apart = inv.both;
        grows_source = inv.grows_source;
        grows_sink = inv.grows_sink;
        source = inv.source;
        sink = inv.sink;
        stack = stack-same (either a k) (either a' k') stack other r s (none ∙ sym empty) inv.on;
        made = inv.made;
        cause = tt;
      }

      -- an empty partition was on top
      pub so_far-skip : (front : List Partition) (partition : Partition) → stack ≡ front ++ partition ∷ [] → partition.writer ≡ None → SoFar spec budget bound columns gives held holds a a' k k' source_ready sink_ready source_makes sink_makes r s front spent
      so_far-skip front partition popped none = record {
        source = inv.source;
        sink = inv.sink;
        both = inv.both;
        grows_source = inv.grows_source;
        grows_sink = inv.grows_sink;
        on = stack-skip (either a k) (either a' k') stack front partition r s popped none inv.on;
        filled = filled-skip stack front partition popped inv.filled;
        counts = counts-skip stack front partition spent.rows_written spent.groups spent.runs popped none inv.counts;
        read = inv.read;
        waits = λ h rows b are. waits-skip spec budget rows columns stack front partition s spent _ popped none (inv.waits h rows b are);
        made = inv.made;
      }

      -- a run was on top, and was read
      module _ (front partitions : List Partition) (partition : Partition) (w : Writing) (popped : stack ≡ front ++ partition ∷ []) (is : partition.writer ≡ Some w) (mine : List Group → Type 0) (l : RunSet) (ready : Type 0) (t : Runs) (q : Result PassStats Refusal)
          (told : RunRead spec budget columns w holds mine k' l ready sink_makes s t partitions q) where
        numbers : (done : PassStats) → q ≡ Ok done → Numbers budget w.mark.records partitions done
        numbers done was = if_ok_at (λ (d : PassStats). Numbers budget w.mark.records partitions d) q done was told.numbers

        -- its numbers have room
        pub record Room (done : PassStats) : Type 0 where
          pub for_rows : Fits w64 (spent.rows_written + done.rows_written)
          pub for_groups : Fits w64 (spent.groups + done.groups)
          pub for_runs : Fits w64 (spent.runs + done.runs)

        pub room : (done : PassStats) → budget ≤ 1048576 → q ≡ Ok done → Room done
        room done small was =
            let all = counts-room budget w.mark.records stack partitions spent.rows_written spent.groups spent.runs done small (top-waits stack front partition w popped is) (numbers done was) inv.counts in
            record { for_rows = omega (arith, all.0); for_groups = omega (arith, all.1); for_runs = omega (arith, all.2) }

        module _ (later : List Partition) (joined : later ≡ front ++ partitions) where
          pub shrunk : (done : PassStats) → q ≡ Ok done → Shrinks stack later done
          shrunk done was = shrinks budget stack front partitions later partition w done popped joined is inv.filled told.places (numbers done was)

          module _ (live : (run : ℕ) → IsTrue (a' run) → IsTrue (s.live run)) where
            turn : Turned (either a k) a' l front later r s t
            turn = turned (either a k) a' k' l stack front partitions later partition w r s told.others.0 t popped joined is inv.on told.others.1 told.others.2 inv.both live told.ours told.apart told.still_apart told.sink_grows

            more : (run : ℕ) → IsTrue (k run) → IsTrue (l run)
            more run h = told.sink_grows run (inv.grows_sink run h)

            pub so_far-read : (after : Type 0) (done : PassStats) → 1 ≤ budget → budget ≤ 1048576 → q ≡ Ok done → (KeepsOwn a' s t → after)
                → SoFar spec budget bound columns gives held mine a a' k l after ready source_makes sink_makes r t later
                (record { rows_read = spent.rows_read; rows_written = spent.rows_written + done.rows_written; groups = spent.groups + done.groups; runs = spent.runs + done.runs })
            so_far-read after done some small was stays = record {
              source = stays turn.kept;
              sink = on_ok_at ready q done was told.sink;
              both = turn.both;
              grows_source = inv.grows_source;
              grows_sink = more;
              on = turn.on;
              filled = filled-read stack front partitions later partition popped joined inv.filled (numbers done was).filled;
              counts = counts-read budget w.mark.records stack later partitions spent.rows_written spent.groups spent.runs done small (shrunk done was) (numbers done was) inv.counts;
              read = inv.read;
              waits = λ h rows b are.
                  waits-read spec budget rows columns stack front partitions later partition w s t spent _ done _ (λ out. (before : List Group) → holds before → mine (before ++ out)) _ some popped joined is
                  (inv.waits h rows b are)
                  (if_ok_at _ q done was (told.parted (inv.on.others.same_honest ∙ h)))
                  turn.held
                  (λ out add had more first held. subst mine (append_assoc first out add) (more (first ++ out) (had first held)))
                  refl;
              made = λ none no. made-more _ _ _ _ _ (inv.made none no) (if_ok_at _ q done was (told.made no));
            }

            pub passes-stopped : (after : Type 0) (p : Result Spent Refusal) (e : Refusal) → IsErrAnd p (λ y. y ≡ e) → q ≡ Err e
                → PassesRan spec budget bound gives held mine a a' k l after ready source_makes sink_makes r t later p
            passes-stopped after p e at was = refused mine l after ready t later p e at turn.both inv.grows_source more turn.on
                (λ of h rows b are. waits-range spec budget rows columns stack front partition w s spent _ popped is (inv.waits h rows b are) (told.overflow (was ∙ ap (λ (x : Refusal). Err x) of) (inv.on.others.same_honest ∙ h)))
                (group_cause-later e (either a k) (either (either a' k') (among stack)) r s t inv.on.others (if_err_at _ q e was told.cause))
