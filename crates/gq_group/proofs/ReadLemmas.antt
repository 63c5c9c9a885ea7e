-- Rows are read and placed, one after the other.
use Rattle.std.proofs.Common.{◌≡◌, ◌<◌, ◌≤◌, ◌+◌, ◌++◌, ◌==◌, ℕ, zero, suc, Bool, true, false, List, [], ◌∷◌, length, refl, sym, ap, subst, ◌∙◌, arith, ◌||◌, inl, inr, append_assoc, length-append, cond}
use Rattle.std.specs.Prelude.{IsTrue, if◌then◌else◌, nat_lt}
use Rattle.std.specs.List.{sum_by}
use Rattle.std.proofs.lemmas.List.Sums.{sum_by-cons}
use Rattle.std.proofs.lemmas.Bool.Decides.{nat_tests}
use Rattle.std.proofs.lemmas.Grind.{common_steps}
use Rattle.gq_row.specs.declared.value.Value.{Value}
use Rattle.gq_spill.specs.Runs.{Runs}
use Rattle.gq_group.specs.Access.{RunSet, either, Apart, LeavesOthers, KeepsOwn, HasCause, GroupCause}
use Rattle.gq_group.specs.Entries.{Pair}
use Rattle.gq_group.specs.Groups.{Spec, all_fit}
use Rattle.gq_group.specs.Partitioning.{one_if_some, lots, fan_out}
use Rattle.gq_group.specs.Passes.{AreRows, Places, Reads, IsWide, left_lots}
use Rattle.gq_group.specs.Residents.{Resident}
use Rattle.gq_group.specs.Partitions.{is_run, among, Separate, Ours, AllHeld, PartitionHolds, AreEmpty}
use Rattle.gq_group.specs.declared.partition.Partition.{Partition}
use Rattle.gq_group.specs.declared.refusal.Refusal.{Refusal}
use Rattle.gq_group.specs.declared.refusal.Refusal.TheVariants.{SumRange, Memory, StoreFault, Damaged}
use Rattle.gq_group.proofs.AccessLemmas.{or_in, or_from, or_left, keeps-apart, leaves-refl, leaves-trans, leaves-both}
use Rattle.gq_group.proofs.PartitionLemmas.{not_both, none_there, both_none, held-stays}

-- what is apart from a step's runs, and was there, is apart from those that it has afterwards
pub apart-step : (r s : Runs) (a b k : RunSet) → LeavesOthers a b r s → Apart k a → ((run : ℕ) → IsTrue (k run) → IsTrue (r.live run)) → Apart k b
apart-step r s a b k step apart live run h = none_there (b run) (λ new. step.fresh run (apart run h) new (live run h))

pub apart-flip : (a b : RunSet) → Apart a b → Apart b a
apart-flip a b apart run h = none_there (a run) (λ i. not_both (b run) h (apart run i))

pub ours-stays : (r s : Runs) (a b : RunSet) (partitions : List Partition) → LeavesOthers a b r s → Ours partitions r → Ours partitions s
ours-stays r s a b partitions step ours = record { live = λ run h. step.live run (ours.live run h); separate = ours.separate }

pub leaves-left : (a b k : RunSet) (r s : Runs) → LeavesOthers a b r s → LeavesOthers (either a k) (either b k) r s
leaves-left a b k r s step = leaves-both a b k k r s s step (leaves-refl k s)

pub cause-later : (e : Refusal) (a b : RunSet) (r s t : Runs) → LeavesOthers a b r s → HasCause e s t → HasCause e r t
cause-later Memory a b r s t step h = tt
cause-later StoreFault a b r s t step h = omega (arith, step.no_fewer_failures, h)
cause-later Damaged a b r s t step h = λ honest. h (step.same_honest ∙ honest)
cause-later SumRange a b r s t step h = h

none-empty : (partitions : List Partition) → AreEmpty partitions → (run : ℕ) → among partitions run ≡ false
none-empty [] h run = refl
none-empty (s ∷ partitions) h run = ap (λ o. is_run o run || among partitions run) h.0 ∙ none-empty partitions h.1 run

separate-empty : (partitions : List Partition) → AreEmpty partitions → Separate partitions
separate-empty [] h = tt
separate-empty (s ∷ partitions) h = (λ run i. none-empty partitions h.1 run, separate-empty partitions h.1)

pub ours-empty : (partitions : List Partition) (r : Runs) → AreEmpty partitions → Ours partitions r
ours-empty partitions r h = record { live = λ run i. absurd (not_both (among partitions run) i (none-empty partitions h run)); separate = separate-empty partitions h }

pub apart-empty : (partitions : List Partition) (k : RunSet) → AreEmpty partitions → Apart (among partitions) k
apart-empty partitions k h run i = absurd (not_both (among partitions run) i (none-empty partitions h run))

pub others-empty : (partitions : List Partition) (a : RunSet) (r : Runs) → AreEmpty partitions → LeavesOthers a (either a (among partitions)) r r
others-empty partitions a r h =
    let same = leaves-refl a r in
    record {
      others = λ run e. same.others run (or_left (a run) (among partitions run) e);
      grows = λ run i. or_from (a run) (among partitions run) (inl i);
      fresh = λ run e i l. elim (or_in (a run) (among partitions run) i) [ inl x ↦ not_both (a run) x e | inr x ↦ not_both (among partitions run) x (none-empty partitions h run) ];
      live = same.live;
      same_honest = same.same_honest;
      no_fewer_failures = same.no_fewer_failures;
      no_fewer_made = same.no_fewer_made;
    }

held-empty : (r : Runs) (part_of : List Value → ℕ) (by : List ℕ) (q n : ℕ) (partitions : List Partition) → length partitions ≡ n → AreEmpty partitions → AllHeld r partitions (lots part_of by q n [])
held-empty r part_of by q zero [] same h = tt
held-empty r part_of by q (suc n) [] same h = absurd (omega arith)
held-empty r part_of by q zero (s ∷ partitions) same h = absurd (omega arith)
held-empty r part_of by q (suc n) (s ∷ partitions) same h = (subst (λ o. PartitionHolds r o []) (sym h.0) refl, held-empty r part_of by (suc q) n partitions (omega arith) h.1)

lots-none : (part_of : List Value → ℕ) (by : List ℕ) (q n : ℕ) → sum_by one_if_some (lots part_of by q n []) ≡ 0
lots-none part_of by q zero = refl
lots-none part_of by q (suc n) = omega (arith, sum_by-cons one_if_some [] (lots part_of by (suc q) n []), lots-none part_of by (suc q) n)

not_none : (n : ℕ) → 0 < n → (n == 0) ≡ false
not_none n h = grind (arith, nat_tests)

wide-step : (done : List (List Value)) (row : List Value) (count columns : ℕ) → length done ≡ count → IsWide columns done → IsWide (cond (count == 0) (length row) columns) (done ++ row ∷ [])
wide-step [] row count columns counted wide = subst (λ n. length row ≡ cond (n == 0) (length row) columns) counted refl
wide-step (d ∷ done) row count columns counted wide = wide ∙ ap (λ b. cond b (length row) columns) (sym (not_none count (omega (arith, counted))))

-- nothing was read so far
pub reads-none : (spec : Spec) (budget : ℕ) (part_of : List Value → ℕ) (n : ℕ) (honest : Bool) (before now : List (List Value) → Type 0) (r : Runs) (m : List Pair) (partitions : List Partition)
    → ((rows : List (List Value)) → before rows → now rows) → Resident spec budget [] m → length partitions ≡ n → AreEmpty partitions → Reads spec budget part_of n honest before now r 0 0 0 0 m partitions
reads-none spec budget part_of n honest before now r m partitions told start same empty = record {
  done = [];
  counted = refl;
  rest = λ h rows b. (rows, refl, told rows b);
  resident = start;
  held = held-empty r part_of spec.by 0 n partitions same empty;
  wrote = refl;
  began_runs = lots-none part_of spec.by 0 n;
  wide = tt;
}

-- one row more was read and placed
pub reads-step : (spec : Spec) (budget as_many : ℕ) (part_of by_part : List Value → ℕ) (n : ℕ) (honest : Bool) (before now after : List (List Value) → Type 0) (r s t : Runs) (count written began columns w b : ℕ)
    (m m' : List Pair) (partitions partitions' : List Partition) (row : List Value) (wrote runs : ℕ) → wrote ≡ written + w → runs ≡ began + b
    → Reads spec budget part_of n honest before now r count written began columns m partitions
    → (IsTrue honest → (rows : List (List Value)) → now rows → (rest : List (List Value)) × (rows ≡ row ∷ rest) × after rest)
    → ((parts : List (List (List Value))) → AllHeld r partitions parts → AllHeld s partitions parts)
    → as_many ≡ budget → by_part ≡ part_of → Places spec as_many by_part n row s t m m' partitions partitions' w b
    → (wide : ℕ) → wide ≡ cond (count == 0) (length row) columns
    → Reads spec budget part_of n honest before after t (count + 1) wrote runs wide m' partitions'
reads-step spec budget as_many part_of by_part n honest before now after r s t count written began columns w b m m' partitions partitions' row wrote runs is_wrote is_runs read next stays same alike placed wide is_wide =
    let held : AllHeld s partitions (left_lots spec part_of n read.done m) = stays (left_lots spec part_of n read.done m) read.held in
    record {
      done = read.done ++ row ∷ [];
      counted = omega (arith, length-append read.done (row ∷ []), read.counted);
      rest = λ h rows bef.
          let left = read.rest h rows bef in
          let more = next h left.0 left.2 in
          (more.0, left.1 ∙ ap (λ l. read.done ++ l) more.1 ∙ sym (append_assoc read.done (row ∷ []) more.0), more.2);
      resident = place.resident read.done read.resident;
      held = place.held read.done read.resident held;
      wrote = omega (arith, place.left read.done read.resident, read.wrote, is_wrote);
      began_runs = omega (arith, place.runs read.done read.resident held, read.began_runs, is_runs);
      wide = subst (λ n. IsWide n (read.done ++ row ∷ [])) (sym is_wide) (wide-step read.done row count columns read.counted read.wide);
    }
  where
    place : Places spec budget part_of n row s t m m' partitions partitions' w b
    place = subst (λ x. Places spec x part_of n row s t m m' partitions partitions' w b) same (subst (λ f. Places spec as_many f n row s t m m' partitions partitions' w b) alike placed)

-- the rows that are still to come can be grouped
pub known-left : (spec : Spec) (budget : ℕ) (part_of : List Value → ℕ) (n : ℕ) (honest : Bool) (before now : List (List Value) → Type 0) (r : Runs) (count written began columns : ℕ) (m : List Pair) (partitions : List Partition)
    → Reads spec budget part_of n honest before now r count written began columns m partitions → IsTrue honest → (rows : List (List Value)) × before rows × AreRows spec rows → (left : List (List Value)) × now left × IsTrue (all_fit spec left)
known-left spec budget part_of n honest before now r count written began columns m partitions read h known =
    let left = read.rest h known.0 known.1 in
    (left.0, left.2, later read.done left.0 (subst (λ l. IsTrue (all_fit spec l)) left.1 known.2.0))
  where
    later : (done rest : List (List Value)) → IsTrue (all_fit spec (done ++ rest)) → IsTrue (all_fit spec rest)
    later done rest fit = grind (arith, common_steps)

-- what the source has, what is in partitions, and what is held there, after a row was read and placed
pub record Placing (a b : RunSet) (partitions partitions' : List Partition) (r0 r s t : Runs) : Type 0 where
  pub kept : KeepsOwn b s t
  pub held : (parts : List (List (List Value))) → AllHeld r partitions parts → AllHeld s partitions parts
  pub apart : Apart (among partitions') b
  pub others : LeavesOthers a (either b (among partitions')) r0 t

pub placing : (before a b : RunSet) (partitions partitions' : List Partition) (r0 r s t : Runs) → LeavesOthers a b r s → LeavesOthers (among partitions) (among partitions') s t → Ours partitions r → Apart (among partitions) a → LeavesOthers before (either a (among partitions)) r0 r
    → ((run : ℕ) → IsTrue (b run) → IsTrue (s.live run)) → Placing before b partitions partitions' r0 r s t
placing before a b partitions partitions' r0 r s t step put ours apart others live =
    let away : Apart b (among partitions) = apart-flip (among partitions) b (apart-step r s a b (among partitions) step apart ours.live) in
    let kept : KeepsOwn (among partitions) r s = keeps-apart a b (among partitions) r s step (apart-flip (among partitions) a apart) ours.live in
    record {
      kept = keeps-apart (among partitions) (among partitions') b s t put (apart-flip b (among partitions) away) live;
      held = λ parts held. held-stays r s partitions parts kept ours held;
      apart = apart-flip b (among partitions') (apart-step s t (among partitions) (among partitions') b put away live);
      others = leaves-trans _ _ _ _ _ _ others (leaves-both a b (among partitions) (among partitions') r s t step put);
    }

-- a refusal to place a row that was read has a cause since the first row
pub placing-cause : (e : Refusal) (before a b : RunSet) (spec : Spec) (budget : ℕ) (part_of : List Value → ℕ) (n : ℕ) (honest : Bool) (from now : List (List Value) → Type 0) (r0 r s t : Runs) (count written began columns : ℕ) (m : List Pair) (partitions : List Partition)
    → Reads spec budget part_of n honest from now r count written began columns m partitions
    → LeavesOthers a b r s → Ours partitions r → Apart (among partitions) a → LeavesOthers before (either a (among partitions)) r0 r
    → ((parts : List (List (List Value))) → AllHeld s partitions parts → HasCause e s t) → HasCause e r0 t
placing-cause e before a b spec budget part_of n honest from now r0 r s t count written began columns m partitions read step ours apart others told =
    let kept : KeepsOwn (among partitions) r s = keeps-apart a b (among partitions) r s step (apart-flip (among partitions) a apart) ours.live in
    let parts = left_lots spec part_of n read.done m in
    cause-later e before (either b (among partitions)) r0 s t (leaves-trans _ _ _ _ _ _ others (leaves-left a b (among partitions) r s step)) (told parts (held-stays r s partitions parts kept ours read.held))

-- all were read
pub reads-end : (spec : Spec) (budget : ℕ) (part_of : List Value → ℕ) (n : ℕ) (honest : Bool) (before now : List (List Value) → Type 0) (r s : Runs) (count written began columns : ℕ) (m : List Pair) (partitions : List Partition)
    → Reads spec budget part_of n honest before now r count written began columns m partitions
    → (IsTrue honest → (rows : List (List Value)) → now rows → rows ≡ [])
    → ((parts : List (List (List Value))) → AllHeld r partitions parts → AllHeld s partitions parts)
    → Reads spec budget part_of n honest before (λ left. left ≡ []) s count written began columns m partitions
reads-end spec budget part_of n honest before now r s count written began columns m partitions read over stays = record {
  done = read.done;
  counted = read.counted;
  rest = λ h rows bef. let left = read.rest h rows bef in (left.0, left.1, over h left.0 left.2);
  resident = read.resident;
  held = stays (left_lots spec part_of n read.done m) read.held;
  wrote = read.wrote;
  began_runs = read.began_runs;
  wide = read.wide;
}

pub leaves-empty : (partitions : List Partition) (a k : RunSet) (r : Runs) → AreEmpty partitions → LeavesOthers (either a k) (either (either a (among partitions)) k) r r
leaves-empty partitions a k r h = leaves-left a (either a (among partitions)) k r r (others-empty partitions a r h)

pub apart-either : (k a b : RunSet) → Apart k a → Apart k b → Apart k (either a b)
apart-either k a b h i run own = both_none (a run) (b run) (h run own) (i run own)

pub group_cause-later : (e : Refusal) (a b : RunSet) (r s t : Runs) → LeavesOthers a b r s → GroupCause e s t → GroupCause e r t
group_cause-later Memory a b r s t step h = tt
group_cause-later StoreFault a b r s t step h = omega (arith, step.no_fewer_failures, h)
group_cause-later Damaged a b r s t step h = λ honest. h (step.same_honest ∙ honest)
group_cause-later SumRange a b r s t step h = tt

pub group_cause-of : (e : Refusal) (r s : Runs) → HasCause e r s → GroupCause e r s
group_cause-of Memory r s h = tt
group_cause-of StoreFault r s h = h
group_cause-of Damaged r s h = h
group_cause-of SumRange r s h = tt

-- no depth has more partitions than sixteen
pub places-few : (depth n : ℕ) → n ≡ fan_out depth → n ≤ 16
places-few depth n is = at (nat_lt depth 4) is
  where
    at : (b : Bool) → n ≡ (if b then 16 else 1) → n ≤ 16
    at true e = omega (arith, e)
    at false e = omega (arith, e)

pub places-within : (depth n count : ℕ) → count ≡ fan_out depth → n ≤ count → n ≤ 16
places-within depth n count is few = omega (arith, few, places-few depth count is)
