-- What one pass over rows has done.
use Rattle.std.proofs.Common.{◌≡◌, ◌≤◌, ◌<◌, ◌+◌, ◌-◌, ◌*◌, ◌/◌, ◌%◌, ◌^◌, ◌++◌, ◌==◌, ℕ, zero, suc, Bool, true, false, cond, ◌||◌, List, [], ◌∷◌, length, map, refl, sym, ap, subst, ◌∙◌, arith, Option, Some, None, take}
use Rattle.std.specs.Prelude.{IsTrue, IsPermutation, All, filter, not, nat_lt, is_some}
use Rattle.std.specs.FinMap.{len}
use Rattle.std.specs.List.{sum_by, flat_map, list_all, list_any, AllByRecursion}
use Rattle.std.proofs.lemmas.Bool.{and_parts}
use Rattle.std.proofs.lemmas.List.{append-nil, length-map}
use Rattle.std.proofs.lemmas.List.Filters.{length-filter_both}
use Rattle.std.proofs.lemmas.List.Folds.{list_all-append, list_any-append}
use Rattle.std.proofs.lemmas.List.Sums.{sum_by-cons}
use Rattle.std.proofs.lemmas.List.Elements.{All-from_recursion, recursion_from_All, All-nil, All-cons}
use Rattle.std.proofs.lemmas.List.Sorted.{IsPermutation-refl, IsPermutation-append, IsPermutation-trans, length_permutation, list_any-IsPermutation}
use Rattle.gq_row.specs.declared.value.Value.{Value}
use Rattle.gq_row.specs.Classes.{class_of}
use Rattle.gq_row.specs.Rows.{key_of}
use Rattle.gq_row.specs.Order.{same_key}
use Rattle.gq_row.specs.Tables.{keys, of_key}
use Rattle.gq_spill.specs.Runs.{Runs}
use Rattle.gq_spill.specs.Writing.{Writing}
use Rattle.gq_agg.specs.declared.kind.AggKind.{AggKind}
use Rattle.gq_group.specs.Entries.{listed, Pair, tallies, group_at}
use Rattle.gq_group.specs.Groups.{Spec, Group, groups, group_of, keys_of, answered, counts_all, fits_cell, fits_spec, has_columns, all_fit, is_none, out_of_range, Pushes}
use Rattle.gq_group.specs.KeptAggs.{others, alone, kept_spec}
use Rattle.gq_group.specs.Partitioning.{row_groups, lots, fan_out, partition_of, partition_by}
use Rattle.gq_group.specs.Passes.{AreRows, Fit, IsWide, Parted, Numbers, Reads, left_lots}
use Rattle.gq_group.specs.Residents.{Resident, has_entry, taken, left_over}
use Rattle.gq_group.specs.Partitions.{AllHeld, PartitionHolds, Filled, IsFilled, waiting, records_in}
use Rattle.gq_group.specs.declared.partition.Partition.{Partition}
use Rattle.gq_group.specs.declared.pass.PassStats.{PassStats}
use Rattle.gq_group.proofs.Costs.{groups_le_rows}
use Rattle.gq_group.proofs.Lots.{lots-length}
use Rattle.gq_group.proofs.Parts.{groups_parted, lots-groups, AllFrom}

all_from-zero : (part_of : List Value → ℕ) (by : List ℕ) (rows : List (List Value)) → AllFrom part_of by 0 rows
all_from-zero part_of by [] = tt
all_from-zero part_of by (row ∷ rows) = (omega arith, all_from-zero part_of by rows)

-- ---- rows that can be grouped

kept-all : {X : Type 0} (P : X → Type 0) (p : X → Bool) (xs : List X) → AllByRecursion P xs → AllByRecursion P (filter p xs)
kept-all P p [] h = tt
kept-all P p (x ∷ xs) h = at (p x) (kept-all P p xs h.1)
  where
    at : (b : Bool) → AllByRecursion P (filter p xs) → AllByRecursion P (cond b (x ∷ filter p xs) (filter p xs))
    at true rest = (h.0, rest)
    at false rest = rest

fits-filter : {X : Type 0} (q p : X → Bool) (xs : List X) → list_all q xs ≡ true → list_all q (filter p xs) ≡ true
fits-filter q p [] h = refl
fits-filter q p (x ∷ xs) h = let both = and_parts (q x) (list_all q xs) h in at (p x) both.0 (fits-filter q p xs both.1)
  where
    at : (b : Bool) → q x ≡ true → list_all q (filter p xs) ≡ true → list_all q (cond b (x ∷ filter p xs) (filter p xs)) ≡ true
    at true here rest = rw (here, rest) refl
    at false here rest = rest

fit-filter : (spec : Spec) (columns : ℕ) (p : List Value → Bool) (rows : List (List Value)) → Fit spec columns rows → Fit spec columns (filter p rows)
fit-filter spec columns p rows fit = record {
  fits = fits-filter (fits_spec spec) p rows fit.fits;
  widths = All-from_recursion (λ row. length row ≡ columns) (filter p rows) (kept-all (λ row. length row ≡ columns) p rows (recursion_from_All (λ row. length row ≡ columns) rows fit.widths));
}

fit-lots : (spec : Spec) (columns : ℕ) (part_of : List Value → ℕ) (q n : ℕ) (rows : List (List Value)) → Fit spec columns rows → AllByRecursion (Fit spec columns) (lots part_of spec.by q n rows)
fit-lots spec columns part_of q zero rows fit = tt
fit-lots spec columns part_of q (suc n) rows fit = (fit-filter spec columns (λ row. part_of (key_of spec.by row) == q) rows fit, fit-lots spec columns part_of (suc q) n rows fit)

pub fit-rows : (spec : Spec) (columns : ℕ) (rows : List (List Value)) → AreRows spec rows → IsWide columns rows → Fit spec columns rows
fit-rows spec columns [] h wide = record { fits = h.0; widths = All-nil (λ row. length row ≡ columns) }
fit-rows spec columns (row ∷ rows) h wide = record {
  fits = h.0;
  widths = All-cons (λ other. length other ≡ columns) row rows wide (subst (λ n. All (λ other. length other ≡ n) rows) wide h.1);
}

-- of a row that fits, all fit that are kept
alone_fits : (row : List Value) (asked : List (AggKind × ℕ)) → list_all (fits_cell row) asked ≡ true → list_all (fits_cell row) (alone asked) ≡ true
alone_fits row asked h = at (length (others asked) == 0) asked h
  where
    at : (b : Bool) (xs : List (AggKind × ℕ)) → list_all (fits_cell row) xs ≡ true → list_all (fits_cell row) (cond b (take 1 xs) []) ≡ true
    at false xs h = refl
    at true [] h = refl
    at true (x ∷ xs) h = rw ((and_parts (fits_cell row x) (list_all (fits_cell row) xs) h).0) refl

kept_fits : (spec : Spec) (row : List Value) → fits_spec spec row ≡ true → fits_spec (kept_spec spec) row ≡ true
kept_fits spec row h =
    let both = and_parts (has_columns spec.by row) (list_all (fits_cell row) spec.aggs) h in
    rw (both.0, list_all-append (fits_cell row) (others spec.aggs) (alone spec.aggs), fits-filter (fits_cell row) (λ (a : AggKind × ℕ). not (counts_all a.0)) spec.aggs both.1, alone_fits row spec.aggs both.1) refl

all_kept_fit : (spec : Spec) (rows : List (List Value)) → all_fit spec rows ≡ true → all_fit (kept_spec spec) rows ≡ true
all_kept_fit spec [] h = refl
all_kept_fit spec (row ∷ rows) h = let both = and_parts (fits_spec spec row) (all_fit spec rows) h in rw (kept_fits spec row both.0, all_kept_fit spec rows both.1) refl

pub rows_of_kept : (spec : Spec) (rows : List (List Value)) → AreRows spec rows → AreRows (kept_spec spec) rows
rows_of_kept spec rows are = (all_kept_fit spec rows are.0, are.1)

-- ---- what the runs hold, over any store

pub waits-held : (r : Runs) (partitions : List Partition) (parts : List (List (List Value))) → AllHeld r partitions parts → waiting partitions ≡ sum_by length parts
waits-held r [] [] h = refl
waits-held r [] (part ∷ parts) h = absurd h
waits-held r (s ∷ partitions) [] h = absurd h
waits-held r (s ∷ partitions) (part ∷ parts) h = omega (arith, sum_by-cons (λ x. records_in x.writer) s partitions, sum_by-cons length part parts, one s.writer h.0, waits-held r partitions parts h.1)
  where
    one : (held : Option Writing) → PartitionHolds r held part → records_in held ≡ length part
    one None e = sym (ap length e)
    one (Some w) e = e.count

filled-held : (r : Runs) (partitions : List Partition) (parts : List (List (List Value))) → AllHeld r partitions parts → Filled partitions
filled-held r [] parts h = tt
filled-held r (s ∷ partitions) [] h = absurd h
filled-held r (s ∷ partitions) (part ∷ parts) h = (one s.writer h.0, filled-held r partitions parts h.1)
  where
    one : (held : Option Writing) → PartitionHolds r held part → IsFilled held
    one None e = tt
    one (Some w) e = omega (arith, e.some, e.count)

-- ---- the groups of the rows that were taken, and of those that are left

filter_all : {X : Type 0} (p : X → Bool) (xs : List X) → ((x : X) → p x ≡ true) → filter p xs ≡ xs
filter_all p [] h = refl
filter_all p (x ∷ xs) h = (λ i. cond (h x i) (x ∷ filter_all p xs h i) (filter_all p xs h i))

filter_none : {X : Type 0} (p : X → Bool) (xs : List X) → ((x : X) → p x ≡ true) → filter (λ x. not (p x)) xs ≡ []
filter_none p [] h = refl
filter_none p (x ∷ xs) h = (λ i. cond (not (h x i)) (x ∷ filter_none p xs h i) (filter_none p xs h i))

with_columns : (spec : Spec) (column : ℕ) (columns : List ℕ) (rows : List (List Value)) → spec.by ≡ column ∷ columns → keys_of spec.by rows ≡ keys spec.by rows
with_columns spec column columns rows e = subst (λ by. keys_of by rows ≡ keys by rows) (sym e) refl

-- without columns the empty key has a group
group_there : (spec : Spec) (rows : List (List Value)) → spec.by ≡ [] → is_some (group_at spec rows []) ≡ true
group_there spec rows none = ap (λ by. is_some (cond {A = Option Pair} (list_any (same_key []) (keys_of by rows)) (Some ([], tallies spec.aggs (of_key spec.by rows []))) None)) none

-- so each row is taken then
has_all : (spec : Spec) (budget : ℕ) (done : List (List Value)) (m : List Pair) → spec.by ≡ [] → Resident (kept_spec spec) budget done m → (row : List Value) → has_entry m (key_of spec.by row) ≡ true
has_all spec budget done m none resident row =
    ap (λ by. has_entry m (key_of by row)) none ∙ ap is_some (resident.grouped []) ∙ group_there (kept_spec spec) (taken spec m done) none

none_left : (spec : Spec) (budget : ℕ) (done : List (List Value)) (m : List Pair) → spec.by ≡ [] → Resident (kept_spec spec) budget done m → left_over spec m done ≡ []
none_left spec budget done m none resident = filter_none (λ row. has_entry m (key_of spec.by row)) done (has_all spec budget done m none resident)

-- the groups of the rows are those of the rows that were taken, and those of the keys that are left
pub resident-parted : (spec : Spec) (budget : ℕ) (done : List (List Value)) (m : List Pair) → Resident (kept_spec spec) budget done m
    → IsPermutation (groups spec done) (groups spec (taken spec m done) ++ row_groups spec (left_over spec m done))
resident-parted spec budget done m resident = at spec.by refl
  where
    P : List (List Value × List (Option Value)) → Type 0
    P l = IsPermutation (groups spec done) l

    at : (by : List ℕ) → spec.by ≡ by → IsPermutation (groups spec done) (groups spec (taken spec m done) ++ row_groups spec (left_over spec m done))
    at [] e =
        let all : taken spec m done ≡ done = filter_all (λ row. has_entry m (key_of spec.by row)) done (has_all spec budget done m e resident) in
        let whole : groups spec done ≡ groups spec (taken spec m done) ++ row_groups spec (left_over spec m done)
        = sym (append-nil (groups spec done)) ∙ ap (λ l. groups spec l ++ []) (sym all) ∙ ap (λ l. groups spec (taken spec m done) ++ row_groups spec l) (sym (none_left spec budget done m e resident)) in
        subst P whole (IsPermutation-refl (groups spec done))
    at (column ∷ columns) e =
        let Q : List (List Value × List (Option Value)) → Type 0 = λ l. IsPermutation l (groups spec (taken spec m done) ++ row_groups spec (left_over spec m done)) in
        let R : List (List Value × List (Option Value)) → Type 0 = λ l. IsPermutation (row_groups spec done) (l ++ row_groups spec (left_over spec m done)) in
        subst Q (ap (map (group_of spec done)) (sym (with_columns spec column columns done e)))
        (subst R (ap (map (group_of spec (taken spec m done))) (sym (with_columns spec column columns (taken spec m done) e)))
        (groups_parted spec (has_entry m) done))

-- a sum that is out of range among the rows that were taken is so among all
pub range-taken : (spec : Spec) (budget : ℕ) (done : List (List Value)) (m : List Pair) → Resident (kept_spec spec) budget done m → out_of_range spec (taken spec m done) ≡ true → out_of_range spec done ≡ true
range-taken spec budget done m resident far =
    list_any-IsPermutation (λ g. list_any is_none g.1) (groups spec done) _ (resident-parted spec budget done m resident)
    ∙ list_any-append (λ g. list_any is_none g.1) (groups spec (taken spec m done)) (row_groups spec (left_over spec m done))
    ∙ ap (λ b. b || list_any (λ g. list_any is_none g.1) (row_groups spec (left_over spec m done))) far

-- where a row is left, another was taken
left-fewer : (spec : Spec) (budget : ℕ) (done : List (List Value)) (m : List Pair) → 1 ≤ budget → Resident (kept_spec spec) budget done m
    → len (listed m) ≡ length (keys_of spec.by (taken spec m done)) → 0 < length (left_over spec m done) → length (left_over spec m done) < length done
left-fewer spec budget done m some resident counted more = at spec.by refl
  where
    at : (by : List ℕ) → spec.by ≡ by → length (left_over spec m done) < length done
    at [] e = let none : length (left_over spec m done) ≡ 0 = ap length (none_left spec budget done m e resident) in absurd (omega (arith, more, none))
    at (column ∷ columns) e =
        let both : length (taken spec m done) + length (left_over spec m done) ≡ length done
        = length-filter_both (λ row. has_entry m (key_of spec.by row)) (λ row. not (has_entry m (key_of spec.by row))) (λ row. refl) done in
        let same : length (keys_of spec.by (taken spec m done)) ≡ length (keys spec.by (taken spec m done)) = ap length (with_columns spec column columns (taken spec m done) e) in
        let full : len (listed m) ≡ budget = resident.full more in
        omega (arith, both, same, full, some, counted, groups_le_rows spec (taken spec m done), length-map (keys spec.by (taken spec m done)) (group_of spec (taken spec m done)))

-- ---- a whole pass

pub parted : (spec : Spec) (budget : ℕ) (part_of : List Value → ℕ) (n : ℕ) (honest : Bool) (before : List (List Value) → Type 0) (s t : Runs) (m : List Pair) (partitions : List Partition) (stats : PassStats) (holds : List Group → Type 0) (rows : List (List Value))
    → ((k : List Value) → part_of k < n)
    → (read : Reads (kept_spec spec) budget part_of n honest before (λ left. left ≡ []) s stats.rows_read stats.rows_written stats.runs stats.columns m partitions)
    → IsTrue honest → before rows
    → Pushes spec (taken spec m read.done) holds
    → stats.groups ≡ length (keys_of spec.by (taken spec m read.done))
    → stats.groups ≡ len (listed m)
    → ((parts : List (List (List Value))) → AllHeld s partitions parts → AllHeld t partitions parts)
    → Parted spec budget rows partitions t stats holds
parted spec budget part_of n honest before s t m partitions stats holds rows few read h b pushes count kept stays =
    let got = read.rest h rows b in
    let same : rows ≡ read.done = got.1 ∙ ap (λ l. read.done ++ l) got.2 ∙ append-nil read.done in
    let left : List (List Value) = left_over spec m read.done in
    let parts : List (List (List Value)) = left_lots spec part_of n read.done m in
    let out : List Group = pushes.0 in
    let sizes : sum_by length parts ≡ length left = lots-length part_of spec.by 0 n left (λ k. let f : part_of k < n = few k in omega arith) (all_from-zero part_of spec.by left) in
    let sent : length out ≡ stats.groups
    = omega (arith, length_permutation (groups spec (taken spec m read.done)) (map answered out) pushes.1, length-map out answered, length-map (keys_of spec.by (taken spec m read.done)) (group_of spec (taken spec m read.done)), count) in
    let P : List (List Value × List (Option Value)) → Type 0 = λ l. IsPermutation l (map answered out ++ flat_map (row_groups spec) parts) in
    record {
      out = out;
      parts = parts;
      pushed = pushes.2;
      held = stays parts read.held;
      whole = subst P (ap (groups spec) (sym same))
          (IsPermutation-trans _ _ _ (resident-parted spec budget read.done m read.resident)
          (IsPermutation-append _ _ _ _ pushes.1 (lots-groups spec part_of 0 n left (λ k. let f : part_of k < n = few k in omega arith) (all_from-zero part_of spec.by left))));
      wide = subst (IsWide stats.columns) (sym same) read.wide;
      fit = λ columns f. fit-lots spec columns part_of 0 n left (fit-filter spec columns (λ row. not (has_entry m (key_of spec.by row))) read.done (subst (Fit spec columns) same f));
      read = omega (arith, read.counted, ap length same);
      sent = sym sent;
      few = omega (arith, sent, kept, read.resident.within);
      full = λ more. let f : len (listed m) ≡ budget = read.resident.full (omega (arith, sizes, more)) in omega (arith, sent, f, kept);
      written = omega (arith, read.wrote, sizes);
      fewer = omega (arith, sizes, ap length same, length-filter_both (λ row. has_entry m (key_of spec.by row)) (λ row. not (has_entry m (key_of spec.by row))) (λ row. refl) read.done);
      began = sym read.began_runs;
    }

pub numbers : (spec : Spec) (budget bound : ℕ) (part_of : List Value → ℕ) (n : ℕ) (honest : Bool) (before : List (List Value) → Type 0) (s : Runs) (m : List Pair) (partitions : List Partition) (stats : PassStats)
    → 1 ≤ budget → ((k : List Value) → part_of k < n)
    → (read : Reads (kept_spec spec) budget part_of n honest before (λ left. left ≡ []) s stats.rows_read stats.rows_written stats.runs stats.columns m partitions)
    → stats.groups ≡ length (keys_of spec.by (taken spec m read.done)) → stats.groups ≡ len (listed m) → stats.rows_read ≤ bound → stats.runs ≤ stats.rows_written
    → Numbers budget bound partitions stats
numbers spec budget bound part_of n honest before s m partitions stats some few read count kept within runs =
    let left : List (List Value) = left_over spec m read.done in
    let sizes : sum_by length (left_lots spec part_of n read.done m) ≡ length left = lots-length part_of spec.by 0 n left (λ k. let f : part_of k < n = few k in omega arith) (all_from-zero part_of spec.by left) in
    record {
      read = within;
      fewer = λ more. omega (arith, left-fewer spec budget read.done m some read.resident (sym kept ∙ count) (omega (arith, read.wrote, more)), read.wrote, read.counted);
      waits = omega (arith, waits-held s partitions (left_lots spec part_of n read.done m) read.held, sizes, read.wrote);
      few = omega (arith, kept, read.resident.within);
      runs = runs;
      filled = filled-held s partitions (left_lots spec part_of n read.done m) read.held;
    }

-- each key has a partition
place_less : (depth hash : ℕ) → partition_of depth hash < fan_out depth
place_less depth hash = at (nat_lt depth 4)
  where
    at : (b : Bool) → cond b (hash / 2 ^ (60 - 4 * depth) % 16) 0 < cond b 16 1
    at true = omega arith
    at false = omega arith

pub partition_less : (hash : List ℕ → ℕ) (depth : ℕ) (k : List Value) → partition_by hash depth k < fan_out depth
partition_less hash depth k = place_less depth (hash (class_of k))
