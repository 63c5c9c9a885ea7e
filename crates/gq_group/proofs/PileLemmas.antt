-- The stack of runs that wait to be read.
use Rattle.std.proofs.Common.{◌≡◌, ◌≤◌, ◌<◌, ◌+◌, ◌-◌, ◌*◌, ◌/◌, ◌++◌, ℕ, List, [], ◌∷◌, length, map, refl, sym, ap, subst, ◌∙◌, arith, length-append, append_assoc, Option}
use Rattle.std.specs.Prelude.{IsPermutation, filter, not}
use Rattle.std.specs.List.{sum_by, flat_map}
use Rattle.std.proofs.lemmas.List.{append-nil, map-append}
use Rattle.std.proofs.lemmas.List.Sums.{sum_by-append, sum_by_push}
use Rattle.std.proofs.lemmas.Grind.{flat_map-append}
use Rattle.std.proofs.lemmas.List.Sorted.{IsPermutation-trans, IsPermutation-append_right, IsPermutation-append_comm, IsPermutation-append_left}
use Rattle.gq_row.specs.declared.value.Value.{Value}
use Rattle.gq_row.specs.Tables.{keys}
use Rattle.gq_row.specs.Order.{same_key}
use Rattle.gq_group.specs.Groups.{Spec, Group, groups, group_of, keys_of, answered, AreGroups}
use Rattle.gq_group.specs.Partitioning.{row_groups, count_groups, cost, excess, one_if_some}
use Rattle.gq_group.specs.Piles.{Piled}
use Rattle.gq_group.specs.Work.{Spills}
use Rattle.gq_group.specs.declared.grouping.Spent.{Spent}
use Rattle.std.proofs.Math.Nat.{div-eq_of_lt}
use Rattle.gq_group.proofs.Costs.{parted_count, pass_cost, pass_runs, parts_groups_le, some_groups}

-- without columns all rows have the empty key
keys-none : (rows : List (List Value)) → 0 < length rows → keys [] rows ≡ [] ∷ []
keys-none [] h = absurd (omega arith)
keys-none (row ∷ []) h = refl
keys-none (row ∷ other ∷ rows) h = ap (λ l. [] ∷ filter (λ k. not (same_key [] k)) l) (keys-none (other ∷ rows) (omega arith))

pub groups-some : (spec : Spec) (rows : List (List Value)) → 0 < length rows → groups spec rows ≡ row_groups spec rows
groups-some spec rows h = ap (map (group_of spec rows)) (at spec.by)
  where
    at : (by : List ℕ) → keys_of by rows ≡ keys by rows
    at [] = sym (keys-none rows h)
    at (column ∷ columns) = refl

one_some : (part : List (List Value)) → 0 < length part → one_if_some part ≡ 1
one_some [] h = absurd (omega arith)
one_some (row ∷ rows) h = refl

first_runs : (budget out n runs : ℕ) → out ≤ budget → runs ≡ n → out + budget * n ≤ budget * (runs + 1)
first_runs budget out n runs few is = subst (λ m. out + budget * n ≤ budget * (m + 1)) (sym is) (omega arith)

next_runs : (budget out more all before pile after parts runs b : ℕ) → out + budget * before ≤ budget * (runs + 1) → all ≡ out + more → more ≤ budget
    → before ≡ pile + 1 → after ≡ pile + parts → b ≡ parts → all + budget * after ≤ budget * ((runs + b) + 1)
next_runs budget out more all before pile after parts runs b h is few was now same =
    let step : out + budget * (pile + 1) ≤ budget * (runs + 1) = subst (λ n. out + budget * n ≤ budget * (runs + 1)) was h in
    subst (λ n. all + budget * n ≤ budget * ((runs + b) + 1)) (sym now) (subst (λ n. all + budget * (pile + parts) ≤ budget * ((runs + n) + 1)) (sym same) (omega arith))

-- the first source was read
pub piled-first : (spec : Spec) (budget : ℕ) (rows : List (List Value)) (out : List Group) (parts : List (List (List Value))) (written runs : ℕ) → 0 < budget
    → IsPermutation (groups spec rows) (map answered out ++ flat_map (row_groups spec) parts)
    → length out ≤ budget → (0 < sum_by length parts → length out ≡ budget) → sum_by length parts ≤ length rows
    → written ≡ sum_by length parts → runs ≡ sum_by one_if_some parts
    → Piled spec budget rows out parts written runs
piled-first spec budget rows out parts written runs some whole few full fewer is_written is_runs =
    let counted = parted_count spec (groups spec rows) out parts whole in
    record {
      whole = whole;
      few_rows = omega (arith, pass_cost budget (length rows) (length (groups spec rows)) (length out) spec parts some counted full fewer, is_written);
      few_runs = omega (arith, pass_runs budget (length (groups spec rows)) (length out) spec parts some counted full, is_runs);
      by_rows = omega (arith, counted, few, is_written, parts_groups_le spec parts);
      by_runs = first_runs budget (length out) (sum_by one_if_some parts) runs few is_runs;
    }

-- a run of the pile was read
pub piled-step : (spec : Spec) (budget : ℕ) (rows : List (List Value)) (out more : List Group) (pile parts : List (List (List Value))) (part : List (List Value)) (written runs w b : ℕ) → 0 < budget
    → Piled spec budget rows out (pile ++ part ∷ []) written runs
    → 0 < length part
    → IsPermutation (groups spec part) (map answered more ++ flat_map (row_groups spec) parts)
    → length more ≤ budget → (0 < sum_by length parts → length more ≡ budget) → sum_by length parts ≤ length part
    → w ≡ sum_by length parts → b ≡ sum_by one_if_some parts
    → Piled spec budget rows (out ++ more) (pile ++ parts) (written + w) (runs + b)
piled-step spec budget rows out more pile parts part written runs w b some piled filled whole few full fewer is_w is_b =
    let counted = parted_count spec (groups spec part) more parts whole in
    let same : length (groups spec part) ≡ count_groups spec part = ap length (groups-some spec part filled) in
    let costs = pass_cost budget (length part) (length (groups spec part)) (length more) spec parts some counted full fewer in
    let made = pass_runs budget (length (groups spec part)) (length more) spec parts some counted full in
    let here : length part * ((length (groups spec part) - 1) / budget) ≡ cost budget spec part = ap (λ n. length part * ((n - 1) / budget)) same in
    record {
      whole = moved;
      few_rows = omega (arith, piled.few_rows, sum_by_push (cost budget spec) pile part, sum_by-append (cost budget spec) pile parts, costs, here, is_w);
      few_runs = omega (arith, piled.few_runs, sum_by_push (excess budget spec) pile part, sum_by-append (excess budget spec) pile parts, made, same, is_b);
      by_rows = omega (arith, piled.by_rows);
      by_runs = next_runs budget (length out) (length more) (length (out ++ more)) (sum_by one_if_some (pile ++ part ∷ [])) (sum_by one_if_some pile) (sum_by one_if_some (pile ++ parts)) (sum_by one_if_some parts) runs b
          piled.by_runs (length-append out more) few (sum_by_push one_if_some pile part ∙ ap (λ n. sum_by one_if_some pile + n) (one_some part filled)) (sum_by-append one_if_some pile parts) is_b;
    }
  where
    f : List (List Value) → List (List Value × List (Option Value))
    f = row_groups spec

    -- out, pile, part: out, pile, more, parts: out, more, pile, parts
    part_is : flat_map f (pile ++ part ∷ []) ≡ flat_map f pile ++ groups spec part
    part_is = flat_map-append f pile (part ∷ []) ∙ ap (λ l. flat_map f pile ++ l) (append-nil (f part) ∙ sym (groups-some spec part filled))

    opened : IsPermutation (flat_map f pile ++ groups spec part) (flat_map f pile ++ (map answered more ++ flat_map f parts))
    opened = IsPermutation-append_right (flat_map f pile) _ _ whole

    turned : IsPermutation (flat_map f pile ++ (map answered more ++ flat_map f parts)) (map answered more ++ flat_map f (pile ++ parts))
    turned =
        let P : List (List Value × List (Option Value)) → Type 0 = λ l. IsPermutation l (map answered more ++ flat_map f (pile ++ parts)) in
        let Q : List (List Value × List (Option Value)) → Type 0 = λ l. IsPermutation ((flat_map f pile ++ map answered more) ++ flat_map f parts) l in
        subst P (append_assoc (flat_map f pile) (map answered more) (flat_map f parts))
        (subst Q (append_assoc (map answered more) (flat_map f pile) (flat_map f parts) ∙ ap (λ l. map answered more ++ l) (sym (flat_map-append f pile parts)))
        (IsPermutation-append_left (flat_map f parts) _ _ (IsPermutation-append_comm (flat_map f pile) (map answered more))))

    moved : IsPermutation (groups spec rows) (map answered (out ++ more) ++ flat_map f (pile ++ parts))
    moved =
        let P : List (List Value × List (Option Value)) → Type 0 = λ l. IsPermutation (groups spec rows) l in
        let start : IsPermutation (groups spec rows) (map answered out ++ (flat_map f pile ++ groups spec part)) = subst P (ap (λ l. map answered out ++ l) part_is) piled.whole in
        subst P (sym (append_assoc (map answered out) (map answered more) (flat_map f (pile ++ parts))) ∙ ap (λ l. l ++ flat_map f (pile ++ parts)) (sym (map-append answered out more)))
        (IsPermutation-trans _ _ _ start (IsPermutation-append_right (map answered out) _ _ (IsPermutation-trans _ _ _ opened turned)))

-- an empty partition was taken away
pub piled-skip : (spec : Spec) (budget : ℕ) (rows : List (List Value)) (out : List Group) (pile : List (List (List Value))) (written runs : ℕ)
    → Piled spec budget rows out (pile ++ [] ∷ []) written runs → Piled spec budget rows out pile written runs
piled-skip spec budget rows out pile written runs piled = record {
  whole = subst (λ l. IsPermutation (groups spec rows) (map answered out ++ l)) (flat_map-append (row_groups spec) pile ([] ∷ []) ∙ append-nil (flat_map (row_groups spec) pile)) piled.whole;
  few_rows = omega (arith, piled.few_rows, sum_by_push (cost budget spec) pile []);
  few_runs = omega (arith, piled.few_runs, sum_by_push (excess budget spec) pile []);
  by_rows = piled.by_rows;
  by_runs = subst (λ n. length out + budget * n ≤ budget * (runs + 1)) (sum_by_push one_if_some pile [] ∙ omega arith) piled.by_runs;
}

no_groups : (spec : Spec) (rows : List (List Value)) → length (groups spec rows) ≡ 0 → length rows ≡ 0
no_groups spec [] none = refl
no_groups spec (row ∷ rows) none = absurd (let same : length (groups spec (row ∷ rows)) ≡ count_groups spec (row ∷ rows) = ap length (groups-some spec (row ∷ rows) (omega arith)) in omega (arith, same, some_groups spec (row ∷ rows) (omega arith)))

-- ---- nothing waits any more

pub piled-groups : (spec : Spec) (budget : ℕ) (rows : List (List Value)) (out : List Group) (written runs : ℕ) → Piled spec budget rows out [] written runs → AreGroups spec rows out
piled-groups spec budget rows out written runs piled = subst (λ l. IsPermutation (groups spec rows) l) (append-nil (map answered out)) piled.whole

pub piled-count : (spec : Spec) (budget : ℕ) (rows : List (List Value)) (out : List Group) (written runs : ℕ) → Piled spec budget rows out [] written runs → length (groups spec rows) ≡ length out
piled-count spec budget rows out written runs piled = omega (arith, parted_count spec (groups spec rows) out [] piled.whole)

pub piled-spills : (spec : Spec) (budget : ℕ) (rows : List (List Value)) (out : List Group) (spent : Spent) → 0 < budget → Piled spec budget rows out [] spent.rows_written spent.runs
    → spent.rows_read ≡ length rows → spent.groups ≡ length out → Spills budget spent
piled-spills spec budget rows out spent some piled read sent =
    let same : length (groups spec rows) ≡ spent.groups = omega (arith, piled-count spec budget rows out spent.rows_written spent.runs piled, sent) in
    let bound : spent.rows_written ≤ length rows * ((length (groups spec rows) - 1) / budget) = omega (arith, piled.few_rows) in
    let few_rows : spent.rows_written ≤ spent.rows_read * ((spent.groups - 1) / budget)
    = subst (λ n. spent.rows_written ≤ n * ((spent.groups - 1) / budget)) (sym read) (subst (λ n. spent.rows_written ≤ length rows * ((n - 1) / budget)) same bound) in
    let few_runs : spent.runs ≤ spent.groups - budget = omega (arith, piled.few_runs, same) in
    let by_runs : spent.groups ≤ budget * (spent.runs + 1) = omega (arith, piled.by_runs, sent) in
    let by_rows : spent.groups ≤ budget + spent.rows_written = omega (arith, piled.by_rows, same) in
    record {
      no_runs = (λ none. (let h : spent.groups ≤ budget * (0 + 1) = subst (λ n. spent.groups ≤ budget * (n + 1)) none by_runs in omega (arith, h)), λ little. omega (arith, few_runs, little));
      no_rows = (
        λ none. omega (arith, by_rows, none),
        λ little.
            let one_table : (spent.groups - 1) / budget ≡ 0 = div-eq_of_lt (omega (arith, some, little)) in
            let here : spent.rows_written ≤ spent.rows_read * 0 = subst (λ n. spent.rows_written ≤ spent.rows_read * n) one_table few_rows in
            omega (arith, here),
      );
      by_runs = by_runs;
      by_rows = by_rows;
      few_rows = few_rows;
      few_runs = few_runs;
    }
