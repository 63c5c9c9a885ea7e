-- The levels of a rollup: one after the other, and each compared with the `group` by its columns.
use Rattle.std.proofs.Common.{◌≡◌, ◌<◌, ◌≤◌, ◌+◌, ◌-◌, ℕ, zero, suc, Bool, true, IsTrue, List, [], ◌∷◌, ◌++◌, length, map, take, drop, filter, refl, sym, ap, subst, ◌∙◌, arith, Option, Some, None, pos}
use Rattle.std.specs.Prelude.{option_map, option_and_then, replicate}
use Rattle.std.specs.List.{flat_map, range_with_len}
use Rattle.std.proofs.lemmas.List.{append_assoc, append-nil, length-append, length-replicate}
use Rattle.std.proofs.Math.Seq.{take-append_seam, drop-append_seam}
use Rattle.gq_row.specs.declared.value.Value.{Value}
use Rattle.gq_row.specs.declared.value.Value.TheVariants.{Null, Int}
use Rattle.gq_row.specs.Ordered.{in_order}
use Rattle.gq_row.specs.Tables.{of_key}
use Rattle.gq_group.specs.declared.grouping.Spent.{Spent}
use Rattle.gq_group.specs.Groups.{keys_of}
use Rattle.gq_select.specs.Asking.{all_of}
use Rattle.gq_select.specs.declared.condition.Test.{Test}
use Rattle.gq_select.specs.declared.output_column.OutputColumn.{OutputColumn}
use Rattle.gq_select.specs.Truths.{keeps}
use Rattle.gq_query.proofs.HavingLemmas.{all_kept}
use Rattle.gq_query.specs.Answers.{answer, result_row, shown_key, shown_value}
use Rattle.gq_query.specs.Laws.{RollsUp, without_level}
use Rattle.gq_query.specs.Rollups.{filled, grouping_sets, level_rows, levels, rows_of_levels}
use Rattle.gq_query.specs.Work.{RisesBy, both_spent, IsSpentOn}

abbrev Rows : Type 0
Rows = List (List Value)

-- ---- levels one after the other

all_left : (n : ℕ) → n - 0 ≡ n
all_left n = omega arith

module _ (by : List ℕ) (shown : List OutputColumn) (having : List Test) (rows : Rows) where
  -- the rows of a level, and those of the levels after it
  pub level_first : (level : ℕ) (others : List ℕ) (found : Rows) → level_rows by shown having rows level ≡ Some found
      → option_map (λ more. found ++ more) (rows_of_levels by shown having rows others) ≡ rows_of_levels by shown having rows (level ∷ others)
  level_first level others found told = by-rest (all_of (map (level_rows by shown having rows) others)) ∙ ap (λ o. option_map (flat_map (λ rows. rows)) (option_and_then (λ x. option_map (λ xs. x ∷ xs) (all_of (map (level_rows by shown having rows) others))) o)) (sym told)
    where
      by-rest : (rest : Option (List Rows)) → option_map (λ more. found ++ more) (option_map (flat_map (λ rows. rows)) rest) ≡ option_map (flat_map (λ rows. rows)) (option_map (λ xs. found ∷ xs) rest)
      by-rest None = refl
      by-rest (Some rest) = refl

  -- a level without rows leaves nothing
  pub no_level : (level : ℕ) (others : List ℕ) → level_rows by shown having rows level ≡ None → rows_of_levels by shown having rows (level ∷ others) ≡ None
  no_level level others none = ap (λ o. option_map (flat_map (λ rows. rows)) (option_and_then (λ x. option_map (λ xs. x ∷ xs) (all_of (map (level_rows by shown having rows) others))) o)) none

  -- the rows of one level more
  pub level_more : (before found : Rows) (level : ℕ) (others : List ℕ) → level_rows by shown having rows level ≡ Some found
      → option_map (λ more. (before ++ found) ++ more) (rows_of_levels by shown having rows others) ≡ option_map (λ more. before ++ more) (rows_of_levels by shown having rows (level ∷ others))
  level_more before found level others told = by-rest (rows_of_levels by shown having rows others) ∙ ap (option_map (λ more. before ++ more)) (level_first level others found told)
    where
      by-rest : (rest : Option Rows) → option_map (λ more. (before ++ found) ++ more) rest ≡ option_map (λ more. before ++ more) (option_map (λ more. found ++ more) rest)
      by-rest None = refl
      by-rest (Some rest) = ap Some (append_assoc before found rest)

  -- of all levels, those after the first n
  pub record SoFar (level : ℕ) (found : Rows) : Type 0 where
    pub left : option_map (λ more. found ++ more) (rows_of_levels by shown having rows (range_with_len (level + 1) (length by - level))) ≡ rows_of_levels by shown having rows (levels by)

  pub total_level : (found : Rows) → level_rows by shown having rows 0 ≡ Some found → SoFar 0 found
  total_level found told = record { left = ap (λ n. option_map (λ more. found ++ more) (rows_of_levels by shown having rows (range_with_len (0 + 1) n))) (all_left (length by)) ∙ level_first 0 (range_with_len (0 + 1) (length by)) found told }

  -- what is left begins with the next level
  pub next : (level : ℕ) → level < length by → range_with_len (level + 1) (length by - level) ≡ (level + 1) ∷ range_with_len ((level + 1) + 1) (length by - (level + 1))
  next level below = let n : length by - level ≡ suc (length by - (level + 1)) = omega arith in ap (range_with_len (level + 1)) n

  pub one_level_more : (level : ℕ) (before found : Rows) → level < length by → SoFar level before → level_rows by shown having rows (level + 1) ≡ Some found → SoFar (level + 1) (before ++ found)
  one_level_more level before found below h told = record {
    left = level_more before found (level + 1) (range_with_len ((level + 1) + 1) (length by - (level + 1))) told
        ∙ ap (λ l. option_map (λ more. before ++ more) (rows_of_levels by shown having rows l)) (sym (next level below)) ∙ h.left;
  }

  pub level_refused : (level : ℕ) (before : Rows) → level < length by → SoFar level before → level_rows by shown having rows (level + 1) ≡ None → rows_of_levels by shown having rows (levels by) ≡ None
  level_refused level before below h none =
      sym h.left ∙ ap (λ l. option_map (λ more. before ++ more) (rows_of_levels by shown having rows l)) (next level below)
      ∙ ap (option_map (λ more. before ++ more)) (no_level (level + 1) (range_with_len ((level + 1) + 1) (length by - (level + 1))) none)

  pub all_levels : (level : ℕ) (found : Rows) → level ≡ length by → SoFar level found → rows_of_levels by shown having rows (levels by) ≡ Some found
  all_levels level found end h =
      let none : length by - level ≡ 0 = omega arith in
      sym h.left ∙ ap (λ n. option_map (λ more. found ++ more) (rows_of_levels by shown having rows (range_with_len (level + 1) n))) none ∙ ap Some (append-nil found)

-- ---- what the levels take

module _ (honest : Bool) (budget : ℕ) (by : List ℕ) (rows : Rows) (before : Spent) where
  -- what was spent once some levels are grouped, for the sake of those that are left
  pub record Risen (level : ℕ) (now : Spent) : Type 0 where
    pub goes_on : (new : Spent) → RisesBy honest budget rows (map (λ n. take n by) (range_with_len (level + 1) (length by - level))) now new → RisesBy honest budget rows (grouping_sets true by) before new

  pub total_risen : (work : Spent) → (IsTrue honest → IsSpentOn budget (take 0 by) rows work) → Risen 0 (both_spent before work)
  total_risen work is = record { goes_on = λ new rest. RisesBy.Rises work is (subst (λ n. RisesBy honest budget rows (map (λ level. take level by) (range_with_len (0 + 1) n)) (both_spent before work) new) (all_left (length by)) rest) }

  pub risen_more : (level : ℕ) (now work : Spent) → level < length by → (IsTrue honest → IsSpentOn budget (take (level + 1) by) rows work) → Risen level now → Risen (level + 1) (both_spent now work)
  risen_more level now work below is h = record {
    goes_on = λ new rest. h.goes_on new (subst (λ l. RisesBy honest budget rows (map (λ n. take n by) l) now new) (sym (next by [] [] [] level below)) (RisesBy.Rises work is rest));
  }

  pub all_risen : (level : ℕ) (now : Spent) → level ≡ length by → Risen level now → RisesBy honest budget rows (grouping_sets true by) before now
  all_risen level now end h =
      let none : length by - level ≡ 0 = omega arith in
      h.goes_on now (subst (λ n. RisesBy honest budget rows (map (λ n. take n by) (range_with_len (level + 1) n)) now now) (sym none) RisesBy.IsDone)

-- ---- a level compared with the `group` by its columns

key_length : (by : List ℕ) (rows : Rows) → length (shown_key by rows) ≡ length by
key_length [] rows = refl
key_length (c ∷ by) rows = ap suc (key_length by rows)

take_length : (n : ℕ) (by : List ℕ) → n ≤ length by → length (take n by) ≡ n
take_length zero by within = refl
take_length (suc n) [] within = omega arith
take_length (suc n) (c ∷ by) within = ap suc (take_length n by (omega arith))

-- a row with a level and nulls, without them
row_again : (key values : List Value) (level columns : ℕ) → length key ≡ level → level ≤ columns → without_level level columns (Int (pos level) ∷ filled level columns (key ++ values)) ≡ key ++ values
row_again key values level columns long within =
    let nulls : List Value = replicate (columns - level) Null in
    let front : take level (key ++ values) ≡ key = subst (λ n. take n (key ++ values) ≡ key) long (take-append_seam key values) in
    let back : drop level (key ++ values) ≡ values = subst (λ n. drop n (key ++ values) ≡ values) long (drop-append_seam key values) in
    let all : filled level columns (key ++ values) ≡ key ++ (nulls ++ values) = (λ i. front i ++ (nulls ++ back i)) in
    let both : length (key ++ nulls) ≡ columns = length-append key nulls ∙ (λ i. long i + length-replicate (columns - level) Null i) ∙ omega arith in
    let first : take level (key ++ (nulls ++ values)) ≡ key = subst (λ n. take n (key ++ (nulls ++ values)) ≡ key) long (take-append_seam key (nulls ++ values)) in
    let last : drop columns (key ++ (nulls ++ values)) ≡ values = ap (drop columns) (sym (append_assoc key nulls values)) ∙ subst (λ n. drop n ((key ++ nulls) ++ values) ≡ values) both (drop-append_seam (key ++ nulls) values) in
    (λ i. take level (all i) ++ drop columns (all i)) ∙ (λ i. first i ++ last i)

level_alone : (by : List ℕ) (shown : List OutputColumn) (rows : Rows) (level : ℕ) → level ≤ length by
    → option_map (map (without_level level (length by))) (level_rows by shown [] rows level) ≡ answer (take level by) shown rows
level_alone by shown rows level within = unnumbered (answer (take level by) shown rows) ∙ each (in_order (λ key. key) (keys_of (take level by) rows))
  where
    again : List Value → List Value
    again row = without_level level (length by) (Int (pos level) ∷ filled level (length by) row)

    told : List Value → Option (List Value)
    told = result_row (take level by) shown rows

    mapped : (xs : Rows) → map (without_level level (length by)) (map (λ row. Int (pos level) ∷ row) (map (filled level (length by)) xs)) ≡ map again xs
    mapped [] = refl
    mapped (x ∷ xs) = ap (λ l. again x ∷ l) (mapped xs)

    unnumbered : (o : Option Rows) → option_map (map (without_level level (length by))) (option_map (λ found. map (λ row. Int (pos level) ∷ row) (filter (keeps []) (map (filled level (length by)) found))) o) ≡ option_map (map again) o
    unnumbered None = refl
    unnumbered (Some found) = ap (λ l. Some (map (without_level level (length by)) (map (λ row. Int (pos level) ∷ row) l))) (all_kept (map (filled level (length by)) found)) ∙ ap Some (mapped found)

    one : (key : List Value) → option_map again (told key) ≡ told key
    one key = by-values (all_of (map (λ s. shown_value s (of_key (take level by) rows key)) shown))
      where
        front : List Value
        front = shown_key (take level by) (of_key (take level by) rows key)

        by-values : (o : Option (List Value)) → option_map again (option_map (λ values. front ++ values) o) ≡ option_map (λ values. front ++ values) o
        by-values None = refl
        by-values (Some values) = ap Some (row_again front values level (length by) (key_length (take level by) (of_key (take level by) rows key) ∙ take_length level by within) within)

    both : (o : Option (List Value)) (os : Option Rows) → option_map again o ≡ o → option_map (map again) os ≡ os
        → option_map (map again) (option_and_then (λ x. option_map (λ xs. x ∷ xs) os) o) ≡ option_and_then (λ x. option_map (λ xs. x ∷ xs) os) o
    both None os f g = refl
    both (Some x) None f g = refl
    both (Some x) (Some xs) f g = (λ i. option_and_then (λ y. option_map (λ ys. y ∷ ys) (g i)) (f i))

    each : (keys : Rows) → option_map (map again) (all_of (map told keys)) ≡ all_of (map told keys)
    each [] = refl
    each (key ∷ keys) = both (told key) (all_of (map told keys)) (one key) (each keys)

pub rolls_up : RollsUp
rolls_up = record { level = level_alone }
