-- What the definitions of answers imply, in the subject's own words.
use Rattle.std.specs.Prelude.{◌≡◌, ◌≤◌, ℕ, suc, Bool, IsTrue, List, [], ◌++◌, length, map, take, drop, Option, option_map, IsPermutation}
use Rattle.gq_row.specs.declared.value.Value.{Value}
use Rattle.gq_row.specs.Tables.{PlainTable, keys_differ}
use Rattle.gq_select.specs.declared.condition.Test.{Test}
use Rattle.gq_select.specs.declared.matching.Matching.{Matching}
use Rattle.gq_select.specs.declared.output_column.OutputColumn.{OutputColumn}
use Rattle.gq_query.specs.Answers.{answer, distinct_keys, rows_kept, rows_shown}
use Rattle.gq_query.specs.Rollups.{group_answer, level_rows}

-- Tables that differ only in the order of their rows give the same answers: to `group` and `distinct` in every case, for either of the two tables, and to `show` if no two rows have the same key.
pub record OrderIsUnseen : Type 0 where
  pub grouped : (rollup : Bool) (by : List ℕ) (shown : List OutputColumn) (having tests : List Test) (matching : Option Matching) (us vs xs ys : List (List Value)) → IsPermutation us vs → IsPermutation xs ys
      → group_answer rollup by shown having (rows_kept tests matching us xs) ≡ group_answer rollup by shown having (rows_kept tests matching vs ys)
  pub told_apart : (on : List ℕ) (tests : List Test) (matching : Option Matching) (us vs xs ys : List (List Value)) → IsPermutation us vs → IsPermutation xs ys
      → distinct_keys on (rows_kept tests matching us xs) ≡ distinct_keys on (rows_kept tests matching vs ys)
  pub listed : (s t : PlainTable) → s.schema ≡ t.schema → IsTrue (keys_differ s.schema.key s.rows) → IsPermutation s.rows t.rows → rows_shown s ≡ rows_shown t

-- a row of a level without the level and without the nulls for the other columns
abbrev pub without_level : ℕ → ℕ → List Value → List Value
without_level level columns row = take level (drop 1 row) ++ drop (suc columns) row

-- Each level of a rollup is a `group`: without the level and the nulls, its rows are those of the `group` by that many of the first columns. So level 0 is the `group` without `by`, and the last level is the `group` by all columns. Each row begins with its level, and has null in the columns that the level leaves out.
pub record RollsUp : Type 0 where
  pub level : (by : List ℕ) (shown : List OutputColumn) (rows : List (List Value)) (level : ℕ) → level ≤ length by
      → option_map (map (without_level level (length by))) (level_rows by shown [] rows level) ≡ answer (take level by) shown rows
