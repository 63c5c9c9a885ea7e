-- Rows by columns.
use Rattle.std.proofs.Common.{◌≡◌, ◌<◌, ◌≤◌, ◌+◌, ℕ, zero, suc, List, [], ◌∷◌, ◌++◌, length, map, take, drop, slice_index_or, slice_set, replicate, All, refl, sym, ap, subst, ◌∙◌, arith, add-one, length-append, length-take, take-suc-set}
use Rattle.std.proofs.lemmas.List.{append-nil, get_or_default, drop_all, get_or-map, get_or-replicate, length-map, length-replicate, replicate-append-replicate, take_all, take-append-le}
use Rattle.std.proofs.lemmas.List.Elements.{All-nil, All-cons, All-head, All-tail}
use Rattle.gq_row.specs.Rows.{cells_in}
use Rattle.gq_row.specs.declared.value.Value.{Value}
use Rattle.gq_row.specs.declared.value.Value.TheVariants.{Null}
use Rattle.gq_row.specs.Written.{IsInPlace}
use Rattle.gq_table.specs.Columns.{AreAsLong, alone, before_rows, columns_behind, rows_across}

abbrev Long : ℕ → List Value → Type 0
Long n column = length column ≡ n

-- ---- cells before rows

before_none : (cells : List Value) → before_rows cells [] ≡ []
unfolding before_rows
before_none [] = refl
before_none (cell ∷ cells) = refl

length-before : (cells : List Value) (rows : List (List Value)) → length cells ≡ length rows → length (before_rows cells rows) ≡ length rows
unfolding before_rows
length-before [] [] h = refl
length-before [] (row ∷ rows) h = absurd (omega (arith, h))
length-before (cell ∷ cells) [] h = refl
length-before (cell ∷ cells) (row ∷ rows) h = ap (λ k. suc k) (length-before cells rows (omega (arith, h)))

before_there : (cells : List Value) (rows : List (List Value)) (i : ℕ) → length cells ≡ length rows → i < length rows
    → slice_index_or (before_rows cells rows) i [] ≡ slice_index_or cells i Null ∷ slice_index_or rows i []
unfolding before_rows
before_there [] [] i h lt = absurd (omega (arith, lt))
before_there [] (row ∷ rows) i h lt = absurd (omega (arith, h))
before_there (cell ∷ cells) [] i h lt = absurd (omega (arith, h))
before_there (cell ∷ cells) (row ∷ rows) zero h lt = refl
before_there (cell ∷ cells) (row ∷ rows) (suc i) h lt = before_there cells rows i (omega (arith, h)) (omega (arith, lt))

before-append : (cells more : List Value) (rows others : List (List Value)) → length cells ≡ length rows
    → before_rows (cells ++ more) (rows ++ others) ≡ before_rows cells rows ++ before_rows more others
unfolding before_rows
before-append [] more [] others h = refl
before-append [] more (row ∷ rows) others h = absurd (omega (arith, h))
before-append (cell ∷ cells) more [] others h = absurd (omega (arith, h))
before-append (cell ∷ cells) more (row ∷ rows) others h = ap (λ l. (cell ∷ row) ∷ l) (before-append cells more rows others (omega (arith, h)))

-- ---- rows across columns

pub length-across : (n : ℕ) (columns : List (List Value)) → AreAsLong n columns → length (rows_across n columns) ≡ n
unfolding rows_across
length-across n [] h = length-replicate n []
length-across n (column ∷ columns) h =
    let rest = length-across n columns (All-tail (Long n) column columns h) in
    length-before column (rows_across n columns) (All-head (Long n) column columns h ∙ sym rest) ∙ rest

pub none_across : (columns : List (List Value)) → rows_across 0 columns ≡ []
unfolding rows_across
none_across [] = refl
none_across (column ∷ columns) = ap (before_rows column) (none_across columns) ∙ before_none column

-- the row at a position
pub row_there : (n i : ℕ) (columns : List (List Value)) → AreAsLong n columns → i < n
    → slice_index_or (rows_across n columns) i [] ≡ map (λ column. slice_index_or column i Null) columns
unfolding rows_across
row_there n i [] h lt = get_or-replicate n i [] [] lt
row_there n i (column ∷ columns) h lt =
    let tail = All-tail (Long n) column columns h in
    let rest = length-across n columns tail in
    before_there column (rows_across n columns) i (All-head (Long n) column columns h ∙ sym rest) (omega (arith, lt, rest))
    ∙ ap (λ l. slice_index_or column i Null ∷ l) (row_there n i columns tail lt)

-- as many columns after others
pub across_behind : (n m : ℕ) (columns more : List (List Value)) → AreAsLong n columns → length more ≡ length columns
    → rows_across (n + m) (columns_behind columns more) ≡ rows_across n columns ++ rows_across m more
unfolding rows_across columns_behind
across_behind n m [] [] h same = sym (replicate-append-replicate n m [])
across_behind n m [] (cells ∷ more) h same = absurd (omega (arith, same))
across_behind n m (column ∷ columns) [] h same = absurd (omega (arith, same))
across_behind n m (column ∷ columns) (cells ∷ more) h same =
    let tail = All-tail (Long n) column columns h in
    ap (before_rows (column ++ cells)) (across_behind n m columns more tail (omega (arith, same)))
    ∙ before-append column cells (rows_across n columns) (rows_across m more) (All-head (Long n) column columns h ∙ sym (length-across n columns tail))

pub long_behind : (n m : ℕ) (columns more : List (List Value)) → AreAsLong n columns → AreAsLong m more → length more ≡ length columns → AreAsLong (n + m) (columns_behind columns more)
unfolding columns_behind
long_behind n m [] [] h k same = All-nil (Long (n + m))
long_behind n m [] (cells ∷ more) h k same = absurd (omega (arith, same))
long_behind n m (column ∷ columns) [] h k same = absurd (omega (arith, same))
long_behind n m (column ∷ columns) (cells ∷ more) h k same =
    All-cons (Long (n + m)) (column ++ cells) (columns_behind columns more)
    (length-append column cells ∙ (λ i. All-head (Long n) column columns h i + All-head (Long m) cells more k i))
    (long_behind n m columns more (All-tail (Long n) column columns h) (All-tail (Long m) cells more k) (omega (arith, same)))

-- a row alone
pub long_alone : (row : List Value) → AreAsLong 1 (map alone row)
long_alone [] = All-nil (Long 1)
long_alone (cell ∷ row) = All-cons (Long 1) (cell ∷ []) (map alone row) refl (long_alone row)

pub across_alone : (row : List Value) → rows_across 1 (map alone row) ≡ row ∷ []
unfolding rows_across before_rows
across_alone [] = refl
across_alone (cell ∷ row) = ap (before_rows (cell ∷ [])) (across_alone row)

-- no cells
pub long_none : (n : ℕ) → AreAsLong 0 (replicate n [])
long_none zero = All-nil (Long 0)
long_none (suc n) = All-cons (Long 0) [] (replicate n []) refl (long_none n)

-- ---- one column after the other

behind_next : (columns more : List (List Value)) (i : ℕ) (c : List Value) → i < length columns → length more ≡ length columns
    → c ≡ slice_index_or columns i [] ++ slice_index_or more i []
    → take (suc i) (slice_set columns i c) ++ columns_behind (drop (suc i) (slice_set columns i c)) (drop (suc i) more) ≡ take i columns ++ columns_behind (drop i columns) (drop i more)
unfolding columns_behind
behind_next [] more i c lt same is = absurd (omega (arith, lt))
behind_next (column ∷ columns) [] i c lt same is = absurd (omega (arith, same))
behind_next (column ∷ columns) (cells ∷ more) zero c lt same is = ap (λ l. l ∷ columns_behind columns more) is
behind_next (column ∷ columns) (cells ∷ more) (suc i) c lt same is = ap (λ l. column ∷ l) (behind_next columns more i c (omega (arith, lt)) (omega (arith, same)) is)

pub behind_step : (columns more : List (List Value)) (i : ℕ) (c : List Value) → i < length columns → length more ≡ length columns
    → c ≡ slice_index_or columns i [] ++ slice_index_or more i []
    → take (i + 1) (slice_set columns i c) ++ columns_behind (drop (i + 1) (slice_set columns i c)) (drop (i + 1) more) ≡ take i columns ++ columns_behind (drop i columns) (drop i more)
behind_step columns more i c lt same is =
    let next : i + 1 ≡ suc i = omega arith in
    (λ z. take (next z) (slice_set columns i c) ++ columns_behind (drop (next z) (slice_set columns i c)) (drop (next z) more)) ∙ behind_next columns more i c lt same is

-- appending to a column leaves its first cells
pub kept_step : (n : ℕ) (columns old : List (List Value)) (i : ℕ) (c extra : List Value) → map (take n) columns ≡ old → AreAsLong n old → i < length columns
    → c ≡ slice_index_or columns i [] ++ extra → map (take n) (slice_set columns i c) ≡ old
kept_step n [] old i c extra same long lt is = absurd (omega (arith, lt))
kept_step n (column ∷ columns) [] i c extra same long lt is = absurd (omega (arith, ap length same))
kept_step n (column ∷ columns) (first ∷ old) zero c extra same long lt is =
    let front : take n column ≡ first = ap (λ l. slice_index_or l 0 []) same in
    let size = ap length front ∙ All-head (Long n) first old long in
    let within : n ≤ length column = omega (arith, size, length-take n column) in
    let tail : map (take n) columns ≡ old = ap (drop 1) same in
    λ z. (ap (take n) is ∙ take-append-le n column extra within ∙ front) z ∷ tail z
kept_step n (column ∷ columns) (first ∷ old) (suc i) c extra same long lt is =
    let front : take n column ≡ first = ap (λ l. slice_index_or l 0 []) same in
    let tail : map (take n) columns ≡ old = ap (drop 1) same in
    λ z. front z ∷ kept_step n columns old i c extra tail (All-tail (Long n) first old long) (omega (arith, lt)) is z

pub kept_start : (n : ℕ) (columns : List (List Value)) → AreAsLong n columns → map (take n) columns ≡ columns
kept_start n [] h = refl
kept_start n (column ∷ columns) h =
    λ z. take_all n column (omega (arith, All-head (Long n) column columns h)) z ∷ kept_start n columns (All-tail (Long n) column columns h) z

-- after the last column
pub behind_all : (columns more : List (List Value)) (i : ℕ) → length columns ≤ i → take i columns ++ columns_behind (drop i columns) more ≡ columns
unfolding columns_behind
behind_all columns more i h =
    (λ z. take_all i columns h z ++ columns_behind (drop_all i columns h z) more) ∙ append-nil columns

-- what is left of a list stays so past a place that is written
-- one element more of a list
pub first_more : {X : Type 0} (xs : List X) (i : ℕ) (d : X) → i < length xs → take (suc i) xs ≡ take i xs ++ slice_index_or xs i d ∷ []
first_more [] i d within = absurd (omega arith)
first_more (x ∷ xs) zero d within = refl
first_more (x ∷ xs) (suc i) d within = ap (λ l. x ∷ l) (first_more xs i d (omega arith))

pub one_more : {X : Type 0} (xs : List X) (i : ℕ) (d : X) → i < length xs → take (i + 1) xs ≡ take i xs ++ slice_index_or xs i d ∷ []
one_more xs i d within = ap (λ n. take n xs) (add-one i) ∙ first_more xs i d within

-- a list that is written over with another, up to a place, and one place further
pub written_next : {X : Type 0} (xs ys : List X) (i : ℕ) (x d : X) → i < length xs → i < length ys → take i xs ≡ take i ys → x ≡ slice_index_or ys i d → take (i + 1) (slice_set xs i x) ≡ take (i + 1) ys
written_next xs ys i x d in_xs in_ys same is =
    ap (λ n. take n (slice_set xs i x)) (add-one i) ∙ take-suc-set xs i x in_xs ∙ (λ z. same z ++ is z ∷ []) ∙ sym (one_more ys i d in_ys)

-- what is written over a whole slice
pub whole : {X : Type 0} (n : ℕ) (xs ys : List X) → length xs ≡ n → take n (xs ++ drop (length xs) ys) ≡ xs
whole n xs ys h = take-append-le n xs (drop (length xs) ys) (omega (arith, h)) ∙ take_all n xs (omega (arith, h))

-- ---- positions in a column store

pub position_within : (n i : ℕ) (columns : List (List Value)) (rows : List (List Value)) → rows_across n columns ≡ rows → AreAsLong n columns → i < length rows → i < n
position_within n i columns rows view long lt = subst (λ k. i < k) (ap length (sym view) ∙ length-across n columns long) lt

pub within_each : (n i : ℕ) (columns : List (List Value)) → AreAsLong n columns → i < n → All (λ (column : List Value). i < length column) columns
within_each n i columns long lt = λ k d h. omega (arith, lt, long k d h)

-- a column store that has rows has as many columns as they have cells
wide : (n : ℕ) (columns : List (List Value)) → AreAsLong n columns → 0 < n → length (slice_index_or (rows_across n columns) 0 []) ≡ length columns
wide n columns long some = ap length (row_there n 0 columns long some) ∙ length-map columns (λ column. slice_index_or column 0 Null)

pub as_wide : (n w : ℕ) (columns rows : List (List Value)) → rows_across n columns ≡ rows → AreAsLong n columns → 0 < n
    → All (λ (other : List Value). length other ≡ w) rows → length columns ≡ w
as_wide n w columns rows view long some even =
    let lt : 0 < length rows = omega (arith, some, ap length (sym view), length-across n columns long) in
    sym (wide n columns long some) ∙ ap (λ l. length (slice_index_or l 0 [])) view ∙ even 0 [] lt

pub both_wide : (n m : ℕ) (columns more rows others : List (List Value)) → rows_across n columns ≡ rows → AreAsLong n columns → 0 < n
    → rows_across m more ≡ others → AreAsLong m more → 0 < m → All (λ (row : List Value). All (λ (other : List Value). length other ≡ length row) rows) others → length more ≡ length columns
both_wide n m columns more rows others view long some view2 long2 some2 even =
    let lt : 0 < length others = omega (arith, some2, ap length (sym view2), length-across m more long2) in
    let first = slice_index_or others 0 [] in
    let mine = as_wide n (length first) columns rows view long some (even 0 [] lt) in
    let theirs = sym (wide m more long2 some2) ∙ ap (λ l. length (slice_index_or l 0 [])) view2 in
    theirs ∙ sym mine

-- rows after those of a column store
pub appended : (n m next : ℕ) (columns more new rows others : List (List Value)) → rows_across n columns ≡ rows → AreAsLong n columns
    → rows_across m more ≡ others → AreAsLong m more → length more ≡ length columns → next ≡ n + m → new ≡ columns_behind columns more
    → (AreAsLong next new) × (rows_across next new ≡ rows ++ others)
appended n m next columns more new rows others view long view2 long2 same count is = (
  subst (λ k. AreAsLong k new) (sym count) (subst (AreAsLong (n + m)) (sym is) (long_behind n m columns more long long2 same)),
  (λ z. rows_across (count z) (is z)) ∙ across_behind n m columns more long same ∙ (λ z. view z ++ view2 z),
)

pub pushed : (n next : ℕ) (columns new rows : List (List Value)) (row : List Value) → rows_across n columns ≡ rows → AreAsLong n columns
    → length columns ≡ length row → next ≡ n + 1 → new ≡ columns_behind columns (map alone row)
    → (AreAsLong next new) × (rows_across next new ≡ rows ++ row ∷ [])
pushed n next columns new rows row view long same count is =
    appended n 1 next columns (map alone row) new rows (row ∷ []) view long (across_alone row) (long_alone row) (length-map row alone ∙ sym same) count is

-- a vector that is written whole
pub written : (columns new : List (List Value)) (len : ℕ) → length new ≡ len → (n : ℕ) (rows : List (List Value)) → (AreAsLong n new) × (rows_across n new ≡ rows)
    → (AreAsLong n (take len (new ++ drop (length new) columns))) × (rows_across n (take len (new ++ drop (length new) columns)) ≡ rows)
written columns new len size n rows h =
    subst (λ l. (AreAsLong n l) × (rows_across n l ≡ rows)) (sym (whole len new columns size)) h

-- ---- some columns of a row

row_within : (rows : List (List Value)) (i c : ℕ) → c < length (slice_index_or rows i []) → i < length rows
row_within [] i c h = absurd (omega (arith, h))
row_within (row ∷ rows) zero c h = omega arith
row_within (row ∷ rows) (suc i) c h = omega (arith, row_within rows i c h)

-- where a row has a column, the column store has that column, and it a cell there
pub column_there : (n i c : ℕ) (columns rows : List (List Value)) → rows_across n columns ≡ rows → AreAsLong n columns → c < length (slice_index_or rows i [])
    → (c < length columns) × (i < length (slice_index_or columns c []))
column_there n i c columns rows view long h =
    let here = position_within n i columns rows view long (row_within rows i c h) in
    let row : slice_index_or rows i [] ≡ map (λ column. slice_index_or column i Null) columns = ap (λ l. slice_index_or l i []) (sym view) ∙ row_there n i columns long here in
    let within : c < length columns = omega (arith, h, ap length row, length-map columns (λ (column : List Value). slice_index_or column i Null)) in
    (within, omega (arith, here, long c [] within))

pub picked : (n i : ℕ) (columns rows : List (List Value)) → rows_across n columns ≡ rows → AreAsLong n columns → (asked : List ℕ)
    → All (λ c. c < length (slice_index_or rows i [])) asked
    → map (λ c. slice_index_or (slice_index_or columns c []) i Null) asked ≡ cells_in asked (slice_index_or rows i [])
picked n i columns rows view long [] h = refl
picked n i columns rows view long (c ∷ asked) h =
    let first = All-head (λ k. k < length (slice_index_or rows i [])) c asked h in
    let there = column_there n i c columns rows view long first in
    let here = position_within n i columns rows view long (row_within rows i c first) in
    let row : slice_index_or rows i [] ≡ map (λ column. slice_index_or column i Null) columns = ap (λ l. slice_index_or l i []) (sym view) ∙ row_there n i columns long here in
    let one : slice_index_or (slice_index_or columns c []) i Null ≡ slice_index_or (slice_index_or rows i []) c Null =
    sym (get_or-map (λ (column : List Value). slice_index_or column i Null) columns c [] Null there.0) ∙ ap (λ l. slice_index_or l c Null) (sym row) in
    λ z. one z ∷ picked n i columns rows view long asked (All-tail (λ k. k < length (slice_index_or rows i [])) c asked h) z

-- ---- cells that take no memory

-- one of the cells that a function finds in some columns
in_place_of : (f : ℕ → Value) (columns : List ℕ) (i : ℕ) → i < length columns → All IsInPlace (map f columns) → IsInPlace (f (slice_index_or columns i 0))
in_place_of f columns i lt placed =
    subst IsInPlace (get_or-map f columns i 0 Null lt) (placed i Null (subst (λ n. i < n) (sym (length-map columns f)) lt))

pub in_place_there : (all : List (List Value)) (position : ℕ) (columns : List ℕ) (i : ℕ) (column : List Value) → i < length columns → slice_index_or columns i 0 < length all
    → column ≡ slice_index_or all (slice_index_or columns i 0) column → All IsInPlace (map (λ c. slice_index_or (slice_index_or all c []) position Null) columns)
    → IsInPlace (slice_index_or column position Null)
in_place_there all position columns i column lt within is placed =
    subst (λ (c : List Value). IsInPlace (slice_index_or c position Null)) (get_or_default all (slice_index_or columns i 0) [] column within ∙ sym is)
    (in_place_of (λ c. slice_index_or (slice_index_or all c []) position Null) columns i lt placed)

pub in_place_among : (row : List Value) (columns : List ℕ) (i : ℕ) (found : Value) → i < length columns → slice_index_or columns i 0 < length row
    → found ≡ slice_index_or row (slice_index_or columns i 0) found → All IsInPlace (cells_in columns row) → IsInPlace found
in_place_among row columns i found lt within is placed =
    subst IsInPlace (get_or_default row (slice_index_or columns i 0) Null found within ∙ sym is)
    (in_place_of (λ c. slice_index_or row c Null) columns i lt placed)
