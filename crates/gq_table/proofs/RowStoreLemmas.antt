-- Rows of one width in one list of cells.
use Rattle.std.proofs.Common.{◌≡◌, ◌<◌, ◌≤◌, ◌+◌, ◌-◌, ◌*◌, ℕ, zero, suc, List, [], ◌∷◌, ◌++◌, length, take, drop, slice_index_or, slice_set, All, refl, sym, ap, subst, ◌∙◌, arith, length-append, length-drop}
use Rattle.std.specs.List.{flat_map, swap_remove}
use Rattle.std.proofs.lemmas.List.{append_assoc, drop-append-le, drop-drop, length-take-le, nil_from_length, get_or_at, length-set, set_at, set-append_left, take_all, take_at, take-set-le, take-append-drop, take-append-le, take_more}
use Rattle.gq_row.specs.declared.value.Value.{Value}
use Rattle.gq_row.specs.declared.value.Value.TheVariants.{Null}
use Rattle.gq_table.specs.RowStores.{rows_along, with_row, written_over}

-- ---- where the rows are

pub length-along : (w n : ℕ) (cells : List Value) → length (rows_along w n cells) ≡ n
unfolding rows_along
length-along w zero cells = refl
length-along w (suc n) cells = ap (λ k. suc k) (length-along w n (drop w cells))

pub none_along : (w : ℕ) (cells : List Value) → rows_along w 0 cells ≡ []
unfolding rows_along
none_along w cells = refl

-- the row at a position
row_there : (w n i : ℕ) (cells : List Value) → i < n → slice_index_or (rows_along w n cells) i [] ≡ take w (drop (i * w) cells)
unfolding rows_along
row_there w zero i cells lt = absurd (omega (arith, lt))
row_there w (suc n) zero cells lt = let none : 0 ≡ 0 * w = omega arith in ap (λ k. take w (drop k cells)) none
row_there w (suc n) (suc i) cells lt =
    let next : w + i * w ≡ suc i * w = omega arith in
    row_there w n i (drop w cells) (omega (arith, lt)) ∙ ap (take w) (drop-drop (i * w) w cells ∙ ap (λ k. drop k cells) next)

-- a row ends where the next begins, and the last where the cells do
ends_within : (w n i : ℕ) → i < n → i * w + w ≤ n * w
ends_within w n i lt = let rest : n ≡ i + 1 + (n - i - 1) = omega (arith, lt) in subst (λ k. i * w + w ≤ k * w) (sym rest) (omega arith)

begins_before : (w n i : ℕ) → i ≤ n → i * w ≤ n * w
begins_before w n i le = let rest : n ≡ i + (n - i) = omega (arith, le) in subst (λ k. i * w ≤ k * w) (sym rest) (omega arith)

-- ---- rows after others

along_behind : (w n m : ℕ) (cells more : List Value) → length cells ≡ n * w → rows_along w (n + m) (cells ++ more) ≡ rows_along w n cells ++ rows_along w m more
unfolding rows_along
along_behind w zero m cells more long =
    let none : 0 + m ≡ m = omega arith in
    let empty = nil_from_length cells (omega (arith, long)) in
    λ z. rows_along w (none z) (empty z ++ more)
along_behind w (suc n) m cells more long =
    let next : suc n + m ≡ suc (n + m) = omega arith in
    let within : w ≤ length cells = omega (arith, long) in
    let left = length-drop w cells in
    ap (λ k. rows_along w k (cells ++ more)) next
    ∙ (λ z. take-append-le w cells more within z ∷ rows_along w (n + m) (drop-append-le w cells more within z))
    ∙ ap (λ rows. take w cells ∷ rows) (along_behind w n m (drop w cells) more (omega (arith, long, left)))

-- a row alone
along_alone : (row : List Value) → rows_along (length row) 1 row ≡ row ∷ []
unfolding rows_along
along_alone row = ap (λ r. r ∷ []) (take_all (length row) row (omega arith))

alone : (w : ℕ) (row : List Value) → length row ≡ w → rows_along w 1 row ≡ row ∷ []
alone w row long = subst (λ k. rows_along k 1 row ≡ row ∷ []) long (along_alone row)

-- a row between others
along_parts : (w n m all : ℕ) (front row back : List Value) → length front ≡ n * w → length row ≡ w → all ≡ n + (1 + m)
    → rows_along w all (front ++ (row ++ back)) ≡ rows_along w n front ++ row ∷ rows_along w m back
along_parts w n m all front row back before here is =
    ap (λ k. rows_along w k (front ++ (row ++ back))) is
    ∙ along_behind w n (1 + m) front (row ++ back) before
    ∙ ap (λ rows. rows_along w n front ++ rows) (along_behind w 1 m row back (omega (arith, here)) ∙ ap (λ r. r ++ rows_along w m back) (alone w row here))

-- ---- a row written in place

cells_along : (w n : ℕ) (cells : List Value) → length cells ≡ n * w → flat_map (λ (row : List Value). row) (rows_along w n cells) ≡ cells
unfolding rows_along
cells_along w zero cells long = sym (nil_from_length cells (omega (arith, long)))
cells_along w (suc n) cells long =
    let left = length-drop w cells in
    ap (λ l. take w cells ++ l) (cells_along w n (drop w cells) (omega (arith, long, left))) ∙ take-append-drop w cells

-- writing over a row's cells writes the row
with_row_is : (w n i : ℕ) (cells row : List Value) → length cells ≡ n * w → i < n
    → with_row (rows_along w n cells) i row ≡ rows_along w n (written_over cells (i * w) row)
unfolding with_row
with_row_is w n i cells row long lt =
    let within = ends_within w n i lt in
    let left = length-drop (i * w) cells in
    let wide : length (slice_index_or (rows_along w n cells) i []) ≡ w
    = ap length (row_there w n i cells lt) ∙ length-take-le w (drop (i * w) cells) (omega (arith, within, left, long)) in
    λ z. rows_along (wide z) (length-along w n cells z) (written_over (cells_along w n cells long z) (i * wide z) row)

-- as many cells as a row has are a row in its place
over_row : (w n i : ℕ) (cells row : List Value) → length cells ≡ n * w → i < n → length row ≡ w
    → rows_along w n (written_over cells (i * w) row) ≡ slice_set (rows_along w n cells) i row
over_row w n i cells row long lt wide =
    let within = ends_within w n i lt in
    let start = i * w in
    let front = take start cells in
    let old = take w (drop start cells) in
    let back = drop w (drop start cells) in
    let first : length front ≡ start = length-take-le start cells (omega (arith, within, long)) in
    let left = length-drop start cells in
    let behind = length-drop w (drop start cells) in
    let second : length old ≡ w = length-take-le w (drop start cells) (omega (arith, within, left, long)) in
    let all : n ≡ i + (1 + (n - i - 1)) = omega (arith, lt) in
    let parts : cells ≡ front ++ (old ++ back) = sym (ap (λ l. front ++ l) (take-append-drop w (drop start cells)) ∙ take-append-drop start cells) in
    let most : length (front ++ (row ++ back)) ≤ length cells
    = omega (arith, within, long, wide, first, left, behind, length-append front (row ++ back), length-append row back) in
    let now : written_over cells start row ≡ front ++ (row ++ back)
    = ap (λ k. take (length cells) (front ++ (row ++ drop k (drop start cells)))) wide ∙ take_all (length cells) (front ++ (row ++ back)) most in
    let before = ap (rows_along w n) parts ∙ along_parts w i (n - i - 1) n front old back first second all in
    ap (rows_along w n) now
    ∙ along_parts w i (n - i - 1) n front row back first wide all
    ∙ sym (ap (λ rows. slice_set rows i row) before ∙ set_at (rows_along w i front) old (rows_along w (n - i - 1) back) row i (length-along w i front))

-- a list of n elements that was borrowed from a place on, after the borrow ends
abbrev back : {X : Type 0} → ℕ → ℕ → List X → List X → List X
back len at xs ys = let new = take at xs ++ (ys ++ drop (length ys) (drop at xs)) in take len (new ++ drop (length new) xs)

back_is : {X : Type 0} (len at : ℕ) (xs ys : List X) → len ≡ length xs → at ≤ len → back len at xs ys ≡ written_over xs at ys
back_is {X} len at xs ys is le =
    let new : List X = take at xs ++ (ys ++ drop (length ys) (drop at xs)) in
    let front = length-take-le at xs (omega (arith, is, le)) in
    let left = length-drop at xs in
    let behind = length-drop (length ys) (drop at xs) in
    let most : len ≤ length new
    = omega (arith, is, front, left, behind, length-append (take at xs) (ys ++ drop (length ys) (drop at xs)), length-append ys (drop (length ys) (drop at xs))) in
    take-append-le len new (drop (length new) xs) most ∙ ap (λ k. take k new) is

-- ---- positions in a row store

-- a position of its rows, and where its cells begin and end
pub record Stands (w n i : ℕ) (cells : List Value) (rows : List (List Value)) : Type 0 where
  pub within : i < n
  pub end : i * w + w ≤ length cells
  pub row : take w (drop (i * w) cells) ≡ slice_index_or rows i []
  pub long : length (slice_index_or rows i []) ≡ w

pub stands : (w n i : ℕ) (cells : List Value) (rows : List (List Value)) → rows_along w n cells ≡ rows → length cells ≡ n * w → i < length rows → Stands w n i cells rows
stands w n i cells rows view long lt =
    let within : i < n = omega (arith, lt, ap length (sym view), length-along w n cells) in
    let end : i * w + w ≤ length cells = omega (arith, long, ends_within w n i within) in
    let row = sym (row_there w n i cells within) ∙ ap (λ l. slice_index_or l i []) view in
    let left = length-drop (i * w) cells in
    record {
      within = within;
      end = end;
      row = row;
      long = ap length (sym row) ∙ length-take-le w (drop (i * w) cells) (omega (arith, end, left));
    }

-- a row after its borrow ends
pub row_lent : (w n i len : ℕ) (cells row : List Value) (rows : List (List Value)) → rows_along w n cells ≡ rows → length cells ≡ n * w → len ≡ length cells → i < length rows
    → rows_along w n (back len (i * w) cells row) ≡ with_row rows i row
row_lent w n i len cells row rows view long is lt =
    let it = stands w n i cells rows view long lt in
    ap (rows_along w n) (back_is len (i * w) cells row is (omega (arith, it.end, is)))
    ∙ sym (with_row_is w n i cells row long it.within)
    ∙ ap (λ l. with_row l i row) view

pub row_back : (w n i : ℕ) (cells row : List Value) (rows : List (List Value)) → rows_along w n cells ≡ rows → length cells ≡ n * w → i < length rows → length row ≡ w
    → with_row rows i row ≡ slice_set rows i row
row_back w n i cells row rows view long lt wide =
    let it = stands w n i cells rows view long lt in
    subst (λ l. with_row l i row ≡ slice_set l i row) view (with_row_is w n i cells row long it.within ∙ over_row w n i cells row long it.within wide)

-- ---- a row appended to those of a row store

-- one cell of it
pub cell_behind : (front row old new : List Value) (i : ℕ) (cell : Value) → i < length row → old ≡ front ++ take i row → new ≡ old ++ cell ∷ [] → cell ≡ slice_index_or row i Null
    → new ≡ front ++ take (i + 1) row
cell_behind front row old new i cell lt before behind is =
    behind
    ∙ (λ z. before z ++ is z ∷ [])
    ∙ append_assoc front (take i row) (slice_index_or row i Null ∷ [])
    ∙ ap (λ l. front ++ l) (sym (take_more row i Null lt))

-- a row store that has rows has their width
as_wide : (w n : ℕ) (cells row : List Value) (rows : List (List Value)) → rows_along w n cells ≡ rows → length cells ≡ n * w → All (λ (other : List Value). length other ≡ length row) rows → 0 < n → w ≡ length row
as_wide w n cells row rows view long even some =
    let lt : 0 < length rows = omega (arith, some, ap length (sym view), length-along w n cells) in
    sym (stands w n 0 cells rows view long lt).long ∙ even 0 [] lt

pub row_behind : (w n next wide : ℕ) (cells row new : List Value) (rows : List (List Value)) → rows_along w n cells ≡ rows → length cells ≡ n * w
    → All (λ (other : List Value). length other ≡ length row) rows → next ≡ n + 1 → wide ≡ length row → new ≡ cells ++ row
    → (length new ≡ next * wide) × (rows_along wide next new ≡ rows ++ row ∷ [])
row_behind w zero next wide cells row new rows view long even is same whole =
    let none : cells ≡ [] = nil_from_length cells (omega (arith, long)) in
    let first : new ≡ row = whole ∙ ap (λ l. l ++ row) none in
    let one : next ≡ 1 = omega (arith, is) in
    let empty : rows ≡ [] = nil_from_length rows (ap length (sym view) ∙ length-along w 0 cells) in
    let alike : 1 * wide ≡ wide = omega arith in (
      ap length first ∙ sym same ∙ sym alike ∙ ap (λ k. k * wide) (sym one),
      (λ z. rows_along (same z) (one z) (first z)) ∙ along_alone row ∙ ap (λ l. l ++ row ∷ []) (sym empty),
    )
row_behind w (suc n) next wide cells row new rows view long even is same whole =
    let fits : wide ≡ w = same ∙ sym (as_wide w (suc n) cells row rows view long even (omega arith)) in
    let here : length row ≡ w = sym same ∙ fits in
    let both = length-append cells row in (
      ap length whole ∙ both ∙ (let sum : length cells + length row ≡ (suc n + 1) * w = omega (arith, long, here) in sum ∙ (λ z. sym is z * sym fits z)),
      (λ z. rows_along (fits z) (is z) (whole z)) ∙ along_behind w (suc n) 1 cells row long ∙ (λ z. view z ++ alone w row here z),
    )

-- ---- rows left out

pub first_rows : (w n m : ℕ) (cells : List Value) (rows : List (List Value)) → rows_along w n cells ≡ rows → length cells ≡ n * w → m ≤ n
    → rows_along w m (take (m * w) cells) ≡ take m rows
first_rows w n m cells rows view long le =
    let front = take (m * w) cells in
    let back = drop (m * w) cells in
    let size : length front ≡ m * w = length-take-le (m * w) cells (omega (arith, long, begins_before w n m le)) in
    let rest : n ≡ m + (n - m) = omega (arith, le) in
    sym (ap (take m) (sym view ∙ (λ z. rows_along w (rest z) (sym (take-append-drop (m * w) cells) z)) ∙ along_behind w m (n - m) front back size)
    ∙ take_at (rows_along w m front) (rows_along w (n - m) back) m (length-along w m front))

-- the last row in another's place
swapped : {X : Type 0} (xs : List X) (y d : X) (i : ℕ) → i < length xs → swap_remove (xs ++ y ∷ []) i d ≡ slice_set xs i y
swapped xs y d i lt =
    let size : length (xs ++ y ∷ []) - 1 ≡ length xs = omega (arith, length-append xs (y ∷ [])) in
    ap (λ k. take k (slice_set (xs ++ y ∷ []) i (slice_index_or (xs ++ y ∷ []) k d))) size
    ∙ ap (λ x. take (length xs) (slice_set (xs ++ y ∷ []) i x)) (get_or_at xs y [] d (length xs) refl)
    ∙ ap (take (length xs)) (set-append_left xs (y ∷ []) i y lt)
    ∙ take_at (slice_set xs i y) (y ∷ []) (length xs) (length-set xs i y)

-- where it is the last itself
last_out : {X : Type 0} (xs : List X) (y d : X) (i : ℕ) → length xs ≤ i → swap_remove (xs ++ y ∷ []) i d ≡ xs
last_out xs y d i le =
    let size : length (xs ++ y ∷ []) - 1 ≡ length xs = omega (arith, length-append xs (y ∷ [])) in
    ap (λ k. take k (slice_set (xs ++ y ∷ []) i (slice_index_or (xs ++ y ∷ []) k d))) size
    ∙ take-set-le (length xs) (xs ++ y ∷ []) i (slice_index_or (xs ++ y ∷ []) (length xs) d) le
    ∙ take_at xs (y ∷ []) (length xs) refl

module _ (w n last i : ℕ) (cells : List Value) (rows : List (List Value)) (view : rows_along w n cells ≡ rows) (long : length cells ≡ n * w) (is : last ≡ n - 1) (lt : i < length rows) where
  size : i < n
  size = (stands w n i cells rows view long lt).within

  all : n ≡ last + 1
  all = let some = size in omega (arith, some, is)

  last_begins : last * w + w ≡ length cells
  last_begins = let count = all in omega (arith, long, ap (λ k. k * w) count)

  front : length (take (last * w) cells) ≡ last * w
  front = length-take-le (last * w) cells (omega (arith, last_begins))

  last_long : length (drop (last * w) cells) ≡ w
  last_long = let rest = length-drop (last * w) cells in omega (arith, rest, last_begins)

  ends : rows ≡ rows_along w last (take (last * w) cells) ++ drop (last * w) cells ∷ []
  ends =
      sym view
      ∙ (λ z. rows_along w (all z) (sym (take-append-drop (last * w) cells) z))
      ∙ along_behind w last 1 (take (last * w) cells) (drop (last * w) cells) front
      ∙ ap (λ l. rows_along w last (take (last * w) cells) ++ l) (alone w (drop (last * w) cells) last_long)

  pub last_removed : last ≤ i → rows_along w last (take (last * w) cells) ≡ swap_remove rows i (slice_index_or rows i [])
  last_removed le =
      let count = length-along w last (take (last * w) cells) in
      sym (ap (λ l. swap_remove l i (slice_index_or rows i [])) ends
      ∙ last_out (rows_along w last (take (last * w) cells)) (drop (last * w) cells) (slice_index_or rows i []) i (omega (arith, le, count)))

  pub other_removed : (now : List Value) → i < last → take (last * w) now ≡ written_over (take (last * w) cells) (i * w) (drop (last * w) cells)
      → rows_along w last (take (last * w) now) ≡ swap_remove rows i (slice_index_or rows i [])
  other_removed now before is =
      let count = length-along w last (take (last * w) cells) in
      ap (rows_along w last) is
      ∙ over_row w last i (take (last * w) cells) (drop (last * w) cells) front before last_long
      ∙ sym (ap (λ l. swap_remove l i (slice_index_or rows i [])) ends
      ∙ swapped (rows_along w last (take (last * w) cells)) (drop (last * w) cells) (slice_index_or rows i []) i (omega (arith, before, count)))
