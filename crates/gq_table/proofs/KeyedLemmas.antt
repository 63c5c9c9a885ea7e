-- Rows that are put by their keys and found by an index of them: each replaces the row of its key, or is added at the end.
use Rattle.std.proofs.Common.{◌≡◌, ℕ, zero, suc, ◌+◌, ◌-◌, ◌<◌, Bool, true, false, cond, not, ◌||◌, List, [], ◌∷◌, ◌++◌, length, map, refl, sym, ap, ◌∙◌, arith, IsPermutation, true≢false, take, swap_remove, zero-add, count_by, slice_get, Some}
use Rattle.std.specs.Prelude.{slice_set, slice_index_or}
use Rattle.std.specs.List.{list_any}
use Rattle.std.proofs.lemmas.Bool.{not-true, and_parts, or_parts, or_from}
use Rattle.std.proofs.lemmas.List.{length-map}
use Rattle.std.proofs.lemmas.List.Folds.{list_any_at}
use Rattle.std.proofs.lemmas.List.Sums.{sum_by-cons, sum_by-swap_remove}
use Rattle.std.proofs.lemmas.Option.{same_Some}
use Rattle.sw_index.specs.Index.{HasNone, IsFound}
use Rattle.sw_index.specs.declared.found.Found.TheVariants.{At}
use Rattle.gq_row.specs.declared.value.Value.{Value}
use Rattle.gq_row.specs.Order.{same_key}
use Rattle.gq_row.specs.Repeats.{no_repeats}
use Rattle.gq_row.specs.Rows.{key_of}
use Rattle.gq_row.specs.Tables.{put_by_key, delete, has_row}
use Rattle.gq_row.specs.Classes.{class_of}
use Rattle.gq_row.proofs.ClassLemmas.{class_tells}
use Rattle.gq_row.proofs.DistinctLemmas.{one}
use Rattle.gq_row.proofs.MovedLemmas.{IsPermutation-from_counts}
use Rattle.gq_row.proofs.OrderLemmas.{same_key_exact, same_key_equiv, same_key_itself}
use Rattle.gq_table.specs.Refusing.{rows_with}

abbrev Row : Type 0
Row = List Value

-- ---- a list's elements under a function

pub map-set : {X Y : Type 0} (f : X → Y) (xs : List X) (i : ℕ) (x : X) → map f (slice_set xs i x) ≡ slice_set (map f xs) i (f x)
map-set f [] i x = refl
map-set f (y ∷ xs) zero x = refl
map-set f (y ∷ xs) (suc i) x = ap (λ l. f y ∷ l) (map-set f xs i x)

pub map-at : {X Y : Type 0} (f : X → Y) (xs : List X) (i : ℕ) (d : X) → f (slice_index_or xs i d) ≡ slice_index_or (map f xs) i (f d)
map-at f [] i d = refl
map-at f (x ∷ xs) zero d = refl
map-at f (x ∷ xs) (suc i) d = map-at f xs i d

-- an element may be written to its own place again
pub set_again : {X Y : Type 0} (f : X → Y) (xs : List X) (i : ℕ) (x d : X) → f (slice_index_or xs i d) ≡ f x → map f (slice_set xs i x) ≡ map f xs
set_again f [] i x d e = refl
set_again f (y ∷ xs) zero x d e = ap (λ z. z ∷ map f xs) (sym e)
set_again f (y ∷ xs) (suc i) x d e = ap (λ l. f y ∷ l) (set_again f xs i x d e)

pub any_at_none : {X : Type 0} (p : X → Bool) (xs : List X) (i : ℕ) (d : X) → i < length xs → list_any p xs ≡ false → p (slice_index_or xs i d) ≡ false
any_at_none p xs i d within none = told (p (slice_index_or xs i d)) refl
  where
    told : (b : Bool) → p (slice_index_or xs i d) ≡ b → b ≡ false
    told true e = absurd (true≢false (sym (list_any_at p xs i d within e) ∙ none))
    told false e = refl

pub mapped_any : {X Y : Type 0} (f : X → Y) (p : Y → Bool) (xs : List X) → list_any p (map f xs) ≡ list_any (λ x. p (f x)) xs
mapped_any f p [] = refl
mapped_any f p (x ∷ xs) = ap (λ b. p (f x) || b) (mapped_any f p xs)

module _ (key : List ℕ) where
  abbrev keys : List Row → List (List Value)
  keys rows = map (key_of key) rows

  -- ---- one row

  -- the row that has the key gives its place
  pub put_at : (rows : List Row) (row : Row) (n : ℕ) → n < length rows → key_of key (slice_index_or rows n []) ≡ key_of key row → no_repeats same_key (keys rows) ≡ true
      → put_by_key key rows row ≡ slice_set rows n row
  put_at [] row n within e differ = absurd (omega arith)
  put_at (old ∷ rows) row zero within e differ =
      ap (λ b. cond b (row ∷ rows) (old ∷ put_by_key key rows row)) (ap (λ k. same_key k (key_of key row)) e ∙ same_key_itself (key_of key row))
  put_at (old ∷ rows) row (suc n) within e differ =
      let parts = and_parts (not (list_any (same_key (key_of key old)) (keys rows))) (no_repeats same_key (keys rows)) differ in
      let other = any_at_none (λ r. same_key (key_of key old) (key_of key r)) rows n [] (omega arith) (sym (mapped_any (key_of key) (same_key (key_of key old)) rows) ∙ not-true _ parts.0) in
      ap (λ b. cond b (row ∷ rows) (old ∷ put_by_key key rows row)) (ap (same_key (key_of key old)) (sym e) ∙ other)
      ∙ ap (λ l. old ∷ l) (put_at rows row n (omega arith) e parts.1)

  -- if none has it, it is added at the end
  pub put_new : (rows : List Row) (row : Row) → has_row key rows (key_of key row) ≡ false → put_by_key key rows row ≡ rows ++ row ∷ []
  put_new [] row none = refl
  put_new (old ∷ rows) row none =
      let parts = or_parts (same_key (key_of key old) (key_of key row)) (has_row key rows (key_of key row)) none in
      ap (λ b. cond b (row ∷ rows) (old ∷ put_by_key key rows row)) parts.0 ∙ ap (λ l. old ∷ l) (put_new rows row parts.1)

  -- where one of the first rows has it, the others stay
  pub put_among : (rows more : List Row) (row : Row) → has_row key rows (key_of key row) ≡ true → put_by_key key (rows ++ more) row ≡ put_by_key key rows row ++ more
  put_among [] more row has = absurd (true≢false (sym has))
  put_among (old ∷ rows) more row has = step (same_key (key_of key old) (key_of key row)) (put_among rows more row) has
    where
      step : (b : Bool) → (has_row key rows (key_of key row) ≡ true → put_by_key key (rows ++ more) row ≡ put_by_key key rows row ++ more)
          → (b || has_row key rows (key_of key row)) ≡ true
          → cond b (row ∷ (rows ++ more)) (old ∷ put_by_key key (rows ++ more) row) ≡ cond b (row ∷ rows) (old ∷ put_by_key key rows row) ++ more
      step true again h = refl
      step false again h = ap (λ l. old ∷ l) (again h)

  pub has_at : (rows : List Row) (k : List Value) (n : ℕ) → n < length rows → key_of key (slice_index_or rows n []) ≡ k → has_row key rows k ≡ true
  has_at rows k n within e = list_any_at (λ r. same_key (key_of key r) k) rows n [] within (ap (λ l. same_key l k) e ∙ same_key_itself k)

  pub length-keys : (rows : List Row) → length rows ≡ length (keys rows)
  length-keys [] = refl
  length-keys (row ∷ rows) = ap suc (length-keys rows)

  -- rows with the same keys, one by one, have the same key at each place
  pub key_there : (rows others : List Row) (i : ℕ) → keys rows ≡ keys others → key_of key (slice_index_or rows i []) ≡ key_of key (slice_index_or others i [])
  key_there rows others i same = map-at (key_of key) rows i [] ∙ ap (λ ks. slice_index_or ks i (key_of key [])) same ∙ sym (map-at (key_of key) others i [])

  -- the list of keys determines which keys there are
  pub has_keys : (rows : List Row) (k : List Value) → has_row key rows k ≡ list_any (λ l. same_key l k) (keys rows)
  has_keys rows k = sym (mapped_any (key_of key) (λ l. same_key l k) rows)

-- ---- what an index of the keys implies

pub read_at : {X Y : Type 0} (f : X → Y) (xs : List X) (i : ℕ) (y : Y) (d : X) → slice_get (map f xs) i ≡ Some y → (i < length xs) × (f (slice_index_or xs i d) ≡ y)
read_at f [] i y d e = let none : ⊥ = cc in absurd none
read_at f (x ∷ xs) zero y d e = (omega arith, same_Some (f x) y e)
read_at f (x ∷ xs) (suc i) y d e = (let rest = read_at f xs i y d e in ((let within = rest.0 in omega arith), rest.1))

module _ (key : List ℕ) (rows : List Row) where
  -- a number that was found is that of the row that has the key
  pub found_there : (ks : List (List Value)) (k : List Value) (n : ℕ) → ks ≡ map (key_of key) rows → IsFound class_of ks (class_of k) (At n)
      → (n < length rows) × (key_of key (slice_index_or rows n []) ≡ k)
  found_there ks k n own found =
      let there = read_at (key_of key) rows n found.0 [] (sym (ap (λ l. slice_get l n) own) ∙ found.1) in
      (there.0, there.1 ∙ class_tells found.0 k found.2)

  -- the key of a number is that of the row there
  pub key_of_number : (ks : List (List Value)) (n : ℕ) (k : List Value) → ks ≡ map (key_of key) rows → slice_get ks n ≡ Some k → key_of key (slice_index_or rows n []) ≡ k
  key_of_number ks n k own is = (read_at (key_of key) rows n k [] (sym (ap (λ l. slice_get l n) own) ∙ is)).1

  -- no row has a key that is absent
  pub lacks_absent : (ks : List (List Value)) (k : List Value) → ks ≡ map (key_of key) rows → HasNone class_of ks (class_of k) → has_row key rows k ≡ false
  lacks_absent ks k own none = has_keys key rows k ∙ none_among (map (key_of key) rows) (λ i l e. none i l (ap (λ x. slice_get x i) own ∙ e))
    where
      none_among : (ls : List (List Value)) → HasNone class_of ls (class_of k) → list_any (λ l. same_key l k) ls ≡ false
      none_among [] h = refl
      none_among (l ∷ ls) h = or_from _ _ (told (same_key l k) refl) (none_among ls (λ i m e. h (suc i) m e))
        where
          told : (b : Bool) → same_key l k ≡ b → b ≡ false
          told true e = absurd (h 0 l refl (ap class_of (same_key_exact l k e)))
          told false e = refl

  -- and a key that no row has is absent
  pub absent_lacked : (ks : List (List Value)) (k : List Value) → ks ≡ map (key_of key) rows → has_row key rows k ≡ false → HasNone class_of ks (class_of k)
  absent_lacked ks k own none i l e same =
      let there = read_at (key_of key) rows i l [] (sym (ap (λ x. slice_get x i) own) ∙ e) in
      true≢false (sym (has_at key rows k i there.0 (there.1 ∙ class_tells l k same)) ∙ none)

-- ---- a row that goes

index_or_again : {X : Type 0} (xs : List X) (i : ℕ) (d : X) → slice_index_or xs i (slice_index_or xs i d) ≡ slice_index_or xs i d
index_or_again [] i d = refl
index_or_again (x ∷ xs) zero d = refl
index_or_again (x ∷ xs) (suc i) d = index_or_again xs i d

module _ (key : List ℕ) where
  -- where no row has the key none goes
  pub delete_absent : (rows : List Row) (k : List Value) → has_row key rows k ≡ false → delete key rows k ≡ rows
  delete_absent [] k none = refl
  delete_absent (row ∷ rows) k none =
      let parts = or_parts (same_key (key_of key row) k) (has_row key rows k) none in
      ap (λ b. cond (not b) (row ∷ delete key rows k) (delete key rows k)) parts.0 ∙ ap (λ l. row ∷ l) (delete_absent rows k parts.1)

  delete_counted : (z : Row) (rows : List Row) (k : List Value) (n : ℕ) → n < length rows → key_of key (slice_index_or rows n []) ≡ k → no_repeats same_key (map (key_of key) rows) ≡ true
      → count_by (same_key z) (delete key rows k) + one (same_key z (slice_index_or rows n [])) ≡ count_by (same_key z) rows
  delete_counted z [] k n within e apart = absurd (omega arith)
  delete_counted z (row ∷ rows) k zero within e apart =
      let parts = and_parts (not (list_any (same_key (key_of key row)) (map (key_of key) rows))) (no_repeats same_key (map (key_of key) rows)) apart in
      let gone : has_row key rows k ≡ false = has_keys key rows k ∙ ap (λ l. list_any (λ m. same_key m l) (map (key_of key) rows)) (sym e) ∙ flipped (key_of key row) (map (key_of key) rows) (not-true _ parts.0) in
      let left : delete key (row ∷ rows) k ≡ rows = ap (λ b. cond (not b) (row ∷ delete key rows k) (delete key rows k)) (ap (λ l. same_key l k) e ∙ same_key_itself k) ∙ delete_absent rows k gone in
      let whole = sum_by-cons (λ y. one (same_key z y)) row rows in
      let rest = ap (count_by (same_key z)) left in
      omega arith
    where
      flipped : (l : List Value) (ls : List (List Value)) → list_any (same_key l) ls ≡ false → list_any (λ m. same_key m l) ls ≡ false
      flipped l [] h = refl
      flipped l (m ∷ ls) h =
          let parts = or_parts (same_key l m) (list_any (same_key l) ls) h in
          or_from _ _ ((same_key_equiv).symm m l ∙ parts.0) (flipped l ls parts.1)
  delete_counted z (row ∷ rows) k (suc n) within e apart =
      let parts = and_parts (not (list_any (same_key (key_of key row)) (map (key_of key) rows))) (no_repeats same_key (map (key_of key) rows)) apart in
      let other = any_at_none (λ r. same_key (key_of key row) (key_of key r)) rows n [] (omega arith) (sym (mapped_any (key_of key) (same_key (key_of key row)) rows) ∙ not-true _ parts.0) in
      let left : delete key (row ∷ rows) k ≡ row ∷ delete key rows k = ap (λ b. cond (not b) (row ∷ delete key rows k) (delete key rows k)) (ap (same_key (key_of key row)) (sym e) ∙ other) in
      let again = delete_counted z rows k n (omega arith) e parts.1 in
      let whole = sum_by-cons (λ y. one (same_key z y)) row rows in
      let rest = ap (count_by (same_key z)) left ∙ sum_by-cons (λ y. one (same_key z y)) row (delete key rows k) in
      omega arith

  -- the row of the key, in whose place the last one goes
  pub deleted_there : (rows : List Row) (k : List Value) (n : ℕ) → n < length rows → key_of key (slice_index_or rows n []) ≡ k → no_repeats same_key (map (key_of key) rows) ≡ true
      → IsPermutation (delete key rows k) (swap_remove rows n (slice_index_or rows n []))
  deleted_there rows k n within e apart =
      IsPermutation-from_counts same_key_equiv same_key_exact _ _ (λ z.
      let here = delete_counted z rows k n within e apart in
      let there = sum_by-swap_remove (λ y. one (same_key z y)) rows n (slice_index_or rows n []) within in
      let same = ap (λ y. one (same_key z y)) (index_or_again rows n []) in
      omega arith)

pub map-take : {X Y : Type 0} (f : X → Y) (n : ℕ) (xs : List X) → map f (take n xs) ≡ take n (map f xs)
map-take f zero xs = refl
map-take f (suc n) [] = refl
map-take f (suc n) (x ∷ xs) = ap (λ l. f x ∷ l) (map-take f n xs)

map-read : {X Y : Type 0} (f : X → Y) (xs : List X) (i : ℕ) (x d : X) → i < length xs → f (slice_index_or xs i x) ≡ slice_index_or (map f xs) i (f d)
map-read f [] i x d within = absurd (omega arith)
map-read f (y ∷ xs) zero x d within = refl
map-read f (y ∷ xs) (suc i) x d within = map-read f xs i x d (omega arith)

pub read_mapped : {X Y : Type 0} (f : X → Y) (xs : List X) (i : ℕ) (x : X) (e : Y) → i < length xs → slice_index_or (map f xs) i e ≡ f (slice_index_or xs i x)
read_mapped f [] i x e within = absurd (omega arith)
read_mapped f (y ∷ xs) zero x e within = refl
read_mapped f (y ∷ xs) (suc i) x e within = read_mapped f xs i x e (omega arith)

-- the keys follow the rows
pub swap_remove_keys : {X Y : Type 0} (f : X → Y) (xs : List X) (i : ℕ) (x d : X) → i < length xs → map f (swap_remove xs i x) ≡ swap_remove (map f xs) i (f d)
swap_remove_keys f [] i x d within = absurd (omega arith)
swap_remove_keys f (y ∷ xs) i x d within =
    let long : length (map f (y ∷ xs)) ≡ length (y ∷ xs) = length-map (y ∷ xs) f in
    map-take f (length (y ∷ xs) - 1) (slice_set (y ∷ xs) i (slice_index_or (y ∷ xs) (length (y ∷ xs) - 1) x))
    ∙ ap (take (length (y ∷ xs) - 1)) (map-set f (y ∷ xs) i (slice_index_or (y ∷ xs) (length (y ∷ xs) - 1) x) ∙ ap (slice_set (map f (y ∷ xs)) i) (map-read f (y ∷ xs) (length (y ∷ xs) - 1) x d (omega arith)))
    ∙ ap (λ n. take (n - 1) (slice_set (map f (y ∷ xs)) i (slice_index_or (map f (y ∷ xs)) (n - 1) (f d)))) (sym long)

-- ---- rows by how often each occurs

module _ (key : List ℕ) where
  -- how often a row occurs among those of other keys
  pub count_deleted : (rows : List (List Value)) (k z : List Value) → count_by (same_key z) (delete key rows k) ≡ cond (same_key (key_of key z) k) 0 (count_by (same_key z) rows)
  count_deleted [] k z = nothing (same_key (key_of key z) k)
    where
      nothing : (b : Bool) → count_by (same_key z) [] ≡ cond b 0 (count_by (same_key z) [])
      nothing true = refl
      nothing false = refl
  count_deleted (row ∷ rows) k z =
      step (same_key (key_of key row) k) (same_key z row) (same_key (key_of key z) k) refl refl refl
      (sum_by-cons (λ y. one (same_key z y)) row rows) (sum_by-cons (λ y. one (same_key z y)) row (delete key rows k)) (count_deleted rows k z)
    where
      step : (a b c : Bool) → same_key (key_of key row) k ≡ a → same_key z row ≡ b → same_key (key_of key z) k ≡ c
          → count_by (same_key z) (row ∷ rows) ≡ one (same_key z row) + count_by (same_key z) rows
          → count_by (same_key z) (row ∷ delete key rows k) ≡ one (same_key z row) + count_by (same_key z) (delete key rows k)
          → count_by (same_key z) (delete key rows k) ≡ cond c 0 (count_by (same_key z) rows)
          → count_by (same_key z) (cond (not a) (row ∷ delete key rows k) (delete key rows k)) ≡ cond c 0 (count_by (same_key z) (row ∷ rows))
      step true b true x y w left right rest = rest
      step true true false x y w left right rest = absurd (true≢false (sym x ∙ ap (λ r. same_key (key_of key r) k) (sym (same_key_exact z row y)) ∙ w))
      step true false false x y w left right rest = rest ∙ sym (left ∙ ap (λ t. one t + count_by (same_key z) rows) y ∙ zero-add (count_by (same_key z) rows))
      step false true true x y w left right rest = absurd (true≢false (sym w ∙ ap (λ r. same_key (key_of key r) k) (same_key_exact z row y) ∙ x))
      step false false true x y w left right rest = right ∙ ap (λ t. one t + count_by (same_key z) (delete key rows k)) y ∙ zero-add (count_by (same_key z) (delete key rows k)) ∙ rest
      step false b false x y w left right rest = right ∙ ap (λ n. one (same_key z row) + n) rest ∙ sym left

-- ---- how many rows there are

pub rows_with_one : (key : List ℕ) (rows : List (List Value)) (row : List Value) → has_row key rows (key_of key row) ≡ true → rows_with key rows row ≡ length rows
rows_with_one key rows row h = ap (λ b. cond b (length rows) (length rows + 1)) h

pub rows_with_more : (key : List ℕ) (rows : List (List Value)) (row : List Value) → has_row key rows (key_of key row) ≡ false → rows_with key rows row ≡ length rows + 1
rows_with_more key rows row h = ap (λ b. cond b (length rows) (length rows + 1)) h

-- ---- which keys there are

pub has_row-put : (key : List ℕ) (rows : List (List Value)) (row k : List Value) → has_row key (put_by_key key rows row) k ≡ (same_key (key_of key row) k || has_row key rows k)
has_row-put key [] row k = refl
has_row-put key (old ∷ rows) row k = step (same_key (key_of key old) (key_of key row)) refl (has_row-put key rows row k)
  where
    swapped : (a b c : Bool) → (a || (b || c)) ≡ (b || (a || c))
    swapped true true c = refl
    swapped true false c = refl
    swapped false true c = refl
    swapped false false c = refl

    twice : (a c : Bool) → (a || c) ≡ (a || (a || c))
    twice true c = refl
    twice false c = refl

    step : (b : Bool) → same_key (key_of key old) (key_of key row) ≡ b → has_row key (put_by_key key rows row) k ≡ (same_key (key_of key row) k || has_row key rows k)
        → has_row key (cond b (row ∷ rows) (old ∷ put_by_key key rows row)) k ≡ (same_key (key_of key row) k || (same_key (key_of key old) k || has_row key rows k))
    step true e h =
        twice (same_key (key_of key row) k) (has_row key rows k)
        ∙ ap (λ l. same_key (key_of key row) k || (same_key l k || has_row key rows k)) (sym (same_key_exact (key_of key old) (key_of key row) e))
    step false e h = ap (λ b. same_key (key_of key old) k || b) h ∙ swapped (same_key (key_of key old) k) (same_key (key_of key row) k) (has_row key rows k)
