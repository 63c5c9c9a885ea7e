-- What is true of each table stays true after a put, a load and a delete.
use Rattle.std.proofs.Common.{◌≡◌, ℕ, suc, ◌+◌, ◌<◌, ◌≤◌, Bool, true, false, cond, not, ◌&&◌, ◌||◌, IsTrue, List, [], ◌∷◌, ◌++◌, length, map, filter, refl, sym, ap, ◌∙◌, arith, All, IsPermutation}
use Rattle.std.specs.Prelude.{nat_lt, nat_le}
use Rattle.std.specs.List.{list_all, list_any}
use Rattle.std.proofs.lemmas.Bool.{ltb-true, leb-true, not-true, or_parts, or_from}
use Rattle.std.proofs.lemmas.List.Elements.{All-cons, All-nil}
use Rattle.std.proofs.lemmas.List.Sorted.{length_permutation, list_any-IsPermutation}
use Rattle.gq_row.specs.declared.value.Value.{Value}
use Rattle.gq_row.specs.declared.schema.Column.{Column}
use Rattle.gq_row.specs.declared.limits.Bounds.{Bounds}
use Rattle.gq_row.specs.Fitting.{fits_columns, goes_in}
use Rattle.gq_row.specs.Schemas.{PlainSchema, is_schema}
use Rattle.gq_row.specs.Limits.{GREATEST, within_greatest, from_one}
use Rattle.gq_row.specs.Order.{same_key}
use Rattle.gq_row.specs.Repeats.{no_repeats}
use Rattle.gq_row.specs.Rows.{key_of}
use Rattle.gq_row.specs.Tables.{PlainTable, put, put_by_key, put_all, delete, has_row, keys_differ}
use Rattle.gq_row.proofs.MovedLemmas.{keys_differ-permutation}
use Rattle.gq_row.proofs.TableLemmas.{keys_differ-put}
use Rattle.gq_table.specs.Refusing.{rows_with}
use Rattle.gq_table.specs.ValidTables.{IsValidTable}

abbrev pub table : PlainSchema → List (List Value) → PlainTable
table h rows = record { schema = h; rows = rows }

pub two : (a b : Bool) → (a && b) ≡ true → (a ≡ true) × (b ≡ true)
two true b h = (refl, h)
two false b h = let none : ⊥ = cc in absurd none

pub both : (a b : Bool) → a ≡ true → b ≡ true → (a && b) ≡ true
both true b h k = k
both false b h k = h

-- ---- each row still passes a test that the new ones pass
module _ (p : List Value → Bool) where
  all_put_by_key : (key : List ℕ) (rows : List (List Value)) (row : List Value) → list_all p rows ≡ true → p row ≡ true → list_all p (put_by_key key rows row) ≡ true
  all_put_by_key key [] row h k = both _ _ k refl
  all_put_by_key key (old ∷ rows) row h k = chosen (same_key (key_of key old) (key_of key row)) (all_put_by_key key rows row (two _ _ h).1 k)
    where
      chosen : (b : Bool) → list_all p (put_by_key key rows row) ≡ true → list_all p (cond b (row ∷ rows) (old ∷ put_by_key key rows row)) ≡ true
      chosen true rest = both _ _ k (two _ _ h).1
      chosen false rest = both _ _ (two _ _ h).0 rest

  all_push : (rows : List (List Value)) (row : List Value) → list_all p rows ≡ true → p row ≡ true → list_all p (rows ++ row ∷ []) ≡ true
  all_push [] row h k = both _ _ k refl
  all_push (old ∷ rows) row h k = both _ _ (two _ _ h).0 (all_push rows row (two _ _ h).1 k)

  all_put : (key : List ℕ) (rows : List (List Value)) (row : List Value) → list_all p rows ≡ true → p row ≡ true → list_all p (put key rows row) ≡ true
  all_put [] rows row h k = all_push rows row h k
  all_put (column ∷ columns) rows row h k = all_put_by_key (column ∷ columns) rows row h k

  all_put_all : (key : List ℕ) (rows new : List (List Value)) → list_all p rows ≡ true → list_all p new ≡ true → list_all p (put_all key rows new) ≡ true
  all_put_all key rows [] h k = h
  all_put_all key rows (row ∷ new) h k = all_put_all key (put key rows row) new (all_put key rows row h (two _ _ k).0) (two _ _ k).1

keys_differ-put_all : (key : List ℕ) (rows new : List (List Value)) → IsTrue (keys_differ key rows) → IsTrue (keys_differ key (put_all key rows new))
keys_differ-put_all key rows [] h = h
keys_differ-put_all key rows (row ∷ new) h = keys_differ-put_all key (put key rows row) new (keys_differ-put key rows row h)

-- ---- how many rows there are

pub length-put_by_key : (key : List ℕ) (rows : List (List Value)) (row : List Value) → length (put_by_key key rows row) ≡ rows_with key rows row
length-put_by_key key [] row = refl
length-put_by_key key (old ∷ rows) row = step (same_key (key_of key old) (key_of key row)) (has_row key rows (key_of key row)) (length-put_by_key key rows row)
  where
    step : (b c : Bool) → length (put_by_key key rows row) ≡ cond c (length rows) (length rows + 1)
        → length (cond b (row ∷ rows) (old ∷ put_by_key key rows row)) ≡ cond (b || c) (length (old ∷ rows)) (length (old ∷ rows) + 1)
    step true c h = refl
    step false true h = omega arith
    step false false h = omega arith

pub length-put : (key : List ℕ) (rows : List (List Value)) (row : List Value) → 0 < length key → length (put key rows row) ≡ rows_with key rows row
length-put [] rows row some = absurd (omega arith)
length-put (column ∷ columns) rows row some = length-put_by_key (column ∷ columns) rows row

eighth : (a b c d e f g h i : Bool) → (a && (b && (c && (d && (e && (f && (g && (h && i)))))))) ≡ true → h ≡ true
eighth a b c d e f g h i k = (two h i (two g (h && i) (two f (g && (h && i)) (two e (f && (g && (h && i))) (two d (e && (f && (g && (h && i)))) (two c (d && (e && (f && (g && (h && i))))) (two b (c && (d && (e && (f && (g && (h && i)))))) (two a (b && (c && (d && (e && (f && (g && (h && i))))))) k).1).1).1).1).1).1).1).0

-- the limit on rows is at most its greatest value
pub rows_limit : (bounds : Bounds) → IsTrue (within_greatest bounds) → bounds.rows ≤ 16777216
rows_limit b h =
    leb-true b.rows 16777216 (two (nat_lt 0 b.rows) (nat_le b.rows 16777216)
    (eighth (from_one b.tables 64) (from_one b.columns GREATEST.columns) (from_one b.aggregates GREATEST.aggregates) (from_one b.name 63) (from_one b.text 65535) (from_one b.line 65536) (from_one b.payload 268435456) (from_one b.rows 16777216) (from_one b.script 1099511627776) h)).1

-- ---- what holds of a list holds of it in another order

all_not_any : {X : Type 0} (p : X → Bool) (xs : List X) → list_all p xs ≡ not (list_any (λ x. not (p x)) xs)
all_not_any p [] = refl
all_not_any p (x ∷ xs) = step (p x) (all_not_any p xs)
  where
    step : (b : Bool) → list_all p xs ≡ not (list_any (λ y. not (p y)) xs) → (b && list_all p xs) ≡ not (not b || list_any (λ y. not (p y)) xs)
    step true e = e
    step false e = refl

all_moved : {X : Type 0} (p : X → Bool) (xs ys : List X) → IsPermutation xs ys → list_all p xs ≡ list_all p ys
all_moved p xs ys moved = all_not_any p xs ∙ ap not (list_any-IsPermutation (λ x. not (p x)) xs ys moved) ∙ sym (all_not_any p ys)

pub valid_moved : (h : PlainSchema) (xs ys : List (List Value)) → IsValidTable (table h xs) → IsPermutation xs ys → IsValidTable (table h ys)
valid_moved h xs ys old moved = record {
  schema = old.schema;
  fitting = sym (all_moved (fits_columns h.columns) xs ys moved) ∙ old.fitting;
  keyed = keys_differ-permutation h.key xs ys moved old.keyed;
  few = (let few = old.few in let e = length_permutation xs ys moved in omega arith);
}

-- ---- a put and a load

pub valid_put : (h : PlainSchema) (rows out : List (List Value)) (row : List Value) → IsValidTable (table h rows) → fits_columns h.columns row ≡ true → length (put h.key rows row) ≤ 16777216 → IsPermutation (put h.key rows row) out
    → IsValidTable (table h out)
valid_put h rows out row old fits few moved =
    valid_moved h (put h.key rows row) out (record {
      schema = old.schema;
      fitting = all_put (fits_columns h.columns) h.key rows row old.fitting fits;
      keyed = keys_differ-put h.key rows row old.keyed;
      few = few;
    }) moved

pub valid_loaded : (h : PlainSchema) (rows new out : List (List Value)) → IsValidTable (table h rows) → list_all (fits_columns h.columns) new ≡ true → length (put_all h.key rows new) ≤ 16777216 → IsPermutation (put_all h.key rows new) out
    → IsValidTable (table h out)
valid_loaded h rows new out old fits few moved =
    valid_moved h (put_all h.key rows new) out (record {
      schema = old.schema;
      fitting = all_put_all (fits_columns h.columns) h.key rows new old.fitting fits;
      keyed = keys_differ-put_all h.key rows new old.keyed;
      few = few;
    }) moved

-- ---- a delete

few_deleted : (key : List ℕ) (rows : List (List Value)) (k : List Value) → length (delete key rows k) ≤ length rows
few_deleted key [] k = omega arith
few_deleted key (row ∷ rows) k = step (same_key (key_of key row) k) (few_deleted key rows k)
  where
    step : (b : Bool) → length (delete key rows k) ≤ length rows → length (cond (not b) (row ∷ delete key rows k) (delete key rows k)) ≤ length (row ∷ rows)
    step true h = omega arith
    step false h = omega arith

all_filtered : {X : Type 0} (p q : X → Bool) (xs : List X) → list_all p xs ≡ true → list_all p (filter q xs) ≡ true
all_filtered p q [] h = refl
all_filtered p q (x ∷ xs) h = step (q x) (all_filtered p q xs (two (p x) (list_all p xs) h).1)
  where
    step : (b : Bool) → list_all p (filter q xs) ≡ true → list_all p (cond b (x ∷ filter q xs) (filter q xs)) ≡ true
    step true e = both _ _ (two (p x) (list_all p xs) h).0 e
    step false e = e

-- the rows that are left have different keys
any_filtered : {X : Type 0} (p q : X → Bool) (xs : List X) → list_any p xs ≡ false → list_any p (filter q xs) ≡ false
any_filtered p q [] h = refl
any_filtered p q (x ∷ xs) h =
    let parts = or_parts (p x) (list_any p xs) h in
    step (q x) (any_filtered p q xs parts.1) parts.0
  where
    step : (b : Bool) → list_any p (filter q xs) ≡ false → p x ≡ false → list_any p (cond b (x ∷ filter q xs) (filter q xs)) ≡ false
    step true rest first = or_from (p x) (list_any p (filter q xs)) first rest
    step false rest first = rest

mapped_any : {X Y : Type 0} (f : X → Y) (p : Y → Bool) (xs : List X) → list_any p (map f xs) ≡ list_any (λ x. p (f x)) xs
mapped_any f p [] = refl
mapped_any f p (x ∷ xs) = ap (λ b. p (f x) || b) (mapped_any f p xs)

still_apart : (key : List ℕ) (q : List Value → Bool) (rows : List (List Value)) → no_repeats same_key (map (key_of key) rows) ≡ true → no_repeats same_key (map (key_of key) (filter q rows)) ≡ true
still_apart key q [] h = refl
still_apart key q (row ∷ rows) h =
    let parts = two (not (list_any (same_key (key_of key row)) (map (key_of key) rows))) (no_repeats same_key (map (key_of key) rows)) h in
    step (q row) (still_apart key q rows parts.1) (kept (not-true _ parts.0))
  where
    kept : list_any (same_key (key_of key row)) (map (key_of key) rows) ≡ false → list_any (same_key (key_of key row)) (map (key_of key) (filter q rows)) ≡ false
    kept none =
        mapped_any (key_of key) (same_key (key_of key row)) (filter q rows)
        ∙ any_filtered (λ r. same_key (key_of key row) (key_of key r)) q rows (sym (mapped_any (key_of key) (same_key (key_of key row)) rows) ∙ none)

    step : (b : Bool) → no_repeats same_key (map (key_of key) (filter q rows)) ≡ true → list_any (same_key (key_of key row)) (map (key_of key) (filter q rows)) ≡ false
        → no_repeats same_key (map (key_of key) (cond b (row ∷ filter q rows) (filter q rows))) ≡ true
    step true rest none = both _ _ (ap not none) rest
    step false rest none = rest

pub keys_differ-delete : (key : List ℕ) (rows : List (List Value)) (k : List Value) → IsTrue (keys_differ key rows) → IsTrue (keys_differ key (delete key rows k))
keys_differ-delete [] rows k differ = refl
keys_differ-delete (column ∷ columns) rows k differ = still_apart (column ∷ columns) (λ row. not (same_key (key_of (column ∷ columns) row) k)) rows differ

pub valid_deleted : (h : PlainSchema) (rows out : List (List Value)) (k : List Value) → IsValidTable (table h rows) → IsPermutation (delete h.key rows k) out → IsValidTable (table h out)
valid_deleted h rows out k old moved =
    valid_moved h (delete h.key rows k) out (record {
      schema = old.schema;
      fitting = all_filtered (fits_columns h.columns) (λ row. not (same_key (key_of h.key row) k)) rows old.fitting;
      keyed = keys_differ-delete h.key rows k old.keyed;
      few = (let few = old.few in let fewer = few_deleted h.key rows k in omega arith);
    }) moved

-- ---- the columns of the key are those of a row that fits

as_long : (columns : List Column) (row : List Value) → fits_columns columns row ≡ true → length row ≡ length columns
as_long [] [] h = refl
as_long [] (v ∷ vs) h = let none : ⊥ = cc in absurd none
as_long (c ∷ cs) [] h = let none : ⊥ = cc in absurd none
as_long (c ∷ cs) (v ∷ vs) h = ap (λ n. suc n) (as_long cs vs (two (goes_in c.kind v) (fits_columns cs vs) h).1)

all_tested : {X : Type 0} (P : X → Type 0) (p : X → Bool) → ((x : X) → p x ≡ true → P x) → (xs : List X) → list_all p xs ≡ true → All P xs
all_tested P p says [] h = All-nil P
all_tested P p says (x ∷ xs) h = All-cons P x xs (says x (two (p x) (list_all p xs) h).0) (all_tested P p says xs (two (p x) (list_all p xs) h).1)

pub key_in_range : (h : PlainSchema) (row : List Value) → IsTrue (is_schema h) → fits_columns h.columns row ≡ true → All (λ position. position < length row) h.key
key_in_range h row schema fits =
    all_tested (λ position. position < length row) (λ position. nat_lt position (length h.columns))
    (λ position below. omega (arith, ltb-true position (length h.columns) below, as_long h.columns row fits)) h.key (two _ _ (two _ _ schema).1).1
