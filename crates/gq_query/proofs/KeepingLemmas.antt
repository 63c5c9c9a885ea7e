-- Rows that are kept.
use Rattle.std.proofs.Common.{◌≡◌, ◌&&◌, ◌++◌, ◌<◌, ℕ, Bool, true, false, not, cond, All, List, [], ◌∷◌, length, filter, refl, sym, ap, subst, arith, ◌||◌, ◌∙◌, Option, None, Some}
use Rattle.std.specs.Prelude.{if◌then◌else◌}
use Rattle.std.specs.List.{list_all, list_any}
use Rattle.std.proofs.lemmas.List.Folds.{list_any-append}
use Rattle.std.proofs.lemmas.Bool.{and_parts, and_from}
use Rattle.std.proofs.lemmas.List.Elements.{All-head, All-nil, All-tail}
use Rattle.gq_row.specs.declared.value.Value.{Value}
use Rattle.gq_row.specs.declared.schema.Column.{Column}
use Rattle.gq_row.specs.Fitting.{fits_columns, is_null}
use Rattle.gq_row.specs.Order.{same_key}
use Rattle.gq_row.specs.Folding.{folded}
use Rattle.gq_row.specs.Rows.{cell, key_of}
use Rattle.gq_table.specs.Walking.{AgreeIn}
use Rattle.gq_select.specs.declared.condition.Test.{Test}
use Rattle.gq_select.specs.declared.join.KeySet.{KeySet}
use Rattle.gq_select.specs.declared.matching.Matching.{Matching}
use Rattle.gq_select.specs.KeySets.{AreKeysOf, has}
use Rattle.gq_select.specs.Truths.{columns_of, keeps}
use Rattle.gq_select.proofs.ReadLemmas.{SameIn, keeps_same, same_parts}
use Rattle.gq_query.specs.Answers.{has_match, rows_kept}
use Rattle.gq_select.specs.Asking.{CanMatch}
use Rattle.gq_query.specs.Keeping.{AreLong, is_found, ours_of}
use Rattle.gq_query.proofs.Placing.{rows_ready}

pub kept_first : {X : Type 0} (keep : X → Bool) (x : X) (xs : List X) → keep x ≡ true → filter keep (x ∷ xs) ≡ x ∷ filter keep xs
kept_first keep x xs is = ap (λ b. cond b (x ∷ filter keep xs) (filter keep xs)) is

pub passed_first : {X : Type 0} (keep : X → Bool) (x : X) (xs : List X) → keep x ≡ false → filter keep (x ∷ xs) ≡ filter keep xs
passed_first keep x xs is = ap (λ b. cond b (x ∷ filter keep xs) (filter keep xs)) is

-- what is true of all is true of those that are kept
pub all_kept : {X : Type 0} (test keep : X → Bool) (xs : List X) → list_all test xs ≡ true → list_all test (filter keep xs) ≡ true
all_kept test keep [] h = refl
all_kept test keep (x ∷ xs) h =
    let parts = and_parts (test x) (list_all test xs) h in
    told (keep x) parts.0 (all_kept test keep xs parts.1)
  where
    told : (b : Bool) → test x ≡ true → list_all test (filter keep xs) ≡ true → list_all test (cond b (x ∷ filter keep xs) (filter keep xs)) ≡ true
    told true first rest = and_from (test x) (list_all test (filter keep xs)) first rest
    told false first rest = rest

-- a set that has the keys of the other rows finds what they match
pub found_is : {H : Type 0} (keys : KeySet H) (others : List (List Value)) (m : Option Matching) (row : List Value) → ((x : Matching) → m ≡ Some x → AreKeysOf x.theirs others keys) → is_found m keys row ≡ has_match m others row
found_is keys others None row h = refl
found_is keys others (Some x) row h = ap (λ b. if x.negated then not b else b) (h x refl (key_of x.ours row))

pub kept_are : {H : Type 0} (tests : List Test) (m : Option Matching) (keys : KeySet H) (others rows : List (List Value)) → ((x : Matching) → m ≡ Some x → AreKeysOf x.theirs others keys)
    → filter (λ row. keeps tests row && is_found m keys row) rows ≡ rows_kept tests m others rows
kept_are tests m keys others rows h = λ i. filter (λ row. keeps tests row && found_is keys others m row h i) rows

-- what a match asks of a row
pub asks_ours : (columns others : List Column) (m : Option Matching) → CanMatch columns others m → All (λ column. column < length columns) (ours_of m)
asks_ours columns others None h = All-nil (λ column. column < length columns)
asks_ours columns others (Some m) h = h.0

-- the rows of a table have the columns that are passed on, and those that a match needs
pub source_ready : (columns : List Column) (used ours there : List ℕ) (rows given : List (List Value)) → given ≡ rows → there ≡ used → list_all (fits_columns columns) rows ≡ true
    → All (λ column. column < length columns) used → All (λ column. column < length columns) ours → AreLong there given × AreLong ours given
source_ready columns used ours there rows given are same fits u o =
    (subst (AreLong there) (sym are) (subst (λ t. AreLong t rows) (sym same) (rows_ready columns used rows fits u)), subst (AreLong ours) (sym are) (rows_ready columns ours rows fits o))

-- ---- rows with the same values in the columns that are read

pub same_key_of : (columns : List ℕ) (row other : List Value) → SameIn columns row other → key_of columns row ≡ key_of columns other
same_key_of [] row other same = refl
same_key_of (column ∷ columns) row other same = λ i.
    folded (All-head (λ c. cell row c ≡ cell other c) column columns same i) ∷ same_key_of columns row other (All-tail (λ c. cell row c ≡ cell other c) column columns same) i

found_same : {H : Type 0} (m : Option Matching) (keys : KeySet H) (row other : List Value) → SameIn (ours_of m) row other → is_found m keys row ≡ is_found m keys other
found_same None keys row other same = refl
found_same (Some m) keys row other same = ap (λ key. if m.negated then not (has keys key) else has keys key) (same_key_of m.ours row other same)

pub kept_same : {H : Type 0} (tests : List Test) (m : Option Matching) (keys : KeySet H) (columns : List ℕ) (row other : List Value) → columns ≡ columns_of tests ++ ours_of m → SameIn columns row other
    → (keeps tests row && is_found m keys row) ≡ (keeps tests other && is_found m keys other)
kept_same tests m keys columns row other are same =
    let both = same_parts (columns_of tests) (ours_of m) row other (subst (λ cs. SameIn cs row other) are same) in
    λ i. keeps_same tests row other both.0 i && found_same m keys row other both.1 i

-- what is read of a row in some columns has them, and the same key
pub long_read : (columns : List ℕ) (row : List Value) {read at : List Value} → AgreeIn columns read row → at ≡ read → All (λ column. column < length row) columns → All (λ column. column < length at) columns
long_read columns row agree is within = λ k d lt. let long = ap length is in let less = within k d lt in omega (arith, long, agree.long, less)

pub keys_read : {H : Type 0} (columns : List ℕ) (done : List (List Value)) (row : List Value) (keys : KeySet H) {read at : List Value} → AgreeIn columns read row → at ≡ read → AreKeysOf columns (done ++ at ∷ []) keys → AreKeysOf columns (done ++ row ∷ []) keys
keys_read columns done row keys {read} {at} agree is are = λ key. are key ∙ ap (λ b. not (list_any is_null key) && b) (
    list_any-append (λ r. same_key (key_of columns r) key) done (at ∷ [])
    ∙ (λ i. list_any (λ r. same_key (key_of columns r) key) done || (same_key ((ap (key_of columns) is ∙ same_key_of columns read row agree.cells) i) key || false))
    ∙ sym (list_any-append (λ r. same_key (key_of columns r) key) done (row ∷ [])))
