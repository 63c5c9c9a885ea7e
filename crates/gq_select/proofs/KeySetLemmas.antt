-- The keys of rows, with one row more.
use Rattle.std.proofs.Common.{◌≡◌, ◌&&◌, ◌||◌, ℕ, zero, suc, Bool, true, false, not, List, [], ◌∷◌, ◌++◌, None, Some, refl, sym, ap, ◌∙◌}
use Rattle.std.specs.List.{list_any, slice_get}
use Rattle.std.proofs.lemmas.List.Folds.{list_any-append}
use Rattle.sw_index.specs.Index.{HasNone}
use Rattle.gq_row.specs.declared.value.Value.{Value}
use Rattle.gq_row.specs.declared.value.Value.TheVariants.{Null, Int, Text, NoCase}
use Rattle.gq_row.specs.Classes.{class_of}
use Rattle.gq_row.specs.Fitting.{is_null, has_null}
use Rattle.gq_row.specs.Folding.{folded}
use Rattle.gq_row.specs.Order.{same_key}
use Rattle.gq_row.specs.Rows.{cell, key_of}
use Rattle.gq_row.specs.Tables.{has_row}
use Rattle.gq_row.proofs.ClassLemmas.{class_tells}
use Rattle.gq_row.proofs.OrderLemmas.{same_key_exact, same_key_itself, same_key_equiv}
use Rattle.gq_select.specs.Matches.{is_key_among, exists}

or_none : (b : Bool) → (b || false) ≡ b
or_none true = refl
or_none false = refl

or_true : (b : Bool) → (b || true) ≡ true
or_true true = refl
or_true false = refl

none_of : (n : Bool) → (n && false) ≡ false
none_of true = refl
none_of false = refl

-- a value is null where its fold is
null_folded : (v : Value) → is_null (folded v) ≡ is_null v
null_folded Null = refl
null_folded (Int n) = refl
null_folded (Text t) = refl
null_folded (NoCase t) = refl

-- a row has null in some columns where its key there has
pub null_key : (columns : List ℕ) (row : List Value) → list_any is_null (key_of columns row) ≡ has_null columns row
null_key [] row = refl
null_key (column ∷ columns) row = λ i. null_folded (cell row column) i || null_key columns row i

same_has_null : (columns : List ℕ) (row key : List Value) → has_null columns row ≡ true → same_key (key_of columns row) key ≡ true → list_any is_null key ≡ true
same_has_null columns row key null is = ap (list_any is_null) (sym (same_key_exact (key_of columns row) key is)) ∙ null_key columns row ∙ null

pub none_among : (columns : List ℕ) (key : List Value) → is_key_among columns [] key ≡ false
none_among columns key = none_of (not (list_any is_null key))

-- ---- one row more, at the end

among-push : (columns : List ℕ) (rows : List (List Value)) (row key : List Value) → is_key_among columns (rows ++ row ∷ []) key ≡ (not (list_any is_null key) && (has_row columns rows key || same_key (key_of columns row) key))
among-push columns rows row key =
    ap (λ b. not (list_any is_null key) && b)
    (list_any-append (λ r. same_key (key_of columns r) key) rows (row ∷ []) ∙ ap (λ b. has_row columns rows key || b) (or_none (same_key (key_of columns row) key)))

without : (null found is : Bool) → (is ≡ true → null ≡ true) → (not null && (found || is)) ≡ (not null && found)
without true found is h = refl
without false true is h = refl
without false false true h = sym (h refl)
without false false false h = refl

-- a row with null adds no key
pub among-null : (columns : List ℕ) (rows : List (List Value)) (row key : List Value) → has_null columns row ≡ true → is_key_among columns (rows ++ row ∷ []) key ≡ is_key_among columns rows key
among-null columns rows row key null =
    among-push columns rows row key ∙ without (list_any is_null key) (has_row columns rows key) (same_key (key_of columns row) key) (same_has_null columns row key null)

known : (null found : Bool) → (not null && found) ≡ true → (not null && (found || true)) ≡ (not null && found)
known true found h = refl
known false true h = refl
known false false h = sym h

-- nor does one whose key is there
pub among-known : (columns : List ℕ) (rows : List (List Value)) (row key : List Value) → is_key_among columns rows (key_of columns row) ≡ true → is_key_among columns (rows ++ row ∷ []) key ≡ is_key_among columns rows key
among-known columns rows row key there = among-push columns rows row key ∙ told (same_key (key_of columns row) key) refl
  where
    told : (b : Bool) → same_key (key_of columns row) key ≡ b → (not (list_any is_null key) && (has_row columns rows key || b)) ≡ is_key_among columns rows key
    told true e = known (list_any is_null key) (has_row columns rows key) (ap (is_key_among columns rows) (sym (same_key_exact (key_of columns row) key e)) ∙ there)
    told false e = ap (λ b. not (list_any is_null key) && b) (or_none (has_row columns rows key))

-- any other adds its own
pub among-new : (columns : List ℕ) (rows ks ks' : List (List Value)) (row key : List Value) → has_null columns row ≡ false → ks' ≡ ks ++ key_of columns row ∷ []
    → list_any (same_key key) ks ≡ is_key_among columns rows key → list_any (same_key key) ks' ≡ is_key_among columns (rows ++ row ∷ []) key
among-new columns rows ks ks' row key none put before =
    ap (list_any (same_key key)) put
    ∙ list_any-append (same_key key) ks (key_of columns row ∷ [])
    ∙ (λ i. before i || or_none (same_key key (key_of columns row)) i)
    ∙ told (same_key key (key_of columns row)) refl
    ∙ sym (among-push columns rows row key)
  where
    told : (b : Bool) → same_key key (key_of columns row) ≡ b
        → (is_key_among columns rows key || b) ≡ (not (list_any is_null key) && (has_row columns rows key || same_key (key_of columns row) key))
    told true e =
        let mine : List Value = key_of columns row in
        let no_null : list_any is_null key ≡ false = ap (list_any is_null) (same_key_exact key mine e) ∙ null_key columns row ∙ none in
        let here : same_key mine key ≡ true = (same_key_equiv).symm mine key ∙ e in
        or_true (is_key_among columns rows key)
        ∙ sym (or_true (has_row columns rows key))
        ∙ (λ i. not (sym no_null i) && (has_row columns rows key || sym here i))
    told false e =
        let here : same_key (key_of columns row) key ≡ false = (same_key_equiv).symm (key_of columns row) key ∙ e in
        or_none (is_key_among columns rows key)
        ∙ ap (λ b. not (list_any is_null key) && b) (sym (or_none (has_row columns rows key)))
        ∙ ap (λ b. not (list_any is_null key) && (has_row columns rows key || b)) (sym here)

-- ---- a key that was sought among others

none_some : {X : Type 0} (x : X) → None ≡ Some x → ⊥
none_some x e = cc

some_is : {X : Type 0} (x y : X) → Some x ≡ Some y → x ≡ y
some_is x y e = cc

-- a key of its class is the same
pub some_found : (ks : List (List Value)) (key : List Value) (n : ℕ) (k : List Value) → slice_get ks n ≡ Some k → class_of k ≡ class_of key → list_any (same_key key) ks ≡ true
some_found [] key n k at is = absurd (none_some k at)
some_found (l ∷ ks) key zero k at is = ap (λ b. b || list_any (same_key key) ks) (ap (same_key key) (some_is l k at ∙ class_tells k key is) ∙ same_key_itself key)
some_found (l ∷ ks) key (suc n) k at is = ap (λ b. same_key key l || b) (some_found ks key n k at is) ∙ or_true (same_key key l)

-- if none is of its class, none is the same
pub none_found : (ks : List (List Value)) (key : List Value) → HasNone class_of ks (class_of key) → list_any (same_key key) ks ≡ false
none_found [] key none = refl
none_found (k ∷ ks) key none = told (same_key key k) refl (none_found ks key (λ i l at is. none (suc i) l at is))
  where
    told : (b : Bool) → same_key key k ≡ b → list_any (same_key key) ks ≡ false → (same_key key k || list_any (same_key key) ks) ≡ false
    told true e rest = absurd (none zero k refl (ap class_of (sym (same_key_exact key k e))))
    told false e rest = ap (λ b. b || list_any (same_key key) ks) e ∙ rest

-- ---- null on either side

pub null_here : (row : List Value) (columns : List ℕ) (others : List (List Value)) (theirs : List ℕ) → has_null columns row ≡ true → exists row columns others theirs ≡ false
null_here row columns others theirs null = ap (λ b. not b && has_row theirs others (key_of columns row)) (null_key columns row ∙ null)

or_swap : (a b : Bool) → (a || b) ≡ (b || a)
or_swap true true = refl
or_swap true false = refl
or_swap false true = refl
or_swap false false = refl

pub null_there : (row : List Value) (columns : List ℕ) (other : List Value) (others : List (List Value)) (theirs : List ℕ) → has_null theirs other ≡ true → exists row columns (other ∷ others) theirs ≡ exists row columns others theirs
null_there row columns other others theirs null =
    let key : List Value = key_of columns row in
    ap (λ b. not (list_any is_null key) && b) (or_swap (same_key (key_of theirs other) key) (has_row theirs others key))
    ∙ without (list_any is_null key) (has_row theirs others key) (same_key (key_of theirs other) key) (same_has_null theirs other key null)

pub else_by_key : (row : List Value) (columns : List ℕ) (others : List (List Value)) (theirs : List ℕ) → has_null columns row ≡ false → exists row columns others theirs ≡ has_row theirs others (key_of columns row)
else_by_key row columns others theirs none = ap (λ b. not b && has_row theirs others (key_of columns row)) (null_key columns row ∙ none)
