-- A group's running aggregates, one after the other.
use Rattle.std.proofs.Common.{◌≡◌, ◌<◌, ℕ, zero, suc, ◌+◌, Bool, true, false, ◌||◌, List, [], ◌∷◌, ◌++◌, length, take, drop, get_or, slice_index_or, slice_set, refl, sym, ap, ◌∙◌, arith}
use Rattle.std.specs.Prelude.{IsTrue, nat_lt}
use Rattle.std.specs.List.{list_all}
use Rattle.std.proofs.lemmas.Bool.{and_parts, ltb-true}
use Rattle.std.proofs.lemmas.List.{append_assoc, length-append, length-map, map-append, take_at, take_more, take-take}
use Rattle.gq_row.specs.declared.value.Value.{Value}
use Rattle.gq_row.specs.Rows.{cell}
use Rattle.gq_agg.specs.declared.kind.AggKind.{AggKind}
use Rattle.gq_agg.specs.declared.kind.AggKind.TheVariants as kind
use Rattle.gq_agg.specs.Running.{Running, tally, kept, kind_of}
use Rattle.gq_group.specs.Entries.{tallies}
use Rattle.gq_group.specs.Groups.{Spec, column_of, fits_cell, fits_spec, has_columns}

pub kind_kept : (k : AggKind) (values : List Value) → kind_of (kept k values) ≡ k
kind_kept kind.CountAll values = refl
kind_kept kind.Count values = refl
kind_kept kind.Sum values = refl
kind_kept kind.Min values = refl
kind_kept kind.Max values = refl

pub column-push : (column : ℕ) (rows : List (List Value)) (row : List Value) → column_of column (rows ++ row ∷ []) ≡ column_of column rows ++ cell row column ∷ []
column-push column rows row = map-append (λ r. cell r column) rows (row ∷ [])

-- there is one for each that is asked for
pub length-tallies : (asked : List (AggKind × ℕ)) (rows : List (List Value)) → length (tallies asked rows) ≡ length asked
length-tallies asked rows = length-map asked (λ a. tally a.0 (column_of a.1 rows))

-- the aggregate that comes next is that of the rows before
pub next_tally : (asked : List (AggKind × ℕ)) (rows more : List (List Value)) (i : ℕ) (d : Running) (e : AggKind × ℕ) → i < length asked
    → slice_index_or (take i (tallies asked more) ++ drop i (tallies asked rows)) i d ≡ tally (slice_index_or asked i e).0 (column_of (slice_index_or asked i e).1 rows)
next_tally [] rows more i d e less = absurd (omega arith)
next_tally (a ∷ asked) rows more zero d e less = refl
next_tally (a ∷ asked) rows more (suc i) d e less = next_tally asked rows more i d e (omega arith)

-- it takes its place
pub tally_set : (asked : List (AggKind × ℕ)) (rows : List (List Value)) (row : List Value) (i : ℕ) (x : Running) (e : AggKind × ℕ) → i < length asked
    → x ≡ tally (slice_index_or asked i e).0 (column_of (slice_index_or asked i e).1 rows ++ cell row (slice_index_or asked i e).1 ∷ [])
    → slice_set (take i (tallies asked (rows ++ row ∷ [])) ++ drop i (tallies asked rows)) i x ≡ take (suc i) (tallies asked (rows ++ row ∷ [])) ++ drop (suc i) (tallies asked rows)
tally_set [] rows row i x e less is = absurd (omega arith)
tally_set (a ∷ asked) rows row zero x e less is = ap (λ t. t ∷ tallies asked rows) (is ∙ ap (tally a.0) (sym (column-push a.1 rows row)))
tally_set (a ∷ asked) rows row (suc i) x e less is = ap (λ l. tally a.0 (column_of a.1 (rows ++ row ∷ [])) ∷ l) (tally_set asked rows row i x e (omega arith) is)

-- what all pass, the one at a place passes
pub passes_at : {X : Type 0} (p : X → Bool) (xs : List X) (i : ℕ) (d : X) → i < length xs → list_all p xs ≡ true → p (slice_index_or xs i d) ≡ true
passes_at p [] i d less h = absurd (omega arith)
passes_at p (x ∷ xs) zero d less h = (and_parts (p x) (list_all p xs) h).0
passes_at p (x ∷ xs) (suc i) d less h = passes_at p xs i d (omega arith) (and_parts (p x) (list_all p xs) h).1

pub next_fits : (row : List Value) (asked : List (AggKind × ℕ)) (rows more : List (List Value)) (i : ℕ) (aggs : List Running) (d : Running) (e : AggKind × ℕ) → i < length asked
    → aggs ≡ take i (tallies asked more) ++ drop i (tallies asked rows)
    → list_all (fits_cell row) asked ≡ true → fits_cell row (kind_of (slice_index_or aggs i d).state, (slice_index_or asked i e).1) ≡ true
next_fits row asked rows more i aggs d e less is fits =
    let kind_is : kind_of (slice_index_or aggs i d).state ≡ (slice_index_or asked i e).0
    = ap (λ l. kind_of (slice_index_or l i d).state) is ∙ ap (λ t. kind_of t.state) (next_tally asked rows more i d e less) ∙ kind_kept (slice_index_or asked i e).0 (column_of (slice_index_or asked i e).1 rows) in
    ap (λ k. fits_cell row (k, (slice_index_or asked i e).1)) kind_is ∙ passes_at (fits_cell row) asked i e less fits

-- ---- the values, from the first to the last

pub or_true : (b : Bool) → (b || true) ≡ true
or_true true = refl
or_true false = refl

-- the first that is left is at that place
pub first_at : {X : Type 0} (xs : List X) (i : ℕ) (d : X) → i < length xs → drop i xs ≡ slice_index_or xs i d ∷ drop (suc i) xs
first_at [] i d less = absurd (omega arith)
first_at (x ∷ xs) zero d less = refl
first_at (x ∷ xs) (suc i) d less = first_at xs i d (omega arith)

-- ---- aggregates of no row, after others

pub tallies_more : (asked : List (AggKind × ℕ)) (i : ℕ) (d : AggKind × ℕ) (x : Running) (others now new : List Running) → i < length asked
    → now ≡ others ++ tallies (take i asked) [] → x ≡ tally (get_or asked i d).0 [] → new ≡ now ++ x ∷ []
    → new ≡ others ++ tallies (take (i + 1) asked) []
tallies_more asked i d x others now new less so_far is push =
    push
    ∙ (λ k. so_far k ++ is k ∷ [])
    ∙ append_assoc others (tallies (take i asked) []) (tally (get_or asked i d).0 [] ∷ [])
    ∙ ap (λ l. others ++ l) (sym (map-append (λ (a : AggKind × ℕ). tally a.0 []) (take i asked) (get_or asked i d ∷ [])))
    ∙ ap (λ l. others ++ tallies l []) (sym (take_more asked i d less))

-- and of some rows
pub row_tallies_more : (asked : List (AggKind × ℕ)) (rows : List (List Value)) (i : ℕ) (d : AggKind × ℕ) (others now new : List Running) → i < length asked
    → now ≡ others ++ tallies (take i asked) rows → new ≡ now ++ tallies (get_or asked i d ∷ []) rows
    → new ≡ others ++ tallies (take (i + 1) asked) rows
row_tallies_more asked rows i d others now new less so_far push =
    push
    ∙ ap (λ l. l ++ tallies (get_or asked i d ∷ []) rows) so_far
    ∙ append_assoc others (tallies (take i asked) rows) (tallies (get_or asked i d ∷ []) rows)
    ∙ ap (λ l. others ++ l) (sym (map-append (λ (a : AggKind × ℕ). tally a.0 (column_of a.1 rows)) (take i asked) (get_or asked i d ∷ [])))
    ∙ ap (λ l. others ++ tallies l rows) (sym (take_more asked i d less))

pub others_stay : (others more now : List Running) → now ≡ others ++ more → take (length others) now ≡ others
others_stay others more now is = ap (take (length others)) is ∙ take_at others more (length others) refl

pub first_stay : (others more now new : List Running) → now ≡ others ++ more → take (length now) new ≡ now → take (length others) new ≡ others
first_stay others more now new is kept =
    let long : length now ≡ length others + length more = ap length is ∙ length-append others more in
    sym (take-take (length others) (length now) new (omega (arith, long))) ∙ ap (take (length others)) kept ∙ others_stay others more now is

-- ---- what a row that fits has

pub columns_fit : (spec : Spec) (row cells : List Value) (by : List ℕ) → by ≡ spec.by → cells ≡ row → fits_spec spec row ≡ true → (k d : ℕ) → k < length by → get_or by k d < length cells
columns_fit spec row cells by by_is cells_is fits k d less =
    let all = (and_parts (has_columns spec.by row) (list_all (fits_cell row) spec.aggs) fits).0 in
    let same = ap (λ ks. get_or ks k d) by_is in
    let long = ap length by_is in
    let wide = ap length cells_is in
    let fit = ltb-true (get_or spec.by k d) (length row) (passes_at (λ column. nat_lt column (length row)) spec.by k d (omega (arith, less, long)) all) in
    omega (arith, same, wide, fit)

pub cells_fit : (spec : Spec) (row : List Value) (asked : List (AggKind × ℕ)) → asked ≡ spec.aggs → fits_spec spec row ≡ true → IsTrue (list_all (fits_cell row) asked)
cells_fit spec row asked is fits = ap (list_all (fits_cell row)) is ∙ (and_parts (has_columns spec.by row) (list_all (fits_cell row) spec.aggs) fits).1
