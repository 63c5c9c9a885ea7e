-- Rows in one list of cells.
use Rattle.std.proofs.Common.{◌≡◌, ◌<◌, ◌≤◌, ◌+◌, ◌-◌, ℕ, zero, suc, List, [], ◌∷◌, ◌++◌, length, map, take, drop, get_or, slice_index_or, slice_set, All, refl, sym, ap, subst, ◌∙◌, arith}
use Rattle.std.specs.List.{swap}
use Rattle.std.proofs.Math.Seq.{drop-append-add}
use Rattle.std.proofs.lemmas.Grind.{common_steps}
use Rattle.std.proofs.lemmas.List.{drop-drop, drop-map, drop-set-lt, get_or-drop, length-append, map-append, take-map}
use Rattle.std.proofs.lemmas.List.Elements.{All-nil, All-cons, All-append, All-push, All-head, All-tail}
use Rattle.gq_cells.specs.declared.rows.Span.{Span}
use Rattle.gq_row.specs.declared.value.Value.{Value}
use Rattle.gq_cells.specs.Lists.{part, IsPart, moved, row_at}

-- appending to a list changes no part of it
pub part_kept : {X : Type 0} (xs ys : List X) (start end : ℕ) → start ≤ end → end ≤ length xs → part (xs ++ ys) start end ≡ part xs start end
part_kept xs ys start end low high = grind (arith, common_steps)

part_kept_of : {X : Type 0} (xs ys : List X) (s : Span) → IsPart xs s → IsPart (xs ++ ys) s
part_kept_of xs ys s h = (h.0, omega (arith, h.1, length-append xs ys))

pub all_kept : {X : Type 0} (xs ys : List X) (spans : List Span) → All (IsPart xs) spans → All (IsPart (xs ++ ys)) spans
all_kept xs ys spans h = λ k d lt. part_kept_of xs ys (get_or spans k d) (h k d lt)

pub rows_kept : (xs ys : List Value) (spans : List Span) → All (IsPart xs) spans → map (row_at (xs ++ ys)) spans ≡ map (row_at xs) spans
rows_kept xs ys [] h = refl
rows_kept xs ys (s ∷ spans) h =
    let first = All-head (IsPart xs) s spans h in
    λ i. part_kept xs ys s.start s.end first.0 first.1 i ∷ rows_kept xs ys spans (All-tail (IsPart xs) s spans h) i

-- what is appended is the last part
pub last_part : {X : Type 0} (xs ys : List X) (start end : ℕ) → start ≡ length xs → end ≡ length (xs ++ ys) → part (xs ++ ys) start end ≡ ys
last_part xs ys start end low high = grind (arith, common_steps)

pub row_pushed : (xs row : List Value) (spans : List Span) (s : Span) → s.start ≡ length xs → s.end ≡ length (xs ++ row) → All (IsPart xs) spans
    → map (row_at (xs ++ row)) (spans ++ s ∷ []) ≡ map (row_at xs) spans ++ row ∷ []
row_pushed xs row spans s low high h =
    map-append (row_at (xs ++ row)) spans (s ∷ [])
    ∙ (λ i. rows_kept xs row spans h i ++ last_part xs row s.start s.end low high i ∷ [])

pub span_pushed : (xs row : List Value) (spans : List Span) (s : Span) → s.start ≡ length xs → s.end ≡ length (xs ++ row) → All (IsPart xs) spans
    → All (IsPart (xs ++ row)) (spans ++ s ∷ [])
span_pushed xs row spans s low high h =
    All-push (IsPart (xs ++ row)) spans s (all_kept xs row spans h) (omega (arith, low, high, length-append xs row), omega (arith, high))

-- ---- spans of a list that is appended to another

-- one element more is changed in its place
pub moved_in_place : {X : Type 0} (f : X → X) (xs : List X) (i : ℕ) (d : X) → i < length xs
    → slice_set (map f (take i xs) ++ drop i xs) i (f (get_or (map f (take i xs) ++ drop i xs) i d)) ≡ map f (take (suc i) xs) ++ drop (suc i) xs
moved_in_place f [] i d h = absurd (omega (arith, h))
moved_in_place f (x ∷ xs) zero d h = refl
moved_in_place f (x ∷ xs) (suc i) d h = ap (λ l. f x ∷ l) (moved_in_place f xs i d (omega (arith, h)))

pub one_moved : (n : ℕ) (spans now : List Span) (i : ℕ) (d s : Span) → i < length spans → now ≡ map (moved n) (take i spans) ++ drop i spans → s ≡ get_or now i d
    → slice_set now i (moved n s) ≡ map (moved n) (take (i + 1) spans) ++ drop (i + 1) spans
one_moved n spans now i d s h e r =
    (λ z. slice_set (e z) i (moved n ((r ∙ ap (λ l. get_or l i d) e) z)))
    ∙ moved_in_place (moved n) spans i d h
    ∙ (let next : suc i ≡ i + 1 = omega arith in λ z. map (moved n) (take (next z) spans) ++ drop (next z) spans)

part_moved : {X : Type 0} (xs ys : List X) (start end : ℕ) → part (xs ++ ys) (length xs + start) (length xs + end) ≡ part ys start end
part_moved xs ys start end =
    let wide : length xs + end - (length xs + start) ≡ end - start = omega arith in
    λ i. take (wide i) (drop-append-add xs ys start i)

pub rows_moved : (xs ys : List Value) (spans : List Span) → map (row_at (xs ++ ys)) (map (moved (length xs)) spans) ≡ map (row_at ys) spans
rows_moved xs ys [] = refl
rows_moved xs ys (s ∷ spans) = λ i. part_moved xs ys s.start s.end i ∷ rows_moved xs ys spans i

pub rows_appended : (xs ys : List Value) (spans more : List Span) → All (IsPart xs) spans
    → map (row_at (xs ++ ys)) (spans ++ map (moved (length xs)) more) ≡ map (row_at xs) spans ++ map (row_at ys) more
rows_appended xs ys spans more h =
    map-append (row_at (xs ++ ys)) spans (map (moved (length xs)) more)
    ∙ (λ i. rows_kept xs ys spans h i ++ rows_moved xs ys more i)

span_moved : {X : Type 0} (xs ys : List X) (s : Span) → IsPart ys s → IsPart (xs ++ ys) (moved (length xs) s)
span_moved xs ys s h = (omega (arith, h.0), omega (arith, h.1, length-append xs ys))

spans_moved : {X : Type 0} (xs ys : List X) (more : List Span) → All (IsPart ys) more → All (IsPart (xs ++ ys)) (map (moved (length xs)) more)
spans_moved xs ys [] h = All-nil (IsPart (xs ++ ys))
spans_moved xs ys (s ∷ more) h =
    All-cons (IsPart (xs ++ ys)) (moved (length xs) s) (map (moved (length xs)) more)
    (span_moved xs ys s (All-head (IsPart ys) s more h))
    (spans_moved xs ys more (All-tail (IsPart ys) s more h))

pub spans_appended : {X : Type 0} (xs ys cells : List X) (spans more now : List Span) → cells ≡ xs ++ ys → now ≡ spans ++ map (moved (length xs)) more
    → All (IsPart xs) spans → All (IsPart ys) more → All (IsPart cells) now
spans_appended xs ys cells spans more now whole are h k =
    let each = All-append (IsPart (xs ++ ys)) spans (map (moved (length xs)) more) (all_kept xs ys spans h) (spans_moved xs ys more k) in
    subst (λ l. All (IsPart l) now) (sym whole) (subst (All (IsPart (xs ++ ys))) (sym are) each)

-- ---- rows that change places

module _ {X Y : Type 0} (f : X → Y) where
  map-set : (xs : List X) (i : ℕ) (x : X) → map f (slice_set xs i x) ≡ slice_set (map f xs) i (f x)
  map-set [] i x = refl
  map-set (y ∷ xs) zero x = refl
  map-set (y ∷ xs) (suc i) x = ap (λ l. f y ∷ l) (map-set xs i x)

  map-get_or : (xs : List X) (i : ℕ) (d : X) → f (get_or xs i d) ≡ get_or (map f xs) i (f d)
  map-get_or [] i d = refl
  map-get_or (x ∷ xs) zero d = refl
  map-get_or (x ∷ xs) (suc i) d = map-get_or xs i d

  pub map-swap : (xs : List X) (i j : ℕ) → map f (swap xs i j) ≡ swap (map f xs) i j
  map-swap [] i j = refl
  map-swap (x ∷ xs) i j =
      map-set (slice_set (x ∷ xs) i (get_or (x ∷ xs) j x)) j (get_or (x ∷ xs) i x)
      ∙ (λ z. slice_set (map-set (x ∷ xs) i (get_or (x ∷ xs) j x) z) j (map-get_or (x ∷ xs) i x z))
      ∙ ap (λ y. slice_set (slice_set (map f (x ∷ xs)) i y) j (get_or (map f (x ∷ xs)) i (f x))) (map-get_or (x ∷ xs) j x)

-- ---- lists of what is made of others

pub part_map : {X Y : Type 0} (f : X → Y) (xs : List X) (start end : ℕ) → part (map f xs) start end ≡ map f (part xs start end)
part_map f xs start end = ap (take (end - start)) (drop-map f start xs) ∙ take-map f (end - start) (drop start xs)

-- a part is as long as its span
pub length_part : {X : Type 0} (xs : List X) (start end : ℕ) → end ≤ length xs → length (part xs start end) ≡ end - start
length_part xs start end within = grind (arith, common_steps)

-- ---- elements that are taken one by one from the first

pub left_next : {X : Type 0} (xs ys : List X) (i : ℕ) (x : X) → drop i xs ≡ drop i ys → drop (i + 1) (slice_set xs i x) ≡ drop (i + 1) ys
left_next xs ys i x h =
    drop-set-lt (i + 1) xs i x (omega arith) ∙ sym (drop-drop 1 i xs) ∙ ap (drop 1) h ∙ drop-drop 1 i ys

pub left_there : {X : Type 0} (xs ys : List X) (i : ℕ) (d : X) → drop i xs ≡ drop i ys → slice_index_or xs i d ≡ slice_index_or ys i d
left_there xs ys i d h =
    let here : i + 0 ≡ i = omega arith in
    ap (λ k. slice_index_or xs k d) (sym here) ∙ sym (get_or-drop i xs 0 d) ∙ ap (λ l. slice_index_or l 0 d) h ∙ get_or-drop i ys 0 d ∙ ap (λ k. slice_index_or ys k d) here
