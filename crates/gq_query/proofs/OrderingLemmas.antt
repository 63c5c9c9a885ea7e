-- Rows compared and sorted.
use Rattle.std.proofs.Common.{◌≡◌, ◌<◌, ◌+◌, ℕ, true, All, List, [], ◌∷◌, length, map, refl, ap, ap₂, ◌∙◌, arith, Ordering, IsTrue}
use Rattle.std.proofs.lemmas.List.{get_or-map, length-map}
use Rattle.std.specs.Prelude.{nat_le, ◌&&◌, if◌then◌else◌}
use Rattle.std.specs.List.Sorted.{IsSortedByKey, IsSortedByClosure}
use Rattle.std.specs.Fn.{Called}
use Rattle.std.specs.Ordering.{is_lt, ordering_then}
use Rattle.std.specs.Cmp.Lexicographic.{slice_cmp}
use denote.Param.Members.{Mut}
use denote.Ref.{Bor}
use Rattle.std.proofs.lemmas.List.Sorted.{ranks_by}
use Rattle.std.proofs.lemmas.Fn.{always_returns_same}
use Rattle.std.proofs.lemmas.Bool.Decides.{nat_tests}
use Rattle.std.proofs.lemmas.List.Elements.{All-head, All-tail}
use Rattle.gq_cells.specs.declared.rows.Span.{Span}
use Rattle.gq_row.specs.declared.value.Value.{Value}
use Rattle.gq_cells.specs.Lists.{part, IsPart, row_at}
use Rattle.gq_row.specs.Laws.{IsArranged}
use Rattle.gq_row.specs.Order.{compare_keys, folded_order, plain_order}
use Rattle.gq_row.specs.Ordered.{in_order}
use Rattle.gq_row.specs.Rows.{cell, cells_in, key_of}
use Rattle.gq_row.specs.Tables.{PlainTable, keys_differ}
use Rattle.gq_row.proofs.FoldLemmas.{folded_once, then_same}
use Rattle.gq_row.proofs.ArrangeLemmas.{in_order-alone, in_order-alone_by_row}
use Rattle.gq_row.proofs.OrderLemmas.{keys_total}
use Rattle.gq_table.specs.ValidTables.{IsValidTable}
use Rattle.gq_query.specs.Answers.{ordered_by, rows_shown}
use Rattle.gq_query.specs.Spans.{row_in}

-- keys are compared by the folds of the cells: they are folds themselves, and where these tie so do their bytes
pub keys_by_cells : (columns : List ℕ) (a b : List Value) → compare_keys (key_of columns a) (key_of columns b) ≡ slice_cmp folded_order (cells_in columns a) (cells_in columns b)
keys_by_cells columns a b = ap₂ ordering_then (once columns) (bytes columns) ∙ then_same (slice_cmp folded_order (cells_in columns a) (cells_in columns b))
  where
    once : (cs : List ℕ) → slice_cmp folded_order (key_of cs a) (key_of cs b) ≡ slice_cmp folded_order (cells_in cs a) (cells_in cs b)
    once [] = refl
    once (c ∷ cs) = ap₂ ordering_then (ap₂ plain_order (folded_once (cell a c)) (folded_once (cell b c))) (once cs)

    bytes : (cs : List ℕ) → slice_cmp plain_order (key_of cs a) (key_of cs b) ≡ slice_cmp folded_order (cells_in cs a) (cells_in cs b)
    bytes [] = refl
    bytes (c ∷ cs) = ap (ordering_then (folded_order (cell a c) (cell b c))) (bytes cs)

-- what a sort by a closure that compares by a key ensures
pub sorted_by : {X F : Type 0} {g : Mut F (Bor X × (Bor X × Unit {0})) Ordering} {f : F} (key : X → List Value) (xs : List X) → IsSortedByClosure g f xs
    → ((a : Bor X × (Bor X × Unit {0})) (r : Ordering) (f' : F) → Called g f a r f' → (r ≡ compare_keys (key a.0.now) (key a.1.0.now)) × (f' ≡ f)) → IsSortedByKey key compare_keys xs
sorted_by {g = g} {f = f} key xs up h =
    up (λ x y. is_lt (compare_keys (key x) (key y))) (ranks_by keys_total key)
    (always_returns_same g (λ a r. is_lt r ≡ is_lt (compare_keys (key a.0.now) (key a.1.0.now))) f (λ a r f' k. (ap is_lt (h a r f' k).0, (h a r f' k).1)))

-- elements in the order of the keys that represent them
pub sorted_map : {X Y : Type 0} (f : X → Y) (key : Y → List Value) (xs : List X) → IsSortedByKey (λ x. key (f x)) compare_keys xs → IsSortedByKey key compare_keys (map f xs)
sorted_map f key [] up = λ k d low high. absurd (omega (arith, high))
sorted_map f key (x ∷ xs) up = λ k d low high.
    let within : k + 1 < length (x ∷ xs) = omega (arith, high, length-map (x ∷ xs) f) in
    rw (get_or-map f (x ∷ xs) (k + 1) x d within, get_or-map f (x ∷ xs) k x d (omega (arith, within))) (up k x low within)

-- rows whose spans lie within the cells are there
pub rows_in_are : (cells : List Value) (spans : List Span) → All (IsPart cells) spans → map (row_in cells) spans ≡ map (row_at cells) spans
rows_in_are cells [] h = refl
rows_in_are cells (s ∷ spans) h =
    let first = All-head (IsPart cells) s spans h in
    let low : nat_le s.start s.end ≡ true = grind (arith, nat_tests, first.0) in
    let high : nat_le s.end (length cells) ≡ true = grind (arith, nat_tests, first.1) in
    λ i. (if low i && high i then part cells s.start s.end else []) ∷ rows_in_are cells spans (All-tail (IsPart cells) s spans h) i

-- the rows of a table, sorted, are those that a `show` gives
pub shown : (table : PlainTable) (sorted : List (List Value)) → IsValidTable table → IsArranged (ordered_by table.schema.key) table.rows sorted → sorted ≡ rows_shown table
shown table sorted valid arranged = chosen table.schema.key valid.keyed arranged
  where
    chosen : (key : List ℕ) → IsTrue (keys_differ key table.rows) → IsArranged (ordered_by key) table.rows sorted → sorted ≡ in_order (ordered_by key) table.rows
    chosen [] differ arranged = in_order-alone_by_row table.rows sorted arranged
    chosen (column ∷ columns) differ arranged = in_order-alone (key_of (column ∷ columns)) table.rows sorted differ arranged
