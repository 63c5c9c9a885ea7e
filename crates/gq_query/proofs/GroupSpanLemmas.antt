-- Groups in one list of cells.
use Rattle.std.proofs.Common.{◌≡◌, ◌<◌, ◌≤◌, ◌+◌, ◌-◌, ℕ, List, [], ◌∷◌, ◌++◌, length, map, take, drop, get_or, All, Ordering, refl, sym, ap, subst, ◌∙◌, arith}
use denote.Param.Members.{Mut}
use denote.Ref.{Bor}
use Rattle.std.specs.Cmp.{IsTotalOrder}
use Rattle.std.specs.Fn.{Called}
use Rattle.std.specs.List.Sorted.{IsSorted, IsSortedByKey, IsSortedByClosure}
use Rattle.std.specs.Ordering.{is_lt}
use Rattle.std.proofs.lemmas.Cmp.{nat_cmp_total, on_total, then_total}
use Rattle.std.proofs.lemmas.Fn.{always_returns_same}
use Rattle.std.proofs.lemmas.List.Sorted.{ranks_by}
use Rattle.std.proofs.Math.Seq.{take-add}
use Rattle.std.proofs.lemmas.Grind.{common_steps}
use Rattle.std.proofs.lemmas.List.{append_assoc, get_or-map, length-append, length-map, map-append}
use Rattle.std.proofs.lemmas.List.Elements.{All-nil, All-cons, All-push, All-head, All-tail}
use Rattle.gq_row.specs.declared.value.Value.{Value}
use Rattle.gq_cells.specs.Lists.{part, IsPart, row_at}
use Rattle.gq_row.specs.Order.{compare_keys}
use Rattle.gq_row.proofs.OrderLemmas.{keys_total}
use Rattle.gq_cells.proofs.RowsLemmas.{part_kept, last_part}
use Rattle.gq_group.specs.Groups.{Group}
use Rattle.gq_query.specs.declared.sort_prefix.SortPrefix.{SortPrefix}
use Rattle.gq_query.specs.declared.group_list.GroupSpan.{GroupSpan}
use Rattle.gq_query.specs.GroupSpans.{IsGroupAt, IsSpan, group_at, key_at, compare_at, middle_of, end_of}
use Rattle.gq_query.specs.Joining.{row_of}

-- ---- a group more

kept_at : (xs ys : List Value) (s : GroupSpan) → IsGroupAt xs s → IsGroupAt (xs ++ ys) s
kept_at xs ys s h = omega (arith, h, length-append xs ys)

all_kept : (xs ys : List Value) (spans : List GroupSpan) → All (IsGroupAt xs) spans → All (IsGroupAt (xs ++ ys)) spans
all_kept xs ys spans h = λ k d lt. kept_at xs ys (get_or spans k d) (h k d lt)

groups_kept : (xs ys : List Value) (spans : List GroupSpan) → All (IsGroupAt xs) spans → map (group_at (xs ++ ys)) spans ≡ map (group_at xs) spans
groups_kept xs ys [] h = refl
groups_kept xs ys (s ∷ spans) h =
    let first = All-head (IsGroupAt xs) s spans h in
    λ i. (part_kept xs ys s.start (middle_of s) (omega arith) (omega (arith, first)) i, part_kept xs ys (middle_of s) (end_of s) (omega arith) first i)
    ∷ groups_kept xs ys spans (All-tail (IsGroupAt xs) s spans h) i

-- appending cells doesn't change the groups
pub kept_on : (old new more : List Value) (spans now : List GroupSpan) → new ≡ old ++ more → now ≡ spans → All (IsGroupAt old) spans → All (IsGroupAt new) now
kept_on old new more spans now longer same h =
    subst (All (IsGroupAt new)) (sym same) (subst (λ l. All (IsGroupAt l) spans) (sym longer) (all_kept old more spans h))

-- the cells of a group follow those of the others
record IsNext (xs key values cells : List Value) (s : GroupSpan) : Type 0 where
  pub start : s.start ≡ length xs
  pub keyed : s.key ≡ length key
  pub valued : s.values ≡ length values
  pub whole : cells ≡ (xs ++ key) ++ values

-- a span of as many cells as the key and the values have
next_by : (xs key values cells : List Value) (s : GroupSpan) → IsSpan (length xs) (length key) (length values) s → cells ≡ (xs ++ key) ++ values → IsNext xs key values cells s
next_by xs key values cells s span whole = record {
  start = span.begins;
  keyed = span.keyed;
  valued = span.valued;
  whole = whole;
}

middle_next : (xs key values cells : List Value) (s : GroupSpan) → IsNext xs key values cells s → middle_of s ≡ length (xs ++ key)
middle_next xs key values cells s next = omega (arith, next.start, next.keyed, length-append xs key)

end_next : (xs key values cells : List Value) (s : GroupSpan) → IsNext xs key values cells s → end_of s ≡ length ((xs ++ key) ++ values)
end_next xs key values cells s next = omega (arith, middle_next xs key values cells s next, next.valued, length-append (xs ++ key) values)

key_next : (xs key values cells : List Value) (s : GroupSpan) → IsNext xs key values cells s → part ((xs ++ key) ++ values) s.start (middle_of s) ≡ key
key_next xs key values cells s next =
    let high = middle_next xs key values cells s next in
    part_kept (xs ++ key) values s.start (middle_of s) (omega arith) (omega (arith, high)) ∙ last_part xs key s.start (middle_of s) next.start high

group_pushed : (xs key values cells : List Value) (spans : List GroupSpan) (s : GroupSpan) → IsNext xs key values cells s → All (IsGroupAt xs) spans
    → map (group_at cells) (spans ++ s ∷ []) ≡ map (group_at xs) spans ++ (key, values) ∷ []
group_pushed xs key values cells spans s next h =
    (λ i. map (group_at (next.whole i)) (spans ++ s ∷ []))
    ∙ map-append (group_at ((xs ++ key) ++ values)) spans (s ∷ [])
    ∙ (λ i. (map (group_at (append_assoc xs key values i)) spans) ++ (key_next xs key values cells s next i, last_part (xs ++ key) values (middle_of s) (end_of s) (middle_next xs key values cells s next) (end_next xs key values cells s next) i) ∷ [])
    ∙ (λ i. groups_kept xs (key ++ values) spans h i ++ (key, values) ∷ [])

span_pushed : (xs key values cells : List Value) (spans : List GroupSpan) (s : GroupSpan) → IsNext xs key values cells s → All (IsGroupAt xs) spans
    → All (IsGroupAt cells) (spans ++ s ∷ [])
span_pushed xs key values cells spans s next h =
    let others : All (IsGroupAt ((xs ++ key) ++ values)) spans = subst (λ l. All (IsGroupAt l) spans) (sym (append_assoc xs key values)) (all_kept xs (key ++ values) spans h) in
    let one : IsGroupAt ((xs ++ key) ++ values) s = omega (arith, end_next xs key values cells s next) in
    subst (λ l. All (IsGroupAt l) (spans ++ s ∷ [])) (sym next.whole) (All-push (IsGroupAt ((xs ++ key) ++ values)) spans s others one)

-- a group more, whose cells were appended to the list
module _ (xs key values cells : List Value) (s : GroupSpan) (spans now : List GroupSpan) (whole : cells ≡ (xs ++ key) ++ values) (h : All (IsGroupAt xs) spans) where
  pub put_groups : IsSpan (length xs) (length key) (length values) s → now ≡ spans ++ s ∷ [] → All (IsGroupAt cells) now
  put_groups span is = subst (All (IsGroupAt cells)) (sym is) (span_pushed xs key values cells spans s (next_by xs key values cells s span whole) h)

  pub put_is : IsSpan (length xs) (length key) (length values) s → now ≡ spans ++ s ∷ [] → map (group_at cells) now ≡ map (group_at xs) spans ++ (key, values) ∷ []
  put_is span is = ap (map (group_at cells)) is ∙ group_pushed xs key values cells spans s (next_by xs key values cells s span whole) h

  pub not_put : now ≡ spans → All (IsGroupAt cells) now
  not_put same = kept_on xs cells (key ++ values) spans now (whole ∙ append_assoc xs key values) same h

-- the same span, by other names for where it begins and how many cells it has
pub span_as : {start key values start' key' values' : ℕ} {s : GroupSpan} → start ≡ start' → key ≡ key' → values ≡ values' → IsSpan start key values s → IsSpan start' key' values' s
span_as {start} {key} {values} {start'} {key'} {values'} {s} a b c is = subst (λ n. IsSpan n key' values' s) a (subst (λ n. IsSpan start n values' s) b (subst (λ n. IsSpan start key n s) c is))

-- ---- their order

spans_total : (cells : List Value) → IsTotalOrder (compare_at cells)
spans_total cells =
    then_total (on_total (λ (s : GroupSpan). s.prefix) (then_total (on_total (λ (f : SortPrefix). f.high) nat_cmp_total) (on_total (λ (f : SortPrefix). f.low) nat_cmp_total)))
    (on_total (λ (s : GroupSpan). part cells s.start (middle_of s)) keys_total)

-- what a sort by a closure that compares spans ensures
pub sorted_at : {F : Type 0} {g : Mut F (Bor GroupSpan × (Bor GroupSpan × Unit {0})) Ordering} {f : F} (cells : List Value) (spans : List GroupSpan) → IsSortedByClosure g f spans
    → ((a : Bor GroupSpan × (Bor GroupSpan × Unit {0})) (r : Ordering) (f' : F) → Called g f a r f' → (r ≡ compare_at cells a.0.now a.1.0.now) × (f' ≡ f)) → IsSorted (compare_at cells) spans
sorted_at {g = g} {f = f} cells spans up h =
    up (λ x y. is_lt (compare_at cells x y)) (ranks_by (spans_total cells) (λ s. s))
    (always_returns_same g (λ a r. is_lt r ≡ is_lt (compare_at cells a.0.now a.1.0.now)) f (λ a r f' k. (ap is_lt (h a r f' k).0, (h a r f' k).1)))

-- groups whose spans are in the order of their keys
pub groups_sorted : (cells : List Value) (spans : List GroupSpan) → IsSortedByKey (key_at cells) compare_keys spans → IsSortedByKey (λ (g : Group). g.0) compare_keys (map (group_at cells) spans)
groups_sorted cells spans up = λ k d low high.
    let none : GroupSpan = record { prefix = record { high = 0; low = 0 }; start = 0; key = 0; values = 0 } in
    let within : k + 1 < length spans = omega (arith, high, length-map spans (group_at cells)) in
    let before : k < length spans = omega (arith, within) in
    rw (get_or-map (group_at cells) spans (k + 1) none d within, get_or-map (group_at cells) spans k none d before) (up k none low within)

-- ---- as rows

part_whole : {X : Type 0} (xs : List X) (start middle end : ℕ) → start ≤ middle → middle ≤ end → part xs start end ≡ part xs start middle ++ part xs middle end
part_whole {X = X} xs start middle end a b =
    let wide : (middle - start) + (end - middle) ≡ end - start = omega (arith, a, b) in
    let low : (middle - start) + start ≡ middle = omega (arith, a) in
    ap (λ n. take n (drop start xs)) (sym wide) ∙ take-add (middle - start) (end - middle) (drop start xs) ∙ (λ i. take (middle - start) (drop start xs) ++ take (end - middle) (behind i))
  where
    behind : drop (middle - start) (drop start xs) ≡ drop middle xs
    behind = grind (arith, common_steps)

pub rows_are : (cells : List Value) (spans : List GroupSpan) → All (IsGroupAt cells) spans
    → map (row_at cells) (map (λ (s : GroupSpan). record { start = s.start; end = end_of s }) spans) ≡ map row_of (map (group_at cells) spans)
rows_are cells [] h = refl
rows_are cells (s ∷ spans) h =
    λ i. part_whole cells s.start (middle_of s) (end_of s) (omega arith) (omega arith) i ∷ rows_are cells spans (All-tail (IsGroupAt cells) s spans h) i

pub rows_within : (cells : List Value) (spans : List GroupSpan) → All (IsGroupAt cells) spans → All (IsPart cells) (map (λ (s : GroupSpan). record { start = s.start; end = end_of s }) spans)
rows_within cells [] h = All-nil (IsPart cells)
rows_within cells (s ∷ spans) h =
    let first = All-head (IsGroupAt cells) s spans h in
    All-cons (IsPart cells) (record { start = s.start; end = end_of s }) (map (λ (s : GroupSpan). record { start = s.start; end = end_of s }) spans)
    (omega arith, first) (rows_within cells spans (All-tail (IsGroupAt cells) s spans h))

pub values_are : (cells : List Value) (spans : List GroupSpan)
    → map (row_at cells) (map (λ (s : GroupSpan). record { start = middle_of s; end = end_of s }) spans) ≡ map (λ (g : Group). g.1) (map (group_at cells) spans)
values_are cells [] = refl
values_are cells (s ∷ spans) = ap (λ l. part cells (middle_of s) (end_of s) ∷ l) (values_are cells spans)

pub values_within : (cells : List Value) (spans : List GroupSpan) → All (IsGroupAt cells) spans → All (IsPart cells) (map (λ (s : GroupSpan). record { start = middle_of s; end = end_of s }) spans)
values_within cells [] h = All-nil (IsPart cells)
values_within cells (s ∷ spans) h =
    let first = All-head (IsGroupAt cells) s spans h in
    All-cons (IsPart cells) (record { start = middle_of s; end = end_of s }) (map (λ (s : GroupSpan). record { start = middle_of s; end = end_of s }) spans)
    (omega arith, first) (values_within cells spans (All-tail (IsGroupAt cells) s spans h))
