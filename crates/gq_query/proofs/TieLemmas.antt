-- Runs of groups whose prefixes tie.
use Rattle.std.proofs.Common.{◌≡◌, ◌<◌, ◌≤◌, ◌+◌, ◌-◌, ℕ, suc, Bool, false, List, [], ◌∷◌, ◌++◌, length, map, take, drop, get_or, All, Ordering, IsPermutation, inl, inr, refl, sym, ap, subst, ◌∙◌, arith}
use lib.ListN.{set}
use borrow.Rule.Slice.PartMut.{mid_of, post_of, put_mid, put_same}
use Rattle.std.specs.List.Sorted.{IsSorted, IsSortedBy, IsSortedByKey, IsSortedWithin}
use Rattle.std.specs.Ordering.{is_lt, ordering_then}
use Rattle.std.proofs.lemmas.List.{drop-map, get_or-append-add, get_or-drop, get_or-map, get_or-set_other, get_or-set_same, get_or-take, get_or_append_left, get_or_default, length-drop, length-map, length-take-le, map-append, take-map, take_at}
use Rattle.std.proofs.lemmas.Bool.{cases_lt, cases_order}
use Rattle.std.proofs.lemmas.List.Elements.{All-drop, All-head, All-map, All-tail, All-take}
use Rattle.std.proofs.lemmas.List.Sorted.{All-permutation, IsPermutation-map, IsPermutation-put_mid, length_permutation}
use Rattle.gq_query.specs.declared.sort_prefix.SortPrefix.{SortPrefix}
use Rattle.gq_query.specs.declared.group_list.GroupSpan.{GroupSpan}
use Rattle.gq_row.specs.declared.value.Value.{Value}
use Rattle.gq_row.specs.Order.{compare_keys}
use Rattle.gq_row.specs.Rows.{cell}
use Rattle.gq_cells.specs.declared.cell_ref.CellRef.{CellRef}
use Rattle.gq_cells.specs.Cells.{value_of}
use Rattle.gq_query.specs.declared.frames.Frames.{Frames}
use Rattle.gq_query.specs.declared.tie_sort.Tie.{Tie}
use Rattle.gq_query.specs.SortPrefixes.{IsPairPrefix, Place, past, without_bytes}
use Rattle.gq_query.specs.GroupSpans.{HasPrefix, IsGroupAt, PrefixesDecide, compare_at, group_at, key_at, middle_of, with_prefix}
use Rattle.gq_query.specs.Frames.{AreFrames, HasFramePrefix}
use Rattle.gq_query.specs.Ties.{AreTied, GoesOn, HasRestPrefix, KeysTie, TieUpTo}
use Rattle.gq_query.proofs.FrameLemmas.{frames_first}
use Rattle.gq_query.proofs.SortPrefixLemmas.{past_prefix, rest_first, same, tie_whole}

-- a span is below another by its prefix and its key, or by its key alone
abbrev pub span_below : List Value → GroupSpan → GroupSpan → Bool
span_below cells a b = is_lt (compare_at cells a b)

abbrev pub key_below : List Value → GroupSpan → GroupSpan → Bool
key_below cells a b = is_lt (compare_keys (key_at cells a) (key_at cells b))

-- spans with a prefix are unchanged when they are given it
pub given_own : (p : SortPrefix) (spans : List GroupSpan) → All (HasPrefix p) spans → map (with_prefix p) spans ≡ spans
given_own p [] h = refl
given_own p (s ∷ spans) h =
    let own : s.prefix ≡ p = All-head (HasPrefix p) s spans h in
    λ i. record { prefix = sym own i; start = s.start; key = s.key; values = s.values } ∷ given_own p spans (All-tail (HasPrefix p) s spans h) i

-- what a part of a list is replaced by, under a map
mapped_part : {X Y : Type 0} (f : X → Y) (a k : ℕ) (xs ys : List X) → map f (put_mid a k xs ys) ≡ put_mid a k (map f xs) (map f ys)
mapped_part f a k xs ys =
    map-append f (take a xs) (ys ++ post_of a k xs)
    ∙ (λ i. sym (take-map f a xs) i ++ map-append f ys (post_of a k xs) i)
    ∙ ap (λ l. take a (map f xs) ++ (map f ys ++ l)) (sym (drop-map f k (drop a xs)) ∙ ap (drop k) (sym (drop-map f a xs)))

mapped_middle : {X Y : Type 0} (f : X → Y) (a k : ℕ) (xs : List X) → map f (mid_of a k xs) ≡ mid_of a k (map f xs)
mapped_middle f a k xs = sym (take-map f k (drop a xs)) ∙ ap (take k) (sym (drop-map f a xs))

-- a part of a list is put in another order
pub part_moved : {X Y : Type 0} (f : X → Y) (a k : ℕ) (xs ys : List X) → IsPermutation (map f (mid_of a k xs)) (map f ys) → IsPermutation (map f xs) (map f (put_mid a k xs ys))
part_moved f a k xs ys moved =
    subst (IsPermutation (map f xs)) (sym (mapped_part f a k xs ys)) (IsPermutation-put_mid a k (map f xs) (map f ys) (subst (λ l. IsPermutation l (map f ys)) (mapped_middle f a k xs) moved))

-- a part of a list is replaced by one that is the same under a map
pub part_same : {X Y : Type 0} (f : X → Y) (a k : ℕ) (xs ys : List X) → map f ys ≡ map f (mid_of a k xs) → map f (put_mid a k xs ys) ≡ map f xs
part_same f a k xs ys same =
    mapped_part f a k xs ys ∙ ap (put_mid a k (map f xs)) (same ∙ mapped_middle f a k xs) ∙ put_same a k (map f xs)

-- spans with one prefix that were moved while they had others, and have it again
pub moved_back : (p : SortPrefix) (old new : List GroupSpan) → All (HasPrefix p) old → All (HasPrefix p) new
    → IsPermutation (map (with_prefix p) old) (map (with_prefix p) new) → IsPermutation old new
moved_back p old new before after moved =
    subst (IsPermutation old) (given_own p new after) (subst (λ l. IsPermutation l (map (with_prefix p) new)) (given_own p old before) moved)

-- one element more is as it should be
pub set_more : {X : Type 0} (P : ℕ → X → Type 0) (xs : List X) (i : ℕ) (x : X) → i < length xs → P i x
    → ((k : ℕ) (d : X) → k < i → P k (get_or xs k d)) → (k : ℕ) (d : X) → k < i + 1 → P k (get_or (set xs i x) k d)
set_more P xs i x within is h k d lt = elim (cases_lt k i) [
  | inl below ↦ subst (P k) (sym (get_or-set_other xs i k x d (λ e. absurd (omega (arith, e, below))))) (h k d below)
  | inr above ↦
      let same : k ≡ i = omega (arith, above, lt) in
      subst (λ m. P m (get_or (set xs i x) m d)) (sym same) (subst (P i) (sym (get_or-set_same xs i x d within)) is)
]

-- what was found is the cell at a position of the key of a span
abbrev pub IsCellAt : List Value → List GroupSpan → ℕ → ℕ → CellRef → Type 0
IsCellAt cells spans position k found = (d : GroupSpan) → value_of found ≡ cell (key_at cells (get_or spans k d)) position

-- spans that were moved as the slice of a vector, and have other prefixes
pub spans_moved : (n : ℕ) (ys xs zs : List GroupSpan) → n ≡ length ys → xs ≡ ys → ((p : SortPrefix) → IsPermutation (map (with_prefix p) xs) (map (with_prefix p) zs))
    → (take n (zs ++ drop (length zs) ys) ≡ zs) × ((p : SortPrefix) → IsPermutation (map (with_prefix p) ys) (map (with_prefix p) (take n (zs ++ drop (length zs) ys))))
spans_moved n ys xs zs long is moved =
    let none : SortPrefix = record { high = 0; low = 0 } in
    let from : (p : SortPrefix) → IsPermutation (map (with_prefix p) ys) (map (with_prefix p) zs) = λ p. subst (λ l. IsPermutation (map (with_prefix p) l) (map (with_prefix p) zs)) is (moved p) in
    let as_long : length zs ≡ length ys = sym (length-map zs (with_prefix none)) ∙ length_permutation (map (with_prefix none) ys) (map (with_prefix none) zs) (from none) ∙ length-map ys (with_prefix none) in
    let whole : take n (zs ++ drop (length zs) ys) ≡ zs = take_at zs (drop (length zs) ys) n (as_long ∙ sym long) in
    (whole, λ p. subst (λ l. IsPermutation (map (with_prefix p) ys) (map (with_prefix p) l)) (sym whole) (from p))

groups_same : (cells : List Value) (p : SortPrefix) (spans : List GroupSpan) → map (group_at cells) (map (with_prefix p) spans) ≡ map (group_at cells) spans
groups_same cells p [] = refl
groups_same cells p (s ∷ spans) = ap (λ l. group_at cells s ∷ l) (groups_same cells p spans)

pub groups_moved : (cells : List Value) (ys zs : List GroupSpan) → ((p : SortPrefix) → IsPermutation (map (with_prefix p) ys) (map (with_prefix p) zs)) → IsPermutation (map (group_at cells) ys) (map (group_at cells) zs)
groups_moved cells ys zs moved =
    let p : SortPrefix = record { high = 0; low = 0 } in
    subst (λ l. IsPermutation l (map (group_at cells) zs)) (groups_same cells p ys)
    (subst (IsPermutation (map (group_at cells) (map (with_prefix p) ys))) (groups_same cells p zs) (IsPermutation-map (group_at cells) (map (with_prefix p) ys) (map (with_prefix p) zs) (moved p)))

-- what doesn't depend on prefixes holds of spans that were moved
pub moved_all : (P : GroupSpan → Type 0) (ys zs : List GroupSpan) → ((p : SortPrefix) (s : GroupSpan) → P s → P (with_prefix p s)) → ((s : GroupSpan) (p : SortPrefix) → P (with_prefix p s) → P s)
    → ((p : SortPrefix) → IsPermutation (map (with_prefix p) ys) (map (with_prefix p) zs)) → All P ys → All P zs
moved_all P ys zs to from moved all =
    let p : SortPrefix = record { high = 0; low = 0 } in
    let there : All P (map (with_prefix p) zs) = All-permutation P (map (with_prefix p) ys) (map (with_prefix p) zs) (moved p) (All-map P (with_prefix p) ys (λ k d lt. to p (get_or ys k d) (all k d lt))) in
    λ k d lt. from (get_or zs k d) p (subst P (get_or-map (with_prefix p) zs k d d lt) (there k d (omega (arith, lt, length-map zs (with_prefix p)))))

pub keep_places : (cells : List Value) (ys zs : List GroupSpan) → ((p : SortPrefix) → IsPermutation (map (with_prefix p) ys) (map (with_prefix p) zs)) → All (IsGroupAt cells) ys → All (IsGroupAt cells) zs
keep_places cells ys zs moved all = moved_all (IsGroupAt cells) ys zs (λ p s h. h) (λ s p h. h) moved all

-- spans that are given prefixes keep the order of their keys
pub resorted : {X K : Type 0} (key : X → K) (cmp : K → K → Ordering) (xs ys : List X) → map key ys ≡ map key xs → IsSortedByKey key cmp xs → IsSortedByKey key cmp ys
resorted key cmp xs ys same up n d low high =
    let long : length ys ≡ length xs = sym (length-map ys key) ∙ ap length same ∙ length-map xs key in
    let at : (m : ℕ) → m < length ys → key (get_or ys m d) ≡ key (get_or xs m d) = λ m lt.
    sym (get_or-map key ys m d (key d) lt) ∙ ap (λ l. get_or l m (key d)) same ∙ get_or-map key xs m d (key d) (omega (arith, lt, long)) in
    (λ i. is_lt (cmp (at (n + 1) high i) (at n (omega (arith, high)) i))) ∙ up n d low (omega (arith, high, long))

-- spans with one prefix are in order if their keys are
tied : (cells : List Value) (a b : GroupSpan) → a.prefix ≡ b.prefix → compare_at cells a b ≡ compare_keys (key_at cells a) (key_at cells b)
tied cells a b e = ap (λ o. ordering_then o (compare_keys (key_at cells a) (key_at cells b)))
    ((λ i. ordering_then (same a.prefix.high b.prefix.high (ap (λ (p : SortPrefix). p.high) e) i) (same a.prefix.low b.prefix.low (ap (λ (p : SortPrefix). p.low) e) i)))

pub tie_sorted : (cells : List Value) (p : SortPrefix) (spans : List GroupSpan) → All (HasPrefix p) spans → IsSortedByKey (key_at cells) compare_keys spans → IsSorted (compare_at cells) spans
tie_sorted cells p spans has up n d low high =
    ap is_lt (tied cells (get_or spans (n + 1) d) (get_or spans n d) (has (n + 1) d high ∙ sym (has n d (omega (arith, high))))) ∙ up n d low high

-- ---- chunks in order

-- the elements before a chunk, and those of the chunk
before_chunk : {X : Type 0} (a k : ℕ) (xs ys : List X) (n : ℕ) (d : X) → a ≤ length xs → n < a → get_or (put_mid a k xs ys) n d ≡ get_or xs n d
before_chunk a k xs ys n d within lt =
    get_or_append_left (take a xs) (ys ++ post_of a k xs) d n (omega (arith, within, lt, length-take-le a xs within)) ∙ get_or-take a xs n d lt

in_chunk : {X : Type 0} (a k : ℕ) (xs ys : List X) (n m : ℕ) (d : X) → a ≤ length xs → m < length ys → n ≡ a + m → get_or (put_mid a k xs ys) n d ≡ get_or ys m d
in_chunk a k xs ys n m d within lt is =
    ap (λ i. get_or (put_mid a k xs ys) i d) (is ∙ ap (λ i. i + m) (sym (length-take-le a xs within)))
    ∙ get_or-append-add (take a xs) (ys ++ post_of a k xs) m d
    ∙ get_or_append_left ys (post_of a k xs) d m lt

-- a chunk keeps its length
pub chunk_long : {X : Type 0} (a e : ℕ) (xs ys : List X) → a ≤ e → e ≤ length xs → IsPermutation (mid_of a (e - a) xs) ys → length ys ≡ e - a
chunk_long a e xs ys le within moved =
    let rest = length-drop a xs in
    length_permutation (mid_of a (e - a) xs) ys moved ∙ length-take-le (e - a) (drop a xs) (omega (arith, rest, within, le))

module _ {X : Type 0} (below : X → X → Bool) where
  not_below : (a b x y : X) → a ≡ x → b ≡ y → below x y ≡ false → below a b ≡ false
  not_below a b x y p q h = (λ i. below (p i) (q i)) ∙ h

  -- the elements before a chunk stay in order, whatever the chunk becomes
  pub sorted_before : (a k : ℕ) (xs ys : List X) → a ≤ length xs → IsSortedWithin below xs 0 a → IsSortedWithin below (put_mid a k xs ys) 0 a
  sorted_before a k xs ys within up n d low high =
      not_below _ _ _ _ (before_chunk a k xs ys (n + 1) d within high) (before_chunk a k xs ys n d within (omega (arith, high))) (up n d low high)

  -- one element more
  pub one_more : (a e : ℕ) (xs : List X) → e ≡ a + 1 → IsSortedWithin below xs 0 a → ((d : X) → 0 < a → below (get_or xs a d) (get_or xs (a - 1) d) ≡ false) → IsSortedWithin below xs 0 e
  one_more a e xs next up border n d low high = elim (cases_lt (n + 1) a) [
    | inl lt ↦ up n d low lt
    | inr le ↦ not_below _ _ _ _ (ap (λ i. get_or xs i d) (omega (arith, le, high, next))) (ap (λ i. get_or xs i d) (omega (arith, le, high, next))) (border d (omega (arith, le, high, next)))
  ]

  -- a chunk more, the first element of which isn't below the last one before it
  pub chunk_more : (a e : ℕ) (xs ys : List X) → a ≤ e → e ≤ length xs → length ys ≡ e - a → IsSortedWithin below xs 0 a → IsSortedBy below ys
      → ((d : X) → 0 < a → below (get_or (put_mid a (e - a) xs ys) a d) (get_or (put_mid a (e - a) xs ys) (a - 1) d) ≡ false) → IsSortedWithin below (put_mid a (e - a) xs ys) 0 e
  chunk_more a e xs ys le within long up chunk border n d low high = elim (cases_order (n + 1) a) [
    | inl is ↦ not_below _ _ _ _ (ap (λ i. get_or (put_mid a (e - a) xs ys) i d) is) (ap (λ i. get_or (put_mid a (e - a) xs ys) i d) (omega (arith, is))) (border d (omega (arith, is)))
    | inr (inl lt) ↦ sorted_before a (e - a) xs ys (omega (arith, le, within)) up n d low lt
    | inr (inr gt) ↦ not_below _ _ _ _
        (in_chunk a (e - a) xs ys (n + 1) ((n - a) + 1) d (omega (arith, le, within)) (omega (arith, gt, high, long)) (omega (arith, gt)))
        (in_chunk a (e - a) xs ys n (n - a) d (omega (arith, le, within)) (omega (arith, gt, high, long)) (omega (arith, gt)))
        (chunk (n - a) d (omega arith) (omega (arith, gt, high, long)))
  ]

  -- elements in order up to the end are in order
  pub sorted_whole : (a : ℕ) (xs : List X) → length xs ≤ a → IsSortedWithin below xs 0 a → IsSortedBy below xs
  sorted_whole a xs le up n d low high = up n d low (omega (arith, le, high))

-- ---- keys that tie

-- the keys of spans don't depend on their prefixes
keys_same : (cells : List Value) (p : SortPrefix) (spans : List GroupSpan) → map (key_at cells) (map (with_prefix p) spans) ≡ map (key_at cells) spans
keys_same cells p [] = refl
keys_same cells p (s ∷ spans) = ap (λ l. key_at cells s ∷ l) (keys_same cells p spans)

-- what is said of keys, of each two of them too, holds of a list that has no others
fewer : (tie : Tie) (keys others : List (List Value)) → ((P : List Value → Type 0) → All P keys → All P others) → KeysTie tie keys → KeysTie tie others
fewer tie keys others kept h = record {
  wide = kept (λ key. tie.width ≤ length key) h.wide;
  ties = λ k d lt. kept (TieUpTo tie.cell tie.skip (get_or others k d)) (kept (λ a. All (TieUpTo tie.cell tie.skip a) keys) h.ties k d lt);
}

-- spans that were moved, or a part of them
pub moved_tied : (cells : List Value) (tie : Tie) (old new : List GroupSpan) → IsPermutation old new → AreTied cells tie old → AreTied cells tie new
moved_tied cells tie old new moved =
    fewer tie (map (key_at cells) old) (map (key_at cells) new) (λ P. All-permutation P (map (key_at cells) old) (map (key_at cells) new) (IsPermutation-map (key_at cells) old new moved))

pub given_tied : (cells : List Value) (tie : Tie) (p : SortPrefix) (old new : List GroupSpan) → IsPermutation (map (with_prefix p) old) (map (with_prefix p) new) → AreTied cells tie old → AreTied cells tie new
given_tied cells tie p old new moved h =
    subst (KeysTie tie) (keys_same cells p new) (moved_tied cells tie (map (with_prefix p) old) (map (with_prefix p) new) moved (subst (KeysTie tie) (sym (keys_same cells p old)) h))

pub part_tied : (cells : List Value) (tie : Tie) (a k : ℕ) (spans : List GroupSpan) → AreTied cells tie spans → AreTied cells tie (mid_of a k spans)
part_tied cells tie a k spans h =
    let keys = map (key_at cells) spans in
    subst (KeysTie tie) (sym (mapped_middle (key_at cells) a k spans)) (fewer tie keys (mid_of a k keys) (λ P all. All-take P k (drop a keys) (All-drop P a keys all)) h)

pub part_all : {X : Type 0} (P : X → Type 0) (a k : ℕ) (xs : List X) → All P xs → All P (mid_of a k xs)
part_all P a k xs all = All-take P k (drop a xs) (All-drop P a xs all)

-- of two spans with one key each
key_of_span : (cells : List Value) (P : List Value → Type 0) (spans : List GroupSpan) → All P (map (key_at cells) spans) → (k : ℕ) (d : GroupSpan) → k < length spans → P (key_at cells (get_or spans k d))
key_of_span cells P spans all k d lt =
    subst P (get_or-map (key_at cells) spans k d (key_at cells d) lt) (all k (key_at cells d) (omega (arith, lt, length-map spans (key_at cells))))

pair_ties : (cells : List Value) (tie : Tie) (spans : List GroupSpan) → AreTied cells tie spans → (j k : ℕ) (d : GroupSpan) → j < length spans → k < length spans
    → TieUpTo tie.cell tie.skip (key_at cells (get_or spans j d)) (key_at cells (get_or spans k d))
pair_ties cells tie spans h j k d below within =
    key_of_span cells (TieUpTo tie.cell tie.skip (key_at cells (get_or spans j d))) spans
    (key_of_span cells (λ a. All (TieUpTo tie.cell tie.skip a) (map (key_at cells) spans)) spans h.ties j d below) k d within

-- spans that tie and are in order have keys in order
pub rest_sorted : (cells : List Value) (tie : Tie) (spans : List GroupSpan) → AreTied cells tie spans → All (HasRestPrefix cells tie) spans → IsSorted (compare_at cells) spans → IsSortedByKey (key_at cells) compare_keys spans
rest_sorted cells tie spans tied has up n d low high =
    let before : n < length spans = omega (arith, high) in
    let a = get_or spans (n + 1) d in
    let b = get_or spans n d in
    ap is_lt (sym (rest_first tie.cell tie.skip (key_at cells a) (key_at cells b) a.prefix b.prefix (pair_ties cells tie spans tied (n + 1) n d high before) (has (n + 1) d high) (has n d before))) ∙ up n d low high

-- spans with one prefix tie further
pub tied_next : (cells : List Value) (tie next : Tie) (p : SortPrefix) (spans : List GroupSpan) → GoesOn tie p next → AreTied cells tie spans → All (HasRestPrefix cells tie) spans → All (HasPrefix p) spans → AreTied cells next spans
tied_next cells tie next p spans on tied has same = record {
  wide = subst (λ w. All (λ key. w ≤ length key) (map (key_at cells) spans)) (sym on.wide) tied.wide;
  ties = λ j a below k b within.
      let none : GroupSpan = record { prefix = record { high = 0; low = 0 }; start = 0; key = 0; values = 0 } in
      let at_j : j < length spans = omega (arith, below, length-map spans (key_at cells)) in
      let at_k : k < length spans = omega (arith, within, length-map spans (key_at cells)) in
      subst (λ x. TieUpTo next.cell next.skip x (get_or (map (key_at cells) spans) k b)) (sym (get_or-map (key_at cells) spans j none a at_j))
      (subst (TieUpTo next.cell next.skip (key_at cells (get_or spans j none))) (sym (get_or-map (key_at cells) spans k none b at_k)) (both j k none at_j at_k));
}
  where
    one : (k : ℕ) (d : GroupSpan) → k < length spans → IsPairPrefix (without_bytes tie.skip (cell (key_at cells (get_or spans k d)) tie.cell)) (cell (key_at cells (get_or spans k d)) (suc tie.cell)) p
    one k d lt = subst (IsPairPrefix (without_bytes tie.skip (cell (key_at cells (get_or spans k d)) tie.cell)) (cell (key_at cells (get_or spans k d)) (suc tie.cell))) (same k d lt) (has k d lt)

    within : (k : ℕ) (d : GroupSpan) → k < length spans → (past p (tie.cell, tie.skip)).0 < length (key_at cells (get_or spans k d))
    within k d lt = omega (arith, on.some, on.wide, ap (λ (at : Place). at.0) on.further, key_of_span cells (λ key. tie.width ≤ length key) spans tied.wide k d lt)

    both : (j k : ℕ) (d : GroupSpan) → j < length spans → k < length spans → TieUpTo next.cell next.skip (key_at cells (get_or spans j d)) (key_at cells (get_or spans k d))
    both j k d at_j at_k =
        subst (λ (at : Place). TieUpTo at.0 at.1 (key_at cells (get_or spans j d)) (key_at cells (get_or spans k d))) (sym on.further)
        (past_prefix tie.cell tie.skip (key_at cells (get_or spans j d)) (key_at cells (get_or spans k d)) p (pair_ties cells tie spans tied j k d at_j at_k) (one j d at_j) (one k d at_k) (within j d at_j) (within k d at_k))

-- spans that were moved after their prefixes were changed
pub changed_moved : (old changed new : List GroupSpan) → ((p : SortPrefix) → map (with_prefix p) changed ≡ map (with_prefix p) old) → IsPermutation changed new → (p : SortPrefix) → IsPermutation (map (with_prefix p) old) (map (with_prefix p) new)
changed_moved old changed new kept moved p = subst (λ l. IsPermutation l (map (with_prefix p) new)) (kept p) (IsPermutation-map (with_prefix p) changed new moved)

pub keep_widths : (width : ℕ) (ys zs : List GroupSpan) → ((p : SortPrefix) → IsPermutation (map (with_prefix p) ys) (map (with_prefix p) zs)) → All (λ (g : GroupSpan). width ≤ g.key) ys → All (λ (g : GroupSpan). width ≤ g.key) zs
keep_widths width ys zs moved all = moved_all (λ (g : GroupSpan). width ≤ g.key) ys zs (λ p s h. h) (λ s p h. h) moved all

key_long : (cells : List Value) (width : ℕ) (s : GroupSpan) → IsGroupAt cells s → width ≤ s.key → width ≤ length (key_at cells s)
key_long cells width s group le = omega (arith, le, group, length-take-le (middle_of s - s.start) (drop s.start cells) (omega (arith, group, length-drop s.start cells)))

-- prefixes that are made of codes decide the order of keys
pub frames_decide : (cells : List Value) (width : ℕ) (frames : Frames) (spans : List GroupSpan) → AreFrames width frames → All (IsGroupAt cells) spans → All (λ (g : GroupSpan). width ≤ g.key) spans
    → All (HasFramePrefix cells frames) spans → PrefixesDecide cells spans
frames_decide cells width frames spans valid at wide prefixed = λ j a below k b within.
    let x = get_or spans j a in
    let y = get_or spans k b in
    frames_first (key_at cells x) (key_at cells y) width (key_long cells width x (at j a below) (wide j a below)) (key_long cells width y (at k b within) (wide k b within)) frames valid x.prefix y.prefix (prefixed j a below) (prefixed k b within)

-- so groups in the order of prefixes and then of keys are in the order of keys
pub decided_sorted : (cells : List Value) (old new : List GroupSpan) → PrefixesDecide cells old → IsPermutation old new → IsSorted (compare_at cells) new → IsSortedByKey (key_at cells) compare_keys new
decided_sorted cells old new decide moved up = λ n d low high.
    let before : n < length new = omega (arith, high) in
    ap is_lt (sym (all (n + 1) d high n d before)) ∙ up n d low high
  where
    all : PrefixesDecide cells new
    all = λ j a below k b within.
        All-permutation (λ y. compare_at cells (get_or new j a) y ≡ compare_keys (key_at cells (get_or new j a)) (key_at cells y)) old new moved
        (All-permutation (λ x. All (λ y. compare_at cells x y ≡ compare_keys (key_at cells x) (key_at cells y)) old) old new moved decide j a below) k b within

-- all groups tie in nothing
pub start_tied : (cells : List Value) (tie : Tie) (spans : List GroupSpan) → tie.cell ≡ 0 → tie.skip ≡ 0 → All (IsGroupAt cells) spans → All (λ (g : GroupSpan). tie.width ≤ g.key) spans → AreTied cells tie spans
start_tied cells tie spans none nothing at wide = record {
  wide = λ k d lt.
      let span : GroupSpan = record { prefix = record { high = 0; low = 0 }; start = 0; key = 0; values = 0 } in
      let within : k < length spans = omega (arith, lt, length-map spans (key_at cells)) in
      subst (λ key. tie.width ≤ length key) (sym (get_or-map (key_at cells) spans k span d within)) (key_long cells tie.width (get_or spans k span) (at k span within) (wide k span within));
  ties = λ j a below k b within. subst (λ c. TieUpTo c tie.skip (get_or (map (key_at cells) spans) j a) (get_or (map (key_at cells) spans) k b)) (sym none)
      (subst (λ s. TieUpTo 0 s (get_or (map (key_at cells) spans) j a) (get_or (map (key_at cells) spans) k b)) (sym nothing) (tie_whole (get_or (map (key_at cells) spans) j a) (get_or (map (key_at cells) spans) k b)));
}

-- the key of a span whose prefix was changed
pub key_kept : (cells : List Value) (p : SortPrefix) (xs ys : List GroupSpan) (k : ℕ) (d : GroupSpan) → map (with_prefix p) xs ≡ map (with_prefix p) ys → k < length xs → key_at cells (get_or xs k d) ≡ key_at cells (get_or ys k d)
key_kept cells p xs ys k d same lt =
    let long : length xs ≡ length ys = sym (length-map xs (with_prefix p)) ∙ ap length same ∙ length-map ys (with_prefix p) in
    ap (key_at cells) (sym (get_or-map (with_prefix p) xs k d d lt) ∙ ap (λ l. get_or l k d) same ∙ get_or-map (with_prefix p) ys k d d (omega (arith, lt, long)))

-- a chunk whose prefixes were changed is as long
pub chunk_size : (a e : ℕ) (xs ys : List GroupSpan) → a ≤ e → e ≤ length xs → ((p : SortPrefix) → map (with_prefix p) ys ≡ map (with_prefix p) (mid_of a (e - a) xs)) → length ys ≡ e - a
chunk_size a e xs ys le within same =
    let p : SortPrefix = record { high = 0; low = 0 } in
    let rest = length-drop a xs in
    sym (length-map ys (with_prefix p)) ∙ ap length (same p) ∙ length-map (mid_of a (e - a) xs) (with_prefix p) ∙ length-take-le (e - a) (drop a xs) (omega (arith, rest, within, le))

-- what holds before a chunk and in it
pub chunk_all : {X : Type 0} (P : X → Type 0) (a e : ℕ) (xs ys : List X) → a ≤ e → e ≤ length xs → length ys ≡ e - a → ((k : ℕ) (d : X) → k < a → P (get_or xs k d)) → All P ys
    → (k : ℕ) (d : X) → k < e → P (get_or (put_mid a (e - a) xs ys) k d)
chunk_all P a e xs ys le within long before in_it k d lt = elim (cases_lt k a) [
  | inl below ↦ subst P (sym (before_chunk a (e - a) xs ys k d (omega (arith, le, within)) below)) (before k d below)
  | inr above ↦ subst P (sym (in_chunk a (e - a) xs ys k (k - a) d (omega (arith, le, within)) (omega (arith, above, lt, long)) (omega (arith, above)))) (in_it (k - a) d (omega (arith, above, lt, long)))
]

-- spans from one up to another have its prefix
pub tie_same : (spans : List GroupSpan) (a e : ℕ) (none : GroupSpan) → a < e → e ≤ length spans → ((k : ℕ) (d : GroupSpan) → a ≤ k → k < e → HasPrefix (get_or spans a d).prefix (get_or spans k d))
    → All (HasPrefix (get_or spans a none).prefix) (mid_of a (e - a) spans)
tie_same spans a e none low high ties k d lt =
    let long : length (mid_of a (e - a) spans) ≡ e - a = length-take-le (e - a) (drop a spans) (omega (arith, high, low, length-drop a spans)) in
    let within : k < e - a = omega (arith, lt, long) in
    ap (λ (s : GroupSpan). s.prefix) (get_or-take (e - a) (drop a spans) k d within ∙ get_or-drop a spans k d)
    ∙ ties (a + k) d (omega arith) (omega (arith, within))
    ∙ ap (λ (s : GroupSpan). s.prefix) (get_or_default spans a d none (omega (arith, low, high)))
