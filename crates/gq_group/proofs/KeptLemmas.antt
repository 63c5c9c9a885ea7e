-- Groups whose keys are in one list and their aggregates in another: the finite map of them, with one group more, or with one changed.
use Rattle.std.proofs.Common.{◌≡◌, ℕ, suc, zero, ◌+◌, ◌*◌, ◌≤◌, ◌<◌, Bool, true, false, cond, List, [], ◌∷◌, ◌++◌, length, map, Option, Some, None, refl, sym, ap, subst, ◌∙◌, arith, true≢false, inl, inr, length-append}
use Rattle.std.specs.Prelude.{is_some, IfSome, IsSome}
use Rattle.std.specs.Option.{option_map, option_to_list}
use Rattle.std.specs.List.{AllByRecursion, slice_get}
use Rattle.std.specs.Cmp.Lexicographic.{nat_list_cmp_total}
use Rattle.std.specs.FinMap.{insert, get, len, empty, contains_key, same_map, get-empty, get-insert, len-empty, len-insert}
use Rattle.std.proofs.lemmas.Bool.{cases_lt}
use Rattle.std.proofs.lemmas.List.{length-map, map-append}
use Rattle.sw_flat.specs.Maps.{ListsAll}
use Rattle.sw_flat.proofs.Classes.{same, same_is, same_itself, some_is, none_some, exact}
use Rattle.sw_index.specs.Index.{AreDifferent, HasNone, IsFound, IsAbsent}
use Rattle.sw_index.proofs.NumberLemmas.{different-more}
use Rattle.sw_index.specs.declared.found.Found.{Found}
use Rattle.sw_index.specs.declared.found.Found.TheVariants.{At, Absent}
use Rattle.gq_row.specs.declared.value.Value.{Value}
use Rattle.gq_row.specs.Classes.{class_of}
use Rattle.gq_agg.specs.Running.{Running}
use Rattle.gq_group.specs.Entries.{Pair, listed}
use Rattle.gq_group.specs.Maps.{Start, chunk, pair_at, starts_from, pairs_from, AreKept, NoneShared, IsGroup, IsNoGroup}
use Rattle.gq_group.proofs.ChunkLemmas.{chunk-append, chunk-last, pairs-other, Written}
use Rattle.gq_group.proofs.MapGroups.{listed_first}

-- ---- lists in which no class occurs twice

module _ {V : Type 0} where
  abbrev First : List Value × V → List ℕ
  First p = class_of p.0

  -- what the map has is in the list
  pub listed_tells : (xs : List (List Value × V)) (c : List ℕ) (p : List Value × V) → get (listed xs) c ≡ Some p → (n : ℕ) × (slice_get xs n ≡ Some p) × (class_of p.0 ≡ c)
  listed_tells [] c p e = absurd (none_some p (sym (get-empty _ c) ∙ e))
  listed_tells (x ∷ xs) c p e = told (same c (class_of x.0)) refl (listed_tells xs c p) (sym (get-insert nat_list_cmp_total (listed xs) (class_of x.0) x c) ∙ e)
    where
      told : (b : Bool) → same c (class_of x.0) ≡ b → (get (listed xs) c ≡ Some p → (n : ℕ) × (slice_get xs n ≡ Some p) × (class_of p.0 ≡ c)) → cond b (Some x) (get (listed xs) c) ≡ Some p
          → (n : ℕ) × (slice_get (x ∷ xs) n ≡ Some p) × (class_of p.0 ≡ c)
      told true is later h = (0, h, ap (λ (q : List Value × V). class_of q.0) (sym (some_is x p h)) ∙ sym (same_is c (class_of x.0) is))
      told false is later h = let rest = later h in (suc rest.0, rest.1, rest.2)

  behind : (x : List Value × V) (xs : List (List Value × V)) → AreDifferent First (x ∷ xs) → AreDifferent First xs
  behind x xs different i j a b at at' is = let next : suc i ≡ suc j = different (suc i) (suc j) a b at at' is in omega (arith, next)

  -- the first is of no class after it
  first_alone : (x : List Value × V) (xs : List (List Value × V)) → AreDifferent First (x ∷ xs) → contains_key (listed xs) (class_of x.0) ≡ false
  first_alone x xs different = told (get (listed xs) (class_of x.0)) refl
    where
      told : (o : Option (List Value × V)) → get (listed xs) (class_of x.0) ≡ o → is_some o ≡ false
      told None e = refl
      told (Some p) e =
          let there = listed_tells xs (class_of x.0) p e in
          let bad : 0 ≡ suc there.0 = different 0 (suc there.0) x p refl there.1 (sym there.2) in
          absurd (omega (arith, bad))

  pub listed_all : (xs : List (List Value × V)) → AreDifferent First xs → len (listed xs) ≡ length xs
  listed_all [] different = len-empty _ _
  listed_all (x ∷ xs) different =
      len-insert nat_list_cmp_total (listed xs) (class_of x.0) x
      ∙ ap (λ b. cond b (len (listed xs)) (len (listed xs) + 1)) (first_alone x xs different)
      ∙ (let rest = listed_all xs (behind x xs different) in omega (arith, rest))

  -- the map has what is in the list
  pub listed_there : (xs : List (List Value × V)) (n : ℕ) (p : List Value × V) → AreDifferent First xs → slice_get xs n ≡ Some p → get (listed xs) (class_of p.0) ≡ Some p
  listed_there [] n p different at = absurd (none_some p at)
  listed_there (x ∷ xs) zero p different at = subst (λ (q : List Value × V). get (listed (x ∷ xs)) (class_of q.0) ≡ Some q) (some_is x p at) (listed_first x xs)
  listed_there (x ∷ xs) (suc n) p different at =
      get-insert nat_list_cmp_total (listed xs) (class_of x.0) x (class_of p.0)
      ∙ told (same (class_of p.0) (class_of x.0)) refl (listed_there xs n p (behind x xs different) at)
    where
      told : (b : Bool) → same (class_of p.0) (class_of x.0) ≡ b → get (listed xs) (class_of p.0) ≡ Some p → cond b (Some x) (get (listed xs) (class_of p.0)) ≡ Some p
      told true is later = let bad : suc n ≡ 0 = different (suc n) 0 p x at refl (same_is (class_of p.0) (class_of x.0) is) in absurd (omega (arith, bad))
      told false is later = later

  -- one more after them, of another class
  get_push : (xs : List (List Value × V)) (p : List Value × V) (c : List ℕ) → get (listed xs) (class_of p.0) ≡ None → get (listed (xs ++ p ∷ [])) c ≡ cond (same c (class_of p.0)) (Some p) (get (listed xs) c)
  get_push [] p c none = get-insert nat_list_cmp_total empty (class_of p.0) p c
  get_push (x ∷ xs) p c none =
      get-insert nat_list_cmp_total (listed (xs ++ p ∷ [])) (class_of x.0) x c
      ∙ ap (cond (same c (class_of x.0)) (Some x)) (get_push xs p c (later (same (class_of p.0) (class_of x.0)) front))
      ∙ told (same c (class_of x.0)) (same c (class_of p.0)) refl refl
      ∙ ap (cond (same c (class_of p.0)) (Some p)) (sym (get-insert nat_list_cmp_total (listed xs) (class_of x.0) x c))
    where
      front : cond (same (class_of p.0) (class_of x.0)) (Some x) (get (listed xs) (class_of p.0)) ≡ None
      front = sym (get-insert nat_list_cmp_total (listed xs) (class_of x.0) x (class_of p.0)) ∙ none

      later : (b : Bool) → cond b (Some x) (get (listed xs) (class_of p.0)) ≡ None → get (listed xs) (class_of p.0) ≡ None
      later true h = absurd (none_some x (sym h))
      later false h = h

      told : (a b : Bool) → same c (class_of x.0) ≡ a → same c (class_of p.0) ≡ b
          → cond a (Some x) (cond b (Some p) (get (listed xs) c)) ≡ cond b (Some p) (cond a (Some x) (get (listed xs) c))
      told true true is is' =
          let one : same (class_of p.0) (class_of x.0) ≡ true = same_itself (class_of p.0) (class_of x.0) (sym (same_is c (class_of p.0) is') ∙ same_is c (class_of x.0) is) in
          absurd (none_some x (sym front ∙ ap (λ b. cond b (Some x) (get (listed xs) (class_of p.0))) one))
      told true false is is' = refl
      told false true is is' = refl
      told false false is is' = refl

  pub listed_push : (xs : List (List Value × V)) (p : List Value × V) → get (listed xs) (class_of p.0) ≡ None → listed (xs ++ p ∷ []) ≡ insert (listed xs) (class_of p.0) p
  listed_push xs p none = same_map nat_list_cmp_total exact _ _ (λ c. get_push xs p c none ∙ sym (get-insert nat_list_cmp_total (listed xs) (class_of p.0) p c))

-- ---- what is made of each element

one_mapped : {X Y : Type 0} (f : X → Y) (b : Bool) (x : X) (o : Option X) → cond b (Some (f x)) (option_map f o) ≡ option_map f (cond b (Some x) o)
one_mapped f true x o = refl
one_mapped f false x o = refl

none_mapped : {X Y : Type 0} (f : X → Y) (o : Option X) → option_map f o ≡ None → o ≡ None
none_mapped f None h = refl
none_mapped f (Some x) h = absurd (true≢false (ap is_some h))

get_mapped : {X Y : Type 0} (f : X → Y) (xs : List X) (n : ℕ) → slice_get (map f xs) n ≡ option_map f (slice_get xs n)
get_mapped f [] n = refl
get_mapped f (x ∷ xs) zero = refl
get_mapped f (x ∷ xs) (suc n) = get_mapped f xs n

module _ (each : ℕ) (running : List Running) where
  get_listed : (xs : List Start) (c : List ℕ) → get (listed (map (pair_at each running) xs)) c ≡ option_map (pair_at each running) (get (listed xs) c)
  get_listed [] c = get-empty _ c ∙ sym (ap (option_map (pair_at each running)) (get-empty _ c))
  get_listed (s ∷ xs) c =
      get-insert nat_list_cmp_total (listed (map (pair_at each running) xs)) (class_of s.0) (pair_at each running s) c
      ∙ ap (cond (same c (class_of s.0)) (Some (pair_at each running s))) (get_listed xs c)
      ∙ one_mapped (pair_at each running) (same c (class_of s.0)) s (get (listed xs) c)
      ∙ ap (option_map (pair_at each running)) (sym (get-insert nat_list_cmp_total (listed xs) (class_of s.0) s c))

-- ---- where the aggregates of each key begin

times_none : (w : ℕ) → 0 * w ≡ 0
times_none w = omega arith

times_more : (n w : ℕ) → suc n * w ≡ w + n * w
times_more n w = omega arith

times_le : (i n w : ℕ) → i < n → i * w + w ≤ n * w
times_le i zero w h = absurd (omega (arith, h))
times_le zero (suc n) w h = omega (arith, times_none w, times_more n w)
times_le (suc i) (suc n) w h = let step = times_le i n w (omega (arith, h)) in omega (arith, step, times_more i w, times_more n w)

module _ (each : ℕ) where
  length-starts : (at : ℕ) (keys : List (List Value)) → length (starts_from each at keys) ≡ length keys
  length-starts at [] = refl
  length-starts at (k ∷ keys) = ap (λ n. suc n) (length-starts (at + each) keys)

  -- that of a number
  start_of : (at : ℕ) (keys : List (List Value)) (n : ℕ) (k : List Value) → slice_get keys n ≡ Some k → slice_get (starts_from each at keys) n ≡ Some (k, at + n * each)
  start_of at [] n k e = absurd (none_some k e)
  start_of at (x ∷ keys) zero k e = let here : at ≡ at + 0 * each = omega (arith, times_none each) in λ i. Some (some_is x k e i, here i)
  start_of at (x ∷ keys) (suc n) k e =
      start_of (at + each) keys n k e ∙ (let there : at + each + n * each ≡ at + suc n * each = omega (arith, times_more n each) in ap (λ m. Some (k, m)) there)

  -- and whose it is
  start_tells : (at : ℕ) (keys : List (List Value)) (n : ℕ) (s : Start) → slice_get (starts_from each at keys) n ≡ Some s → (slice_get keys n ≡ Some s.0) × (s.1 ≡ at + n * each) × (n < length keys)
  start_tells at [] n s e = absurd (none_some s e)
  start_tells at (x ∷ keys) zero s e =
      let is : (x, at) ≡ s = some_is (x, at) s e in (
        ap (λ (t : Start). Some t.0) is,
        sym (ap (λ (t : Start). t.1) is) ∙ (let here : at ≡ at + 0 * each = omega (arith, times_none each) in here),
        omega arith,
      )
  start_tells at (x ∷ keys) (suc n) s e =
      let rest = start_tells (at + each) keys n s e in (
        rest.0,
        rest.1 ∙ (let there : at + each + n * each ≡ at + suc n * each = omega (arith, times_more n each) in there),
        omega (arith, rest.2),
      )

  starts_different : (at : ℕ) (keys : List (List Value)) → AreDifferent class_of keys → AreDifferent (λ (s : Start). class_of s.0) (starts_from each at keys)
  starts_different at keys different i j s t e e' is = different i j s.0 t.0 (start_tells at keys i s e).0 (start_tells at keys j t e').0 is

  starts_push : (at : ℕ) (keys : List (List Value)) (k : List Value) → starts_from each at (keys ++ k ∷ []) ≡ starts_from each at keys ++ (k, at + length keys * each) ∷ []
  starts_push at [] k = let here : at ≡ at + 0 * each = omega (arith, times_none each) in ap (λ m. (k, m) ∷ []) here
  starts_push at (x ∷ keys) k =
      let there : at + each + length keys * each ≡ at + suc (length keys) * each = omega (arith, times_more (length keys) each) in
      ap (λ l. (x, at) ∷ l) (starts_push (at + each) keys k ∙ ap (λ m. starts_from each (at + each) keys ++ (k, m) ∷ []) there)

  -- two groups that are not one share nothing
  apart_at : (n m a b : ℕ) → a ≡ n * each → b ≡ m * each → (n ≡ m → ⊥) → NoneShared each a b
  apart_at n m a b is is' diff = elim (cases_lt n m) [
    | inl h ↦ let step = times_le n m each h in inl (omega (arith, step, is, is'))
    | inr h ↦ elim (cases_lt m n) [
      | inl h' ↦ let step = times_le m n each h' in inr (omega (arith, step, is, is'))
      | inr h' ↦ absurd (diff (omega (arith, h, h')))
    ]
  ]

  -- those that are left
  pub shared_none : (a at : ℕ) (keys : List (List Value)) → a + each ≤ at → AllByRecursion (λ (t : Start). NoneShared each a t.1) (starts_from each at keys)
  shared_none a at [] h = tt
  shared_none a at (k ∷ keys) h = (inl h, shared_none a (at + each) keys (omega (arith, h)))

-- ---- the groups

module _ (each : ℕ) (running : List Running) (keys : List (List Value)) where
  pub different_pairs : AreDifferent class_of keys → AreDifferent (λ (p : Pair). class_of p.0) (pairs_from each 0 running keys)
  different_pairs different i j p q at at' is = told (slice_get (starts_from each 0 keys) i) (slice_get (starts_from each 0 keys) j) refl refl
      (sym (get_mapped (pair_at each running) (starts_from each 0 keys) i) ∙ at) (sym (get_mapped (pair_at each running) (starts_from each 0 keys) j) ∙ at')
    where
      told : (o r : Option Start) → slice_get (starts_from each 0 keys) i ≡ o → slice_get (starts_from each 0 keys) j ≡ r → option_map (pair_at each running) o ≡ Some p → option_map (pair_at each running) r ≡ Some q → i ≡ j
      told None r e e' h h' = absurd (none_some p h)
      told (Some s) None e e' h h' = absurd (none_some q h')
      told (Some s) (Some t) e e' h h' =
          starts_different each 0 keys different i j s t e e'
          (ap (λ (x : Pair). class_of x.0) (some_is (pair_at each running s) p h) ∙ is ∙ sym (ap (λ (x : Pair). class_of x.0) (some_is (pair_at each running t) q h')))

  length-pairs : length (pairs_from each 0 running keys) ≡ length keys
  length-pairs = length-map (starts_from each 0 keys) (pair_at each running) ∙ length-starts each 0 keys

  pub len_kept : AreDifferent class_of keys → length keys ≡ len (listed (pairs_from each 0 running keys))
  len_kept different = sym length-pairs ∙ sym (listed_all (pairs_from each 0 running keys) (different_pairs different))

  pub lists_kept : AreDifferent class_of keys → ListsAll class_of (pairs_from each 0 running keys) (listed (pairs_from each 0 running keys))
  lists_kept different = record { all = refl; once = sym (listed_all (pairs_from each 0 running keys) (different_pairs different)) }

  -- the group of a number
  pub pair_there : (n : ℕ) (k : List Value) → slice_get keys n ≡ Some k → slice_get (pairs_from each 0 running keys) n ≡ Some (k, chunk each running (n * each))
  pair_there n k at =
      let plain : 0 + n * each ≡ n * each = omega arith in
      get_mapped (pair_at each running) (starts_from each 0 keys) n ∙ ap (option_map (pair_at each running)) (start_of each 0 keys n k at) ∙ ap (λ m. Some (k, chunk each running m)) plain

  -- a group that was read: its key, and its aggregates
  pub record ReadsAt (n : ℕ) (p : Pair) : Type 0 where
    pub key : slice_get keys n ≡ Some p.0
    pub its : chunk each running (n * each) ≡ p.1
    pub within : n * each + each ≤ length running

  pub reads_at : (n : ℕ) (p : Pair) → AreKept each running keys → slice_get (pairs_from each 0 running keys) n ≡ Some p → ReadsAt n p
  reads_at n p kept e = told (slice_get (starts_from each 0 keys) n) refl (sym (get_mapped (pair_at each running) (starts_from each 0 keys) n) ∙ e)
    where
      told : (o : Option Start) → slice_get (starts_from each 0 keys) n ≡ o → option_map (pair_at each running) o ≡ Some p → ReadsAt n p
      told None at h = absurd (none_some p h)
      told (Some s) at h =
          let known = start_tells each 0 keys n s at in
          let is : pair_at each running s ≡ p = some_is (pair_at each running s) p h in
          let begins : s.1 ≡ n * each = omega (arith, known.1) in
          let within = times_le n (length keys) each known.2 in
          record {
            key = known.0 ∙ ap (λ (q : Pair). Some q.0) is;
            its = ap (chunk each running) (sym begins) ∙ ap (λ (q : Pair). q.1) is;
            within = omega (arith, within, kept.whole);
          }

  -- what was found
  pub found_group : (key : List Value) (found : Found) → AreDifferent class_of keys → IsFound class_of keys (class_of key) found → IsGroup (pairs_from each 0 running keys) (class_of key) found
  found_group key (At n) different (k, at, is) =
      let pair = pair_there n k at in (
        ap is_some pair,
        ap (get (listed (pairs_from each 0 running keys))) (sym is) ∙ listed_there (pairs_from each 0 running keys) n (k, chunk each running (n * each)) (different_pairs different) pair ∙ sym pair,
      )
  found_group key (Absent absence) different found = tt

  none_listed : (c : List ℕ) → HasNone class_of keys c → get (listed (pairs_from each 0 running keys)) c ≡ None
  none_listed c none = told (get (listed (pairs_from each 0 running keys)) c) refl
    where
      told : (o : Option Pair) → get (listed (pairs_from each 0 running keys)) c ≡ o → o ≡ None
      told None e = refl
      told (Some p) e =
          let there = listed_tells (pairs_from each 0 running keys) c p e in
          starts there.0 (slice_get (starts_from each 0 keys) there.0) refl (sym (get_mapped (pair_at each running) (starts_from each 0 keys) there.0) ∙ there.1) there.2
        where
          starts : (n : ℕ) (o : Option Start) → slice_get (starts_from each 0 keys) n ≡ o → option_map (pair_at each running) o ≡ Some p → class_of p.0 ≡ c → Some p ≡ None
          starts n None e h is = absurd (none_some p h)
          starts n (Some s) e h is = absurd (none n s.0 (start_tells each 0 keys n s e).0 (ap (λ (x : Pair). class_of x.0) (some_is (pair_at each running s) p h) ∙ is))

  pub no_group : (hash : List ℕ → ℕ) (key : List Value) (found : Found) → IsAbsent class_of hash keys (class_of key) found → IsNoGroup hash (pairs_from each 0 running keys) (class_of key) found
  no_group hash key (At n) absent = tt
  no_group hash key (Absent absence) absent = record { absent = none_listed (class_of key) absent.none; hashed = absent.hashed }

  -- and what that says of the keys
  pub no_key : (key : List Value) → get (listed (pairs_from each 0 running keys)) (class_of key) ≡ None → AreDifferent class_of keys → HasNone class_of keys (class_of key)
  no_key key none different i k at is =
      let pair = pair_there i k at in
      none_some (k, chunk each running (i * each))
      (sym none ∙ ap (get (listed (pairs_from each 0 running keys))) (sym is) ∙ listed_there (pairs_from each 0 running keys) i (k, chunk each running (i * each)) (different_pairs different) pair)

-- ---- one group more, or one changed

module _ (each : ℕ) (keys : List (List Value)) (xs : List Running) where
  same_front : (more : List Running) (at : ℕ) (ks : List (List Value)) → at + length ks * each ≤ length xs → map (pair_at each (xs ++ more)) (starts_from each at ks) ≡ map (pair_at each xs) (starts_from each at ks)
  same_front more at [] h = refl
  same_front more at (k ∷ ks) h =
      let wide = times_more (length ks) each in
      λ i. (k, chunk-append each at xs more (omega (arith, h, wide)) i) ∷ same_front more (at + each) ks (omega (arith, h, wide)) i

  pub pairs_push : (ys more : List Running) (k : List Value) → length more ≡ each → ys ≡ xs ++ more → length xs ≡ length keys * each
      → pairs_from each 0 ys (keys ++ k ∷ []) ≡ pairs_from each 0 xs keys ++ (k, more) ∷ []
  pairs_push ys more k long is whole =
      ap (λ l. map (pair_at each l) (starts_from each 0 (keys ++ k ∷ []))) is
      ∙ ap (map (pair_at each (xs ++ more))) (starts_push each 0 keys k)
      ∙ map-append (pair_at each (xs ++ more)) (starts_from each 0 keys) ((k, 0 + length keys * each) ∷ [])
      ∙ (λ i. same_front more 0 keys (omega (arith, whole)) i ++ (k, last i) ∷ [])
    where
      last : chunk each (xs ++ more) (0 + length keys * each) ≡ more
      last = ap (chunk each (xs ++ more)) (omega (arith, whole)) ∙ chunk-last each xs more long

  pub kept_push : (ys more : List Running) (k : List Value) → length more ≡ each → ys ≡ xs ++ more → AreKept each xs keys → AreDifferent class_of (keys ++ k ∷ []) → AreKept each ys (keys ++ k ∷ [])
  kept_push ys more k long is kept different = record {
    different = different;
    whole =
        let size = ap length is ∙ length-append xs more in
        let more_keys = length-append keys (k ∷ []) in
        let step : (length keys + 1) * each ≡ length keys * each + each = omega arith in
        size ∙ (λ i. kept.whole i + long i) ∙ sym step ∙ ap (λ n. n * each) (sym more_keys);
  }

  -- another group's aggregates stay
  pub listed_changed : (ys now : List Running) (n a : ℕ) (k : List Value) → AreDifferent class_of keys → slice_get keys n ≡ Some k → a ≡ n * each → Written each a xs ys now
      → listed (pairs_from each 0 ys keys) ≡ insert (listed (pairs_from each 0 xs keys)) (class_of k) (k, now)
  listed_changed ys now n a k different at is put = same_map nat_list_cmp_total exact _ _ (λ c.
      get_listed each ys starts c
      ∙ told c (same c (class_of k)) refl
      ∙ ap (cond (same c (class_of k)) (Some (k, now))) (sym (get_listed each xs starts c))
      ∙ sym (get-insert nat_list_cmp_total (listed (pairs_from each 0 xs keys)) (class_of k) (k, now) c))
    where
      starts : List Start
      starts = starts_from each 0 keys

      others : (c : List ℕ) (o : Option Start) → get (listed starts) c ≡ o → same c (class_of k) ≡ false → option_map (pair_at each ys) o ≡ option_map (pair_at each xs) o
      others c None e diff = refl
      others c (Some s) e diff =
          let there = listed_tells starts c s e in
          let known = start_tells each 0 keys there.0 s there.1 in
          let begins : s.1 ≡ there.0 * each = omega (arith, known.1) in
          let apart = apart_at each n there.0 a s.1 is begins (λ same_number.
          let one : k ≡ s.0 = some_is k s.0 (sym at ∙ ap (slice_get keys) same_number ∙ known.0) in
          true≢false (sym (same_itself c (class_of k) (sym there.2 ∙ ap class_of (sym one))) ∙ diff)) in
          ap (λ l. Some (s.0, l)) (put.others s.1 apart)

      told : (c : List ℕ) (b : Bool) → same c (class_of k) ≡ b → option_map (pair_at each ys) (get (listed starts) c) ≡ cond b (Some (k, now)) (option_map (pair_at each xs) (get (listed starts) c))
      told c true e =
          ap (λ d. option_map (pair_at each ys) (get (listed starts) d)) (same_is c (class_of k) e)
          ∙ ap (option_map (pair_at each ys)) (listed_there starts n (k, 0 + n * each) (starts_different each 0 keys different) (start_of each 0 keys n k at))
          ∙ ap (λ l. Some (k, l)) (ap (chunk each ys) (omega (arith, is)) ∙ put.here)
      told c false e = others c (get (listed starts) c) refl e

-- no group
pub kept-none : (each : ℕ) (running : List Running) (keys : List (List Value)) → keys ≡ [] → running ≡ [] → AreKept each running keys
kept-none each running keys none empty = record {
  different = λ i j k l at at' is. absurd (none_some k (sym (ap (λ ks. slice_get ks i) none) ∙ at));
  whole = ap length empty ∙ (let zero_is : 0 ≡ 0 * each = omega arith in zero_is) ∙ ap (λ (ks : List (List Value)). length ks * each) (sym none);
}

-- a key that no group has, appended to the others
pub kept_more : (each : ℕ) (keys : List (List Value)) (xs ys more : List Running) (k : List Value) → length more ≡ each → ys ≡ xs ++ more → AreKept each xs keys
    → get (listed (pairs_from each 0 xs keys)) (class_of k) ≡ None → AreKept each ys (keys ++ k ∷ [])
kept_more each keys xs ys more k long is kept none =
    kept_push each keys xs ys more k long is kept (different-more class_of (λ _. 0) keys k kept.different (no_key each xs keys k none kept.different))

pub listed_more : (each : ℕ) (keys : List (List Value)) (xs ys more : List Running) (k : List Value) → length more ≡ each → ys ≡ xs ++ more → AreKept each xs keys
    → get (listed (pairs_from each 0 xs keys)) (class_of k) ≡ None → listed (pairs_from each 0 ys (keys ++ k ∷ [])) ≡ insert (listed (pairs_from each 0 xs keys)) (class_of k) (k, more)
listed_more each keys xs ys more k long is kept none =
    ap listed (pairs_push each keys xs ys more k long is kept.whole) ∙ listed_push (pairs_from each 0 xs keys) (k, more) none

-- a key alone, and its aggregates
pub kept_alone : (each : ℕ) (running : List Running) (keys : List (List Value)) (k : List Value) → keys ≡ k ∷ [] → length running ≡ each → AreKept each running keys
kept_alone each running keys k alone long =
    subst (AreKept each running) (sym alone) (kept_more each [] [] running running k long refl (kept-none each [] [] refl refl) (get-empty _ _))

pub listed_alone : (each : ℕ) (running : List Running) (keys : List (List Value)) (k : List Value) → keys ≡ k ∷ [] → length running ≡ each
    → listed (pairs_from each 0 running keys) ≡ insert empty (class_of k) (k, running)
listed_alone each running keys k alone long =
    ap (λ ks. listed (pairs_from each 0 running ks)) alone ∙ listed_more each [] [] running running k long refl (kept-none each [] [] refl refl) (get-empty _ _)

-- ---- groups that leave

-- where some are left there is a first
pub some_first : {X : Type 0} (xs : List X) → 0 < length xs → (x : X) × (ys : List X) × (xs ≡ x ∷ ys)
some_first [] some = absurd (omega arith)
some_first (x ∷ xs) some = (x, xs, refl)

-- and where one was taken, it is the first
pub taken_first : {X : Type 0} (xs ys : List X) (o : Option X) → xs ≡ option_to_list o ++ ys → IsSome o → (x : X) × (xs ≡ x ∷ ys)
taken_first xs ys None is some = absurd (true≢false (sym some))
taken_first xs ys (Some x) is some = (x, is)

pub if_some_so : {X : Type 0} (P : X → Type 0) (o : Option X) → ((x : X) → o ≡ Some x → P x) → IfSome o P
if_some_so P None then = tt
if_some_so P (Some x) then = then x refl

module _ (each start : ℕ) (items : List Running) (old rest : List (List Value)) (key : List Value) where
  -- the first has its aggregates in the list
  pub first_within : old ≡ key ∷ rest → length items ≡ start + length old * each → start + each ≤ length items
  first_within is whole = let count = ap length is in let wide = ap (λ n. n * each) count in omega (arith, whole, wide, times_more (length rest) each)

  -- what is left of the list, once something was written in its place
  pub whole_behind : (items' : List Running) → old ≡ key ∷ rest → length items ≡ start + length old * each → length items' ≡ length items → length items' ≡ start + each + length rest * each
  whole_behind items' is whole same = let count = ap length is in let wide = ap (λ n. n * each) count in omega (arith, whole, wide, same, times_more (length rest) each)

  -- the others are as they were
  pub pairs_behind : (items' now : List Running) → old ≡ key ∷ rest → Written each start items items' now
      → pairs_from each start items old ≡ (key, chunk each items start) ∷ pairs_from each (start + each) items' rest
  pairs_behind items' now is put =
      ap (pairs_from each start items) is
      ∙ ap (λ l. (key, chunk each items start) ∷ l)
      (sym (pairs-other each start items items' now (starts_from each (start + each) rest) put (shared_none each start (start + each) rest (omega arith))))
