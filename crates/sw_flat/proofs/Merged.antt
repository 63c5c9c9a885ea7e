-- One map into another: what remains after some slots.
use Rattle.std.proofs.Common.{◌≡◌, ℕ, zero, suc, ◌+◌, ◌<◌, ◌≤◌, Bool, true, false, cond, not, List, [], ◌∷◌, map, length, drop, set, get_or, Option, Some, None, refl, sym, ap, ◌∙◌, subst, arith}
use mathlib.Core.Bool.{true≢false}
use Rattle.std.specs.Prelude.{is_some, IsSome, IfSome, IfNone}
use mir.Val.{bool_byte}
use Rattle.std.specs.Option.{option_or}
use Rattle.std.specs.Ordering.{nat_cmp}
use Rattle.std.specs.Cmp.Lexicographic.{slice_cmp, nat_list_cmp_total}
use Rattle.std.specs.FinMap.{empty, insert, get, remove, len, contains_key, retain_keys, from_entries, get-empty, get-insert, get-remove, get-retain_keys, len-empty, len-insert, same_map, empty_of_len}
use Rattle.std.proofs.lemmas.List.{drop-set-lt, get_or-drop}
use Rattle.sw_table.specs.Entries.{Entries, entries, entries_in}
use Rattle.sw_table.specs.View.{View, slot_count}
use Rattle.sw_table.specs.Walks.{filled}
use Rattle.sw_table.proofs.Filled.{next_filled, none_filled}
use Rattle.sw_flat.specs.Maps.{lacked, shared}
use Rattle.sw_flat.specs.Merging.{MovesLacked}
use Rattle.sw_flat.proofs.Classes.{same, same_is, same_itself, exact, none_some, class_of_entry}
use Rattle.sw_flat.proofs.Listed.{Apart, apart_behind, absent_behind, place_of, entries_of_filled}

module _ {K V : Type 0} where
  get_retained : (m : Entries K V) (p : List ℕ → Bool) (q : List ℕ) → get (retain_keys m p) q ≡ cond (p q) (get m q) None
  get_retained m p q = get-retain_keys m p q (λ x e. ap p (sym (exact q x e)))

  retained_empty : (p : List ℕ → Bool) → retain_keys (empty {X = K × V} {R = slice_cmp nat_cmp}) p ≡ empty
  retained_empty p = same_map nat_list_cmp_total exact _ _ (λ q. get_retained empty p q ∙ elim (p q) as (λ b. cond b (get (empty {X = K × V} {R = slice_cmp nat_cmp}) q) None ≡ get (empty {X = K × V} {R = slice_cmp nat_cmp}) q) [ true ↦ refl | false ↦ sym (get-empty _ q) ])

  retained_in : (n : Entries K V) (c : List ℕ) (x : K × V) (p : List ℕ → Bool) → p c ≡ true → retain_keys (insert n c x) p ≡ insert (retain_keys n p) c x
  retained_in n c x p has = same_map nat_list_cmp_total exact _ _ (λ q.
      get_retained (insert n c x) p q ∙ ap (λ o. cond (p q) o None) (get-insert nat_list_cmp_total n c x q)
      ∙ elim (same q c) as (λ b. same q c ≡ b → cond (p q) (cond b (Some x) (get n q)) None ≡ cond b (Some x) (cond (p q) (get n q) None)) [
        | true ↦ λ is. ap (λ b. cond b (Some x) None) (ap p (same_is q c is) ∙ has)
        | false ↦ λ is. refl
      ] refl
      ∙ ap (cond (same q c) (Some x)) (sym (get_retained n p q)) ∙ sym (get-insert nat_list_cmp_total (retain_keys n p) c x q))

  retained_out : (n : Entries K V) (c : List ℕ) (x : K × V) (p : List ℕ → Bool) → p c ≡ false → retain_keys (insert n c x) p ≡ retain_keys n p
  retained_out n c x p out = same_map nat_list_cmp_total exact _ _ (λ q.
      get_retained (insert n c x) p q ∙ ap (λ o. cond (p q) o None) (get-insert nat_list_cmp_total n c x q)
      ∙ elim (same q c) as (λ b. same q c ≡ b → cond (p q) (cond b (Some x) (get n q)) None ≡ cond (p q) (get n q) None) [
        | true ↦ λ is. ap (λ b. cond b (Some x) None) (ap p (same_is q c is) ∙ out) ∙ sym (ap (λ b. cond b (get n q) None) (ap p (same_is q c is) ∙ out))
        | false ↦ λ is. refl
      ] refl
      ∙ sym (get_retained n p q))

module _ {K V : Type 0} (class : K → List ℕ) where
  -- how many of the entries have classes that m lacks
  pub lacked_count : Entries K V → List (K × V) → ℕ
  lacked_count m [] = 0
  lacked_count m (p ∷ items) = cond (contains_key m (class p.0)) 0 1 + lacked_count m items

  pub len_lacked : (m : Entries K V) (ps : List (Option (K × V))) → Apart class ps → len (lacked m (entries_in class ps)) ≡ lacked_count m (filled ps)
  unfolding lacked_count
  len_lacked m [] h = ap len (retained_empty _) ∙ len-empty _ _
  len_lacked m (None ∷ ps) h = len_lacked m ps (apart_behind class None ps h)
  len_lacked m (Some x ∷ ps) h =
      let rest : len (lacked m (entries_in class ps)) ≡ lacked_count m (filled ps) = len_lacked m ps (apart_behind class (Some x) ps h) in
      elim (contains_key m (class x.0)) as (λ b. contains_key m (class x.0) ≡ b → len (lacked m (insert (entries_in class ps) (class x.0) x)) ≡ cond b 0 1 + lacked_count m (filled ps)) [
        | true ↦ λ e. ap len (retained_out (entries_in class ps) (class x.0) x (λ c. not (contains_key m c)) (ap not e)) ∙ rest ∙ (let z : ◌≡◌ {A = ℕ} (lacked_count m (filled ps)) (0 + lacked_count m (filled ps)) = omega arith in z)
        | false ↦ λ e. ap len (retained_in (entries_in class ps) (class x.0) x (λ c. not (contains_key m c)) (ap not e))
            ∙ len-insert nat_list_cmp_total (lacked m (entries_in class ps)) (class x.0) x
            ∙ ap (λ (o : Option (K × V)). cond (is_some o) (len (lacked m (entries_in class ps))) (len (lacked m (entries_in class ps)) + 1)) (get_retained (entries_in class ps) _ (class x.0) ∙ ap (λ o. cond (not (contains_key m (class x.0))) o None) (absent_behind class x ps h) ∙ nothing (not (contains_key m (class x.0))))
            ∙ ap (λ k. k + 1) rest ∙ (let z : ◌≡◌ {A = ℕ} (lacked_count m (filled ps) + 1) (1 + lacked_count m (filled ps)) = omega arith in z)
      ] refl
    where
      nothing : (b : Bool) → ◌≡◌ {A = Option (K × V)} (cond b None None) None
      nothing true = refl
      nothing false = refl

  pub count_on : (m : Entries K V) (ps : List (Option (K × V))) (from i : ℕ) (x : K × V) → from ≤ i → ((j : ℕ) → from ≤ j → j < i → get_or ps j None ≡ None) → get_or ps i None ≡ Some x
      → lacked_count m (filled (drop from ps)) ≡ cond (contains_key m (class x.0)) 0 1 + lacked_count m (filled (drop (i + 1) ps))
  unfolding lacked_count
  count_on m ps from i x le none here =
      let behind : suc i ≡ i + 1 = omega arith in
      ap (lacked_count m) (next_filled ps from i x le none here ∙ ap (λ k. x ∷ filled (drop k ps)) behind)

  -- the entries from here on are the next one and those after it
  entries_next : (ps : List (Option (K × V))) (from i : ℕ) (x : K × V) → from ≤ i → ((j : ℕ) → from ≤ j → j < i → get_or ps j None ≡ None) → get_or ps i None ≡ Some x
      → entries_in class (drop from ps) ≡ insert (entries_in class (drop (i + 1) ps)) (class x.0) x
  entries_next ps from i x le none here =
      let behind : suc i ≡ i + 1 = omega arith in
      sym (entries_of_filled class (drop from ps))
      ∙ ap (λ (items : List (K × V)). from_entries (map (λ p. (class p.0, p)) items)) (next_filled ps from i x le none here ∙ ap (λ k. x ∷ filled (drop k ps)) behind)
      ∙ ap (λ n. insert n (class x.0) x) (entries_of_filled class (drop (i + 1) ps))

  entries_none : (ps : List (Option (K × V))) (from : ℕ) → ((j : ℕ) → from ≤ j → get_or ps j None ≡ None) → entries_in class (drop from ps) ≡ empty
  entries_none ps from none =
      sym (entries_of_filled class (drop from ps)) ∙ ap (λ (items : List (K × V)). from_entries (map (λ p. (class p.0, p)) items)) (none_filled ps from none)

  none_behind : (ps : List (Option (K × V))) (i : ℕ) (x : K × V) → Apart class ps → get_or ps i None ≡ Some x → get (entries_in class (drop (i + 1) ps)) (class x.0) ≡ None
  none_behind ps i x h here =
      elim (get (entries_in class (drop (i + 1) ps)) (class x.0)) as (λ o. get (entries_in class (drop (i + 1) ps)) (class x.0) ≡ o → o ≡ None) [
        | None ↦ λ e. refl
        | Some p ↦ λ e. absurd (at p e (place_of class (drop (i + 1) ps) (class x.0) p e))
      ] refl
    where
      at : (p : K × V) → get (entries_in class (drop (i + 1) ps)) (class x.0) ≡ Some p → (j : ℕ) × (get_or (drop (i + 1) ps) j None ≡ Some p) → ⊥
      at p e found =
          let f = h i (i + 1 + found.0) x p here (sym (get_or-drop (i + 1) ps found.0 None) ∙ found.1) (class_of_entry class (drop (i + 1) ps) (class x.0) p e) in
          omega (arith, f)

  apart_emptied : (ps : List (Option (K × V))) (i : ℕ) → Apart class ps → Apart class (set ps i None)
  apart_emptied ps i h j k p q a b e = h j k p q (still j p a) (still k q b) e
    where
      still : (j : ℕ) (p : K × V) → get_or (set ps i None) j None ≡ Some p → get_or ps j None ≡ Some p
      still j p a = kept ps i j a
        where
          kept : (s : List (Option (K × V))) (i j : ℕ) → get_or (set s i None) j None ≡ Some p → get_or s j None ≡ Some p
          kept [] i j a = absurd (none_some p a)
          kept (o ∷ s) zero zero a = absurd (none_some p a)
          kept (o ∷ s) zero (suc j) a = a
          kept (o ∷ s) (suc i) zero a = a
          kept (o ∷ s) (suc i) (suc j) a = kept s i j a

  -- the places up to `from` were gone over: m0 took what it lacked of n0 there, and is now m
  pub record IsMerging (m0 n0 : Entries K V) (cap : ℕ) (m : Entries K V) (ps : List (Option (K × V))) (from : ℕ) : Type 0 where
    pub apart : Apart class ps
    pub union : (q : List ℕ) → option_or (get m q) (get (entries_in class (drop from ps)) q) ≡ option_or (get m0 q) (get n0 q)
    pub left : (q : List ℕ) → get (entries_in class ps) q ≡ cond (contains_key m0 q) (get n0 q) (get (entries_in class (drop from ps)) q)
    pub alike : (q : List ℕ) → is_some (get (entries_in class (drop from ps)) q) ≡ true → contains_key m q ≡ contains_key m0 q
    pub space : len m + lacked_count m0 (filled (drop from ps)) ≤ cap
    pub fewer : lacked_count m0 (filled (drop from ps)) ≤ len (lacked m0 n0)

  pub merging_none : (m0 : Entries K V) (cap : ℕ) (ps : List (Option (K × V))) → Apart class ps → len m0 + len (lacked m0 (entries_in class ps)) ≤ cap → IsMerging m0 (entries_in class ps) cap m0 ps 0
  merging_none m0 cap ps h room = record {
    apart = h;
    union = λ q. refl;
    left = λ q. elim (contains_key m0 q) as (λ b. get (entries_in class ps) q ≡ cond b (get (entries_in class ps) q) (get (entries_in class ps) q)) [ true ↦ refl | false ↦ refl ];
    alike = λ q h. refl;
    space = let e = len_lacked m0 ps h in omega (arith, e, room);
    fewer = let e = len_lacked m0 ps h in omega (arith, e);
  }

  taken_first : (o a b : Option (K × V)) → is_some o ≡ true → option_or o a ≡ option_or o b
  taken_first None a b e = absurd (true≢false (sym e))
  taken_first (Some x) a b e = refl

  taken_second : (o a : Option (K × V)) → is_some o ≡ false → option_or o a ≡ a
  taken_second None a e = refl
  taken_second (Some x) a e = absurd (true≢false e)

  not_taken : (o : Option (K × V)) → option_or o None ≡ o
  not_taken None = refl
  not_taken (Some x) = refl

  module _ (m0 n0 : Entries K V) (cap : ℕ) (m : Entries K V) (ps : List (Option (K × V))) (from i : ℕ) (x : K × V) (d : IsMerging m0 n0 cap m ps from) (le : from ≤ i)
      (none : (j : ℕ) → from ≤ j → j < i → get_or ps j None ≡ None) (here : get_or ps i None ≡ Some x) where
    coming : (q : List ℕ) → get (entries_in class (drop from ps)) q ≡ cond (same q (class x.0)) (Some x) (get (entries_in class (drop (i + 1) ps)) q)
    coming q = ap (λ n. get n q) (entries_next ps from i x le none here) ∙ get-insert nat_list_cmp_total (entries_in class (drop (i + 1) ps)) (class x.0) x q

    other : (q : List ℕ) → same q (class x.0) ≡ false → get (entries_in class (drop from ps)) q ≡ get (entries_in class (drop (i + 1) ps)) q
    other q e = coming q ∙ ap (λ b. cond b (Some x) (get (entries_in class (drop (i + 1) ps)) q)) e

    this : (q : List ℕ) → same q (class x.0) ≡ true → get (entries_in class (drop from ps)) q ≡ Some x
    this q e = coming q ∙ ap (λ b. cond b (Some x) (get (entries_in class (drop (i + 1) ps)) q)) e

    -- what follows the slot is still to come
    later : (q : List ℕ) → is_some (get (entries_in class (drop (i + 1) ps)) q) ≡ true → is_some (get (entries_in class (drop from ps)) q) ≡ true
    later q e = ap is_some (coming q) ∙ elim (same q (class x.0)) as (λ b. is_some (cond b (Some x) (get (entries_in class (drop (i + 1) ps)) q)) ≡ true) [ true ↦ refl | false ↦ e ]

    -- both maps have the class, or neither
    alike_here : (q : List ℕ) → same q (class x.0) ≡ true → contains_key m q ≡ contains_key m0 q
    alike_here q e = d.alike q (ap is_some (this q e))

    count : lacked_count m0 (filled (drop from ps)) ≡ cond (contains_key m0 (class x.0)) 0 1 + lacked_count m0 (filled (drop (i + 1) ps))
    count = count_on m0 ps from i x le none here

    pub merging_skip : contains_key m (class x.0) ≡ true → IsMerging m0 n0 cap m ps (i + 1)
    merging_skip has = record {
      apart = d.apart;
      union = λ q.
          elim (same q (class x.0)) as (λ b. same q (class x.0) ≡ b → option_or (get m q) (get (entries_in class (drop (i + 1) ps)) q) ≡ option_or (get m q) (get (entries_in class (drop from ps)) q)) [
            | true ↦ λ e. taken_first (get m q) _ _ (ap (contains_key m) (same_is q (class x.0) e) ∙ has)
            | false ↦ λ e. ap (option_or (get m q)) (sym (other q e))
          ] refl ∙ d.union q;
      left = λ q. d.left q ∙ kept q;
      alike = λ q e. d.alike q (later q e);
      space = let e = count in let f = d.space in omega (arith, e, f);
      fewer = let e = count in let f = d.fewer in omega (arith, e, f);
    }
      where
        kept : (q : List ℕ) → cond (contains_key m0 q) (get n0 q) (get (entries_in class (drop from ps)) q) ≡ cond (contains_key m0 q) (get n0 q) (get (entries_in class (drop (i + 1) ps)) q)
        kept q =
            elim (contains_key m0 q) as (λ b. contains_key m0 q ≡ b → cond b (get n0 q) (get (entries_in class (drop from ps)) q) ≡ cond b (get n0 q) (get (entries_in class (drop (i + 1) ps)) q)) [
              | true ↦ λ e. refl
              | false ↦ λ e. elim (same q (class x.0)) as (λ b. same q (class x.0) ≡ b → get (entries_in class (drop from ps)) q ≡ get (entries_in class (drop (i + 1) ps)) q) [
                | true ↦ λ is. absurd (true≢false (sym (ap (contains_key m) (same_is q (class x.0) is) ∙ has) ∙ alike_here q is ∙ e))
                | false ↦ λ is. other q is
              ] refl
            ] refl

    lacking : contains_key m (class x.0) ≡ false → contains_key m0 (class x.0) ≡ false
    lacking lacks = sym (d.alike (class x.0) (ap is_some (coming (class x.0)) ∙ there (same (class x.0) (class x.0)) (same_itself (class x.0) (class x.0) refl))) ∙ lacks
      where
        there : (b : Bool) → b ≡ true → is_some (cond b (Some x) (get (entries_in class (drop (i + 1) ps)) (class x.0))) ≡ true
        there b e = ap (λ t. is_some (cond t (Some x) (get (entries_in class (drop (i + 1) ps)) (class x.0)))) e

    nothing_else : (q : List ℕ) → same q (class x.0) ≡ true → get (entries_in class (drop (i + 1) ps)) q ≡ None
    nothing_else q e = ap (get (entries_in class (drop (i + 1) ps))) (same_is q (class x.0) e) ∙ none_behind ps i x d.apart here

    pub merging_take : contains_key m (class x.0) ≡ false → (m' : Entries K V) (ps' : List (Option (K × V))) → m' ≡ insert m (class x.0) x → ps' ≡ set ps i None
        → entries_in class ps' ≡ remove (entries_in class ps) (class x.0) → IsMerging m0 n0 cap m' ps' (i + 1)
    merging_take lacks m' ps' added emptied removed = record {
      apart = subst (Apart class) (sym emptied) (apart_emptied ps i d.apart);
      union = λ q. (λ j. option_or (get (added j) q) (get (behind j) q)) ∙ united q ∙ d.union q;
      left = λ q. ap (λ n. get n q) removed ∙ get-remove nat_list_cmp_total (entries_in class ps) (class x.0) q ∙ ap (cond (same q (class x.0)) None) (d.left q) ∙ remaining q ∙ sym (ap (λ n. cond (contains_key m0 q) (get n0 q) (get n q)) behind);
      alike = λ q e. still_alike q (sym (ap (λ n. is_some (get n q)) behind) ∙ e);
      space = let e = count ∙ ap (λ b. cond b 0 1 + lacked_count m0 (filled (drop (i + 1) ps))) (lacking lacks) in let f = d.space in let l = longer in let b = ap (λ (r : List (Option (K × V))). lacked_count m0 (filled r)) gone in omega (arith, e, f, l, b);
      fewer = let e = count in let f = d.fewer in let b = ap (λ (r : List (Option (K × V))). lacked_count m0 (filled r)) gone in omega (arith, e, f, b);
    }
      where
        gone : drop (i + 1) ps' ≡ drop (i + 1) ps
        gone = ap (drop (i + 1)) emptied ∙ drop-set-lt (i + 1) ps i None (omega arith)

        behind : entries_in class (drop (i + 1) ps') ≡ entries_in class (drop (i + 1) ps)
        behind = ap (entries_in class) gone

        longer : len m' ≡ len m + 1
        longer = ap len added ∙ len-insert nat_list_cmp_total m (class x.0) x ∙ ap (λ b. cond b (len m) (len m + 1)) lacks

        united : (q : List ℕ) → option_or (get (insert m (class x.0) x) q) (get (entries_in class (drop (i + 1) ps)) q) ≡ option_or (get m q) (get (entries_in class (drop from ps)) q)
        united q = ap (λ o. option_or o (get (entries_in class (drop (i + 1) ps)) q)) (get-insert nat_list_cmp_total m (class x.0) x q)
            ∙ elim (same q (class x.0)) as (λ b. same q (class x.0) ≡ b → option_or (cond b (Some x) (get m q)) (get (entries_in class (drop (i + 1) ps)) q) ≡ option_or (get m q) (get (entries_in class (drop from ps)) q)) [
              | true ↦ λ e. sym (taken_second (get m q) _ (ap (contains_key m) (same_is q (class x.0) e) ∙ lacks) ∙ this q e)
              | false ↦ λ e. ap (option_or (get m q)) (sym (other q e))
            ] refl

        remaining : (q : List ℕ) → cond (same q (class x.0)) None (cond (contains_key m0 q) (get n0 q) (get (entries_in class (drop from ps)) q)) ≡ cond (contains_key m0 q) (get n0 q) (get (entries_in class (drop (i + 1) ps)) q)
        remaining q =
            elim (same q (class x.0)) as (λ b. same q (class x.0) ≡ b → cond b None (cond (contains_key m0 q) (get n0 q) (get (entries_in class (drop from ps)) q)) ≡ cond (contains_key m0 q) (get n0 q) (get (entries_in class (drop (i + 1) ps)) q)) [
              | true ↦ λ e. sym (ap (λ b. cond b (get n0 q) (get (entries_in class (drop (i + 1) ps)) q)) (ap (contains_key m0) (same_is q (class x.0) e) ∙ lacking lacks) ∙ nothing_else q e)
              | false ↦ λ e. ap (cond (contains_key m0 q) (get n0 q)) (other q e)
            ] refl

        still_alike : (q : List ℕ) → is_some (get (entries_in class (drop (i + 1) ps)) q) ≡ true → contains_key m' q ≡ contains_key m0 q
        still_alike q e =
            ap (λ n. contains_key n q) added ∙ ap is_some (get-insert nat_list_cmp_total m (class x.0) x q)
            ∙ elim (same q (class x.0)) as (λ b. same q (class x.0) ≡ b → is_some (cond b (Some x) (get m q)) ≡ contains_key m q) [
              | true ↦ λ is. absurd (true≢false (sym e ∙ ap is_some (nothing_else q is)))
              | false ↦ λ is. refl
            ] refl
            ∙ d.alike q (later q e)

  module _ (m0 n0 : Entries K V) (cap : ℕ) (m : Entries K V) (ps : List (Option (K × V))) (from : ℕ) (d : IsMerging m0 n0 cap m ps from) (none : (j : ℕ) → from ≤ j → get_or ps j None ≡ None) where
    gone_over : (q : List ℕ) → get (entries_in class (drop from ps)) q ≡ None
    gone_over q = ap (λ n. get n q) (entries_none ps from none) ∙ get-empty _ q

    pub merged : (q : List ℕ) → get m q ≡ option_or (get m0 q) (get n0 q)
    merged q = sym (not_taken (get m q)) ∙ sym (ap (option_or (get m q)) (gone_over q)) ∙ d.union q

    pub left_over : entries_in class ps ≡ shared m0 n0
    left_over = same_map nat_list_cmp_total exact _ _ (λ q. d.left q ∙ ap (cond (contains_key m0 q) (get n0 q)) (gone_over q) ∙ sym (get_retained n0 (contains_key m0) q))

  -- the slot's entry can be placed within the room
  pub merging_space : (m0 n0 : Entries K V) (cap : ℕ) (m : Entries K V) (ps : List (Option (K × V))) (from i : ℕ) (x : K × V) → IsMerging m0 n0 cap m ps from → from ≤ i
      → ((j : ℕ) → from ≤ j → j < i → get_or ps j None ≡ None) → get_or ps i None ≡ Some x → contains_key m (class x.0) ≡ false → len m < cap
  merging_space m0 n0 cap m ps from i x d le none here lacks =
      let e = count m0 n0 cap m ps from i x d le none here ∙ ap (λ b. cond b 0 1 + lacked_count m0 (filled (drop (i + 1) ps))) (lacking m0 n0 cap m ps from i x d le none here lacks) in
      let f = d.space in
      omega (arith, e, f)

  pub lacked_small : (m : Entries K V) (items : List (K × V)) → lacked_count m items ≤ length items
  unfolding lacked_count
  lacked_small m [] = omega arith
  lacked_small m (p ∷ items) =
      let h = lacked_small m items in
      elim (contains_key m (class p.0)) as (λ b. cond b 0 1 + lacked_count m items ≤ suc (length items)) [ true ↦ omega (arith, h) | false ↦ omega (arith, h) ]

  -- where nothing is lacking, n has no class that m lacks
  nothing_lacked : (m n : Entries K V) → len (lacked m n) ≡ 0 → (q : List ℕ) → contains_key m q ≡ false → get n q ≡ None
  nothing_lacked m n e q absent =
      sym (get_retained n (λ c. not (contains_key m c)) q ∙ ap (λ b. cond (not b) (get n q) None) absent) ∙ ap (λ r. get r q) (empty_of_len (lacked m n) e) ∙ get-empty _ q

  kept_or : (o a : Option (K × V)) → (is_some o ≡ false → a ≡ None) → o ≡ option_or o a
  kept_or None a h = sym (h refl)
  kept_or (Some x) a h = refl

  kept_cond : (b : Bool) (o : Option (K × V)) → (b ≡ false → o ≡ None) → o ≡ cond b o None
  kept_cond true o h = refl
  kept_cond false o h = h refl

  -- and then both maps are as they should be
  pub moves_nothing : {H : Type 0} (m n : View K V H) → len (lacked (entries class m) (entries class n)) ≡ 0 → MovesLacked class m n m n
  moves_nothing m n e = record {
    union = λ q. kept_or (get (entries class m) q) (get (entries class n) q) (nothing_lacked (entries class m) (entries class n) e q);
    left = same_map nat_list_cmp_total exact _ _ (λ q. kept_cond (contains_key (entries class m) q) (get (entries class n) q) (nothing_lacked (entries class m) (entries class n) e q) ∙ sym (get_retained (entries class n) (contains_key (entries class m)) q));
  }

  -- something was lacking then
  pub merging_some : (m0 n0 : Entries K V) (cap : ℕ) (m : Entries K V) (ps : List (Option (K × V))) (from i : ℕ) (x : K × V) → IsMerging m0 n0 cap m ps from → from ≤ i
      → ((j : ℕ) → from ≤ j → j < i → get_or ps j None ≡ None) → get_or ps i None ≡ Some x → contains_key m (class x.0) ≡ false → 0 < len (lacked m0 n0)
  merging_some m0 n0 cap m ps from i x d le none here lacks =
      let e = count m0 n0 cap m ps from i x d le none here ∙ ap (λ b. cond b 0 1 + lacked_count m0 (filled (drop (i + 1) ps))) (lacking m0 n0 cap m ps from i x d le none here lacks) in
      let f = d.fewer in
      omega (arith, e, f)

  -- no more are lacking than there are
  pub lacked_most : (m : Entries K V) (ps : List (Option (K × V))) → Apart class ps → len (lacked m (entries_in class ps)) ≤ length (filled ps)
  lacked_most m ps h = let e = len_lacked m ps h in let f = lacked_small m (filled ps) in omega (arith, e, f)

  pub lacked_cons : (m : Entries K V) (x : K × V) (items : List (K × V)) → lacked_count m (x ∷ items) ≡ cond (contains_key m (class x.0)) 0 1 + lacked_count m items
  unfolding lacked_count
  lacked_cons m x items = refl

  pub lacked_nothing : (m : Entries K V) → lacked_count m [] ≡ 0
  unfolding lacked_count
  lacked_nothing m = refl

-- as many slots as before, and the same hasher
pub record KeepsLayout {K V H : Type 0} (old new : View K V H) : Type 0 where
  pub slots : slot_count new ≡ slot_count old
  pub hasher : new.hasher ≡ old.hasher

-- a look-up that answers a slot finds an entry, and one that answers none does not
pub seen : {S X : Type 0} (r : Option S) (o : Option X) (at : S → Option X) → IfSome r (λ s. IsSome (at s)) → IfSome r (λ s. o ≡ at s) → IfNone r (o ≡ None) → is_some r ≡ is_some o
seen None o at full found absent = sym (ap is_some absent)
seen (Some s) o at full found absent = sym (ap is_some found ∙ full)

pub byte_of_not : (b : Bool) → bool_byte (not b) ≡ cond b 0 1
byte_of_not true = refl
byte_of_not false = refl
