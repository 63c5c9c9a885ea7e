-- Keys that are removed, and a key that takes the number of another.
use Rattle.std.proofs.Common.{◌≡◌, ◌≢◌, ◌⊎◌, ◌++◌, ◌<◌, ◌≤◌, ◌+◌, ◌-◌, ℕ, zero, suc, Bool, true, false, cond, nat_eq, List, [], ◌∷◌, length, take, set, get_or, swap_remove, Option, Some, None, refl, sym, ap, subst, ◌∙◌, arith, inl, inr}
use Rattle.std.specs.List.{slice_get}
use Rattle.std.specs.Cmp.Lexicographic.{nat_list_cmp_total}
use Rattle.std.specs.FinMap.{insert, remove, get, get-insert, get-remove}
use mathlib.Core.Bool.{true≢false}
use native.Mathlib.Decide.{dec_lt}
use Rattle.std.proofs.lemmas.Bool.{cases_eq, eq-eqb, ne_eqb}
use Rattle.std.proofs.lemmas.List.{take-set-le, length-append}
use Rattle.std.proofs.lemmas.Option.{slice_get_within, slice_get_past, slice_get-get_or}
use Rattle.sw_table.specs.Entries.{Entries}
use Rattle.sw_index.specs.declared.numbered.Numbered.{Numbered}
use Rattle.sw_index.specs.Index.{IsIndexed, class_of_number}
use Rattle.sw_index.proofs.NumberLemmas.{get_last, same, same_is, same_itself, none_some, some_is}

abbrev pub Numbers : Type 0
Numbers = Entries Numbered (Unit {0})

abbrev pub numbered : ℕ → ℕ → Numbered
numbered hash number = record { hash = hash; number = number }

-- two tests of which one fails
differs : (c d : List ℕ) → (c ≡ d → ⊥) → same c d ≡ false
differs c d apart = told (same c d) refl
  where
    told : (b : Bool) → same c d ≡ b → b ≡ false
    told true e = absurd (apart (same_is c d e))
    told false e = refl

-- ---- the key at each number, without one of them

abbrev without : {K : Type 0} → (ℕ → Option K) → ℕ → ℕ → Option K
without at n j = cond (nat_eq j n) None (at j)

module _ {K : Type 0} where
  without_here : (at : ℕ → Option K) (n j : ℕ) → j ≡ n → without at n j ≡ None
  without_here at n j here = ap (λ b. cond b None (at j)) (eq-eqb j n here)

  without_other : (at : ℕ → Option K) (n j : ℕ) → j ≢ n → without at n j ≡ at j
  without_other at n j other = ap (λ b. cond b None (at j)) (ne_eqb j n other)

  without_tells : (at : ℕ → Option K) (n j : ℕ) (l : K) → without at n j ≡ Some l → (j ≢ n) × (at j ≡ Some l)
  without_tells at n j l e = elim (cases_eq j n) [
    | inl here ↦ absurd (none_some l (sym (without_here at n j here) ∙ e))
    | inr other ↦ (other, sym (without_other at n j other) ∙ e)
  ]

module _ {K : Type 0} (class : K → List ℕ) (hash : List ℕ → ℕ) where
  -- an index, by the key at each number
  record AreNumbered (at : ℕ → Option K) (numbers : Numbers) : Type 0 where
    different : (i j : ℕ) (k l : K) → at i ≡ Some k → at j ≡ Some l → class k ≡ class l → i ≡ j
    each : (i : ℕ) (k : K) → at i ≡ Some k → get numbers (hash (class k) ∷ i ∷ []) ≡ Some (numbered (hash (class k)) i, tt)
    only : (c : List ℕ) (n : Numbered) (u : Unit {0}) → get numbers c ≡ Some (n, u) → (c ≡ class_of_number n) × ((k : K) × (at n.number ≡ Some k) × (n.hash ≡ hash (class k)))

  numbered_of : (keys : List K) (numbers : Numbers) → IsIndexed class hash keys numbers → AreNumbered (slice_get keys) numbers
  numbered_of keys numbers is = record { different = is.different; each = is.each; only = is.only }

  indexed_of : (at : ℕ → Option K) (keys : List K) (numbers : Numbers) → ((j : ℕ) → slice_get keys j ≡ at j) → AreNumbered at numbers → IsIndexed class hash keys numbers
  indexed_of at keys numbers stands is = record {
    different = λ i j k l here there. is.different i j k l (sym (stands i) ∙ here) (sym (stands j) ∙ there);
    each = λ i k here. is.each i k (sym (stands i) ∙ here);
    only = λ c n u e. let known = is.only c n u e in (known.0, (known.1.0, stands n.number ∙ known.1.1, known.1.2));
  }

  -- if a number has no key the table doesn't have the number
  no_number_at : (at : ℕ → Option K) (numbers : Numbers) (h n : ℕ) → at n ≡ None → AreNumbered at numbers → get numbers (h ∷ n ∷ []) ≡ None
  no_number_at at numbers h n none is = told (get numbers (h ∷ n ∷ [])) refl
    where
      told : (o : Option (Numbered × Unit {0})) → get numbers (h ∷ n ∷ []) ≡ o → o ≡ None
      told None e = refl
      told (Some p) e =
          let known = is.only (h ∷ n ∷ []) p.0 p.1 e in
          let here : p.0.number ≡ n = let same = known.0 in cc in
          absurd (none_some known.1.0 (sym none ∙ ap at (sym here) ∙ known.1.1))

  module _ (at : ℕ → Option K) (numbers : Numbers) (n : ℕ) (k : K) (is : AreNumbered at numbers) where
    -- a key that goes takes its number along
    numbered_less : at n ≡ Some k → AreNumbered (without at n) (remove numbers (hash (class k) ∷ n ∷ []))
    numbered_less there = record {
      different = λ i j a b at_i at_j. is.different i j a b (without_tells at n i a at_i).1 (without_tells at n j b at_j).1;
      each = λ i l at_i.
          let was = without_tells at n i l at_i in
          gets (hash (class l) ∷ i ∷ [])
          ∙ ap (λ b. cond b None (get numbers (hash (class l) ∷ i ∷ []))) (differs (hash (class l) ∷ i ∷ []) (hash (class k) ∷ n ∷ []) (λ e. let number : i ≡ n = cc in was.0 number))
          ∙ is.each i l was.1;
      only = λ c x u e. only c x u (same c (hash (class k) ∷ n ∷ [])) refl (sym (gets c) ∙ e);
    }
      where
        gets : (c : List ℕ) → get (remove numbers (hash (class k) ∷ n ∷ [])) c ≡ cond (same c (hash (class k) ∷ n ∷ [])) None (get numbers c)
        gets c = get-remove nat_list_cmp_total numbers (hash (class k) ∷ n ∷ []) c

        only : (c : List ℕ) (x : Numbered) (u : Unit {0}) (b : Bool) → same c (hash (class k) ∷ n ∷ []) ≡ b → cond b None (get numbers c) ≡ Some (x, u)
            → (c ≡ class_of_number x) × ((l : K) × (without at n x.number ≡ Some l) × (x.hash ≡ hash (class l)))
        only c x u true e h = absurd (none_some (x, u) h)
        only c x u false e h =
            let known = is.only c x u h in
            let other : x.number ≢ n = λ here.
            let it : known.1.0 ≡ k = some_is known.1.0 k (sym known.1.1 ∙ ap at here ∙ there) in
            let hashes : x.hash ≡ hash (class k) = known.1.2 ∙ ap (λ l. hash (class l)) it in
            true≢false (sym (same_itself c (hash (class k) ∷ n ∷ []) (known.0 ∙ (λ z. hashes z ∷ here z ∷ []))) ∙ e) in
            (known.0, (known.1.0, without_other at n x.number other ∙ known.1.1, known.1.2))

    -- a key that takes a number without a key
    numbered_more : (at' : ℕ → Option K) → at n ≡ None → ((j : ℕ) (l : K) → at j ≡ Some l → class l ≡ class k → ⊥) → at' n ≡ Some k → ((j : ℕ) → j ≢ n → at' j ≡ at j)
        → AreNumbered at' (insert numbers (hash (class k) ∷ n ∷ []) (numbered (hash (class k)) n, tt))
    numbered_more at' free none here others = record {
      different = λ i j a b at_i at_j alike. different i j a b (stood i a at_i) (stood j b at_j) alike;
      each = λ i l at_i. each i l (stood i l at_i);
      only = λ c x u e. only c x u (same c (hash (class k) ∷ n ∷ [])) refl (sym (gets c) ∙ e);
    }
      where
        new : Numbered × Unit {0}
        new = (numbered (hash (class k)) n, tt)

        gets : (c : List ℕ) → get (insert numbers (hash (class k) ∷ n ∷ []) (numbered (hash (class k)) n, tt)) c ≡ cond (same c (hash (class k) ∷ n ∷ [])) (Some (numbered (hash (class k)) n, tt)) (get numbers c)
        gets c = get-insert nat_list_cmp_total numbers (hash (class k) ∷ n ∷ []) (numbered (hash (class k)) n, tt) c

        -- what is there now was added, or was there
        stood : (j : ℕ) (l : K) → at' j ≡ Some l → ((j ≡ n) × (k ≡ l)) ⊎ ((j ≢ n) × (at j ≡ Some l))
        stood j l e = elim (cases_eq j n) [
          | inl it ↦ inl (it, some_is k l (sym here ∙ ap at' (sym it) ∙ e))
          | inr other ↦ inr (other, sym (others j other) ∙ e)
        ]

        different : (i j : ℕ) (a b : K) → ((i ≡ n) × (k ≡ a)) ⊎ ((i ≢ n) × (at i ≡ Some a)) → ((j ≡ n) × (k ≡ b)) ⊎ ((j ≢ n) × (at j ≡ Some b)) → class a ≡ class b → i ≡ j
        different i j a b (inl x) (inl y) alike = x.0 ∙ sym y.0
        different i j a b (inl x) (inr y) alike = absurd (none j b y.1 (sym alike ∙ ap class (sym x.1)))
        different i j a b (inr x) (inl y) alike = absurd (none i a x.1 (alike ∙ ap class (sym y.1)))
        different i j a b (inr x) (inr y) alike = is.different i j a b x.1 y.1 alike

        each : (i : ℕ) (l : K) → ((i ≡ n) × (k ≡ l)) ⊎ ((i ≢ n) × (at i ≡ Some l)) → get (insert numbers (hash (class k) ∷ n ∷ []) (numbered (hash (class k)) n, tt)) (hash (class l) ∷ i ∷ []) ≡ Some (numbered (hash (class l)) i, tt)
        each i l (inl x) =
            let alike : hash (class l) ≡ hash (class k) = ap (λ y. hash (class y)) (sym x.1) in
            gets (hash (class l) ∷ i ∷ [])
            ∙ ap (λ b. cond b (Some (numbered (hash (class k)) n, tt)) (get numbers (hash (class l) ∷ i ∷ []))) (same_itself (hash (class l) ∷ i ∷ []) (hash (class k) ∷ n ∷ []) (λ z. alike z ∷ x.0 z ∷ []))
            ∙ (λ z. Some (numbered ((sym alike) z) ((sym x.0) z), tt))
        each i l (inr x) =
            gets (hash (class l) ∷ i ∷ [])
            ∙ ap (λ b. cond b (Some (numbered (hash (class k)) n, tt)) (get numbers (hash (class l) ∷ i ∷ []))) (differs (hash (class l) ∷ i ∷ []) (hash (class k) ∷ n ∷ []) (λ e. let number : i ≡ n = cc in x.0 number))
            ∙ is.each i l x.1

        only : (c : List ℕ) (x : Numbered) (u : Unit {0}) (b : Bool) → same c (hash (class k) ∷ n ∷ []) ≡ b → cond b (Some (numbered (hash (class k)) n, tt)) (get numbers c) ≡ Some (x, u)
            → (c ≡ class_of_number x) × ((l : K) × (at' x.number ≡ Some l) × (x.hash ≡ hash (class l)))
        only c x u true e h =
            let it : numbered (hash (class k)) n ≡ x = ap (λ (p : Numbered × Unit {0}). p.0) (some_is (numbered (hash (class k)) n, tt) (x, u) h) in
            (same_is c (hash (class k) ∷ n ∷ []) e ∙ ap class_of_number it, (k, ap (λ (m : Numbered). at' m.number) (sym it) ∙ here, ap (λ (m : Numbered). m.hash) (sym it)))
        only c x u false e h =
            let known = is.only c x u h in
            let other : x.number ≢ n = λ it. none_some known.1.0 (sym free ∙ ap at (sym it) ∙ known.1.1) in
            (known.0, (known.1.0, others x.number other ∙ known.1.1, known.1.2))

-- ---- the keys of the shorter list

module _ {K : Type 0} where
  take_front : (keys : List K) (n j : ℕ) → j < n → slice_get (take n keys) j ≡ slice_get keys j
  take_front keys zero j less = absurd (omega (arith, less))
  take_front [] (suc n) j less = refl
  take_front (x ∷ keys) (suc n) zero less = refl
  take_front (x ∷ keys) (suc n) (suc j) less = take_front keys n j (omega (arith, less))

  take_past : (keys : List K) (n j : ℕ) → n ≤ j → slice_get (take n keys) j ≡ None
  take_past keys zero j less = refl
  take_past [] (suc n) j less = refl
  take_past (x ∷ keys) (suc n) zero less = absurd (omega (arith, less))
  take_past (x ∷ keys) (suc n) (suc j) less = take_past keys n j (omega (arith, less))

  set_here : (keys : List K) (i : ℕ) (x : K) → i < length keys → slice_get (set keys i x) i ≡ Some x
  set_here [] i x less = absurd (omega (arith, less))
  set_here (k ∷ keys) zero x less = refl
  set_here (k ∷ keys) (suc i) x less = set_here keys i x (omega (arith, less))

  set_other : (keys : List K) (i j : ℕ) (x : K) → j ≢ i → slice_get (set keys i x) j ≡ slice_get keys j
  set_other [] i j x other = refl
  set_other (k ∷ keys) zero zero x other = absurd (other refl)
  set_other (k ∷ keys) zero (suc j) x other = refl
  set_other (k ∷ keys) (suc i) zero x other = refl
  set_other (k ∷ keys) (suc i) (suc j) x other = set_other keys i j x (λ e. other (ap (λ n. suc n) e))

  -- without the last
  all_but_last : (keys : List K) (n j : ℕ) → n + 1 ≡ length keys → slice_get (take n keys) j ≡ without (slice_get keys) n j
  all_but_last keys n j last = elim (dec_lt j n) [
    | yes less ↦ take_front keys n j less ∙ sym (without_other (slice_get keys) n j (λ e. omega (arith, e, less)))
    | no behind ↦ take_past keys n j (omega (arith, behind)) ∙ sym (elim (cases_eq j n) [
      | inl here ↦ without_here (slice_get keys) n j here
      | inr other ↦ without_other (slice_get keys) n j other ∙ slice_get_past keys j (omega (arith, behind, other, last))
    ])
  ]

  -- another at the place of the last changes nothing of this
  last_over : (keys : List K) (i j : ℕ) (d : K) → i + 1 ≡ length keys → slice_get (swap_remove keys i d) j ≡ without (slice_get keys) i j
  last_over keys i j d last =
      let n : length keys - 1 ≡ i = omega (arith, last) in
      ap (λ m. slice_get (take m (set keys i (get_or keys (length keys - 1) d))) j) n
      ∙ ap (λ ks. slice_get ks j) (take-set-le i keys i (get_or keys (length keys - 1) d) (omega arith))
      ∙ all_but_last keys i j last

  -- the last at the place of another
  swapped_here : (keys : List K) (i n : ℕ) (d l : K) → n ≡ length keys - 1 → i < n → slice_get keys n ≡ Some l → slice_get (take n (set keys i (get_or keys n d))) i ≡ Some l
  swapped_here keys i n d l last less there =
      take_front (set keys i (get_or keys n d)) n i less ∙ set_here keys i (get_or keys n d) (omega (arith, last, less))
      ∙ sym (slice_get-get_or keys n d (slice_get_within keys n l there)) ∙ there

  swapped_other : (keys : List K) (i n j : ℕ) (x : K) → n ≡ length keys - 1 → i < n → j ≢ i → slice_get (take n (set keys i x)) j ≡ without (without (slice_get keys) i) n j
  swapped_other keys i n j x last less other = elim (dec_lt j n) [
    | yes before ↦
        take_front (set keys i x) n j before ∙ set_other keys i j x other
        ∙ sym (without_other (without (slice_get keys) i) n j (λ e. omega (arith, e, before)) ∙ without_other (slice_get keys) i j other)
    | no behind ↦ take_past (set keys i x) n j (omega (arith, behind)) ∙ sym (elim (cases_eq j n) [
      | inl here ↦ without_here (without (slice_get keys) i) n j here
      | inr beyond ↦
          without_other (without (slice_get keys) i) n j beyond ∙ without_other (slice_get keys) i j other
          ∙ slice_get_past keys j (omega (arith, behind, beyond, last))
    ])
  ]

  pub last_there : (keys rest : List K) (k : K) → keys ≡ rest ++ k ∷ [] → slice_get keys (length keys - 1) ≡ Some k
  last_there keys rest k e = subst (λ ks. slice_get ks (length ks - 1) ≡ Some k) (sym e) (
      let n : length (rest ++ k ∷ []) - 1 ≡ length rest = omega (arith, length-append rest (k ∷ [])) in
      ap (slice_get (rest ++ k ∷ [])) n ∙ get_last rest k)

  -- at the number of a removed key is the last key, if that is another
  pub comes_last : (keys : List K) (i : ℕ) (d l : K) → i < length keys → slice_get (swap_remove keys i d) i ≡ Some l → (i + 1 < length keys) × (slice_get keys (length keys - 1) ≡ Some l)
  comes_last keys i d l less there = elim (cases_eq (i + 1) (length keys)) [
    | inl last ↦ absurd (none_some l (sym (last_over keys i i d last ∙ without_here (slice_get keys) i i refl) ∙ there))
    | inr before ↦
        let last : slice_get keys (length keys - 1) ≡ Some (get_or keys (length keys - 1) d) = slice_get-get_or keys (length keys - 1) d (omega (arith, less)) in
        let here = swapped_here keys i (length keys - 1) d (get_or keys (length keys - 1) d) refl (omega (arith, less, before)) last in
        (omega (arith, less, before), last ∙ sym here ∙ there)
  ]

-- ---- an index without one of its keys

module _ {K : Type 0} {class : K → List ℕ} {hash : List ℕ → ℕ} {keys : List K} {numbers : Numbers} (is : IsIndexed class hash keys numbers) where
  one_less : (n : ℕ) (k : K) (h : ℕ) (new : Numbers) → slice_get keys n ≡ Some k → h ≡ hash (class k) → new ≡ remove numbers (h ∷ n ∷ []) → AreNumbered class hash (without (slice_get keys) n) new
  one_less n k h new there hashed gone =
      subst (AreNumbered class hash (without (slice_get keys) n)) (ap (λ x. remove numbers (x ∷ n ∷ [])) (sym hashed) ∙ sym gone)
      (numbered_less class hash (slice_get keys) numbers n k (numbered_of class hash keys numbers is) there)

  -- without the last
  pub indexed-pop : {rest : List K} {new : Numbers} {k : K} {h n : ℕ} → slice_get keys (length keys - 1) ≡ Some k → rest ≡ take (length keys - 1) keys → h ≡ hash (class k) → n ≡ length keys - 1
      → new ≡ remove numbers (h ∷ n ∷ []) → IsIndexed class hash rest new
  indexed-pop {rest} {new} {k} {h} {n} there shorter hashed last gone =
      let within = slice_get_within keys (length keys - 1) k there in
      indexed_of class hash (without (slice_get keys) n) rest new
      (λ j. ap (λ ks. slice_get ks j) shorter ∙ ap (λ m. slice_get (take m keys) j) (sym last) ∙ all_but_last keys n j (omega (arith, last, within)))
      (one_less n k h new (ap (slice_get keys) last ∙ there) hashed gone)

  module _ (i : ℕ) {k : K} {rest : List K} {h : ℕ} {one : Numbers} (there : slice_get keys i ≡ Some k) (shorter : rest ≡ swap_remove keys i k) (hashed : h ≡ hash (class k)) (gone : one ≡ remove numbers (h ∷ i ∷ [])) where
    -- the key that went was the last
    pub indexed-last : i + 1 ≡ length keys → IsIndexed class hash rest one
    indexed-last last = indexed_of class hash (without (slice_get keys) i) rest one (λ j. ap (λ ks. slice_get ks j) shorter ∙ last_over keys i j k last) (one_less i k h one there hashed gone)

    -- it was another, and the last takes its number
    module _ {l : K} {h' n : ℕ} (comes : slice_get rest i ≡ Some l) (hashed' : h' ≡ hash (class l)) (behind : n ≡ length keys - 1) where
      last : (i + 1 < length keys) × (slice_get keys (length keys - 1) ≡ Some l)
      last = comes_last keys i k l (slice_get_within keys i k there) (ap (λ ks. slice_get ks i) (sym shorter) ∙ comes)

      before : i < n
      before = omega (arith, behind, last.0)

      at_end : slice_get keys n ≡ Some l
      at_end = ap (slice_get keys) behind ∙ last.1

      at_last : without (slice_get keys) i n ≡ Some l
      at_last = without_other (slice_get keys) i n (λ e. omega (arith, e, before)) ∙ at_end

      vacant : without (without (slice_get keys) i) n i ≡ None
      vacant = without_other (without (slice_get keys) i) n i (λ e. omega (arith, e, before)) ∙ without_here (slice_get keys) i i refl

      without_both : AreNumbered class hash (without (without (slice_get keys) i) n) (remove one (h' ∷ n ∷ []))
      without_both = subst (λ x. AreNumbered class hash (without (without (slice_get keys) i) n) (remove one (x ∷ n ∷ []))) (sym hashed')
          (numbered_less class hash (without (slice_get keys) i) one n l (one_less i k h one there hashed gone) at_last)

      pub last_number : get one (h' ∷ n ∷ []) ≡ Some (numbered h' n, tt)
      last_number = subst (λ x. get one (x ∷ n ∷ []) ≡ Some (numbered x n, tt)) (sym hashed') ((one_less i k h one there hashed gone).each n l at_last)

      pub number_free : get (remove one (h' ∷ n ∷ [])) (h' ∷ i ∷ []) ≡ None
      number_free = no_number_at class hash (without (without (slice_get keys) i) n) (remove one (h' ∷ n ∷ [])) h' i vacant without_both

      none_alike : (j : ℕ) (x : K) → without (without (slice_get keys) i) n j ≡ Some x → class x ≡ class l → ⊥
      none_alike j x at_j alike =
          let a = without_tells (without (slice_get keys) i) n j x at_j in
          let b = without_tells (slice_get keys) i j x a.1 in
          a.0 (is.different j n x l b.1 at_end alike)

      stands : (j : ℕ) → j ≢ i → slice_get rest j ≡ without (without (slice_get keys) i) n j
      stands j other =
          ap (λ ks. slice_get ks j) shorter ∙ ap (λ m. slice_get (take m (set keys i (get_or keys (length keys - 1) k))) j) (sym behind)
          ∙ swapped_other keys i n j (get_or keys (length keys - 1) k) behind before other

      pub indexed-swapped : {new : Numbers} → new ≡ insert (remove one (h' ∷ n ∷ [])) (h' ∷ i ∷ []) (numbered h' i, tt) → IsIndexed class hash rest new
      indexed-swapped {new} put = indexed_of class hash (slice_get rest) rest new (λ j. refl)
          (subst (AreNumbered class hash (slice_get rest)) ((λ z. insert (remove one (h' ∷ n ∷ [])) ((sym hashed') z ∷ i ∷ []) (numbered ((sym hashed') z) i, tt)) ∙ sym put)
          (numbered_more class hash (without (without (slice_get keys) i) n) (remove one (h' ∷ n ∷ [])) i l without_both (slice_get rest) vacant none_alike comes stands))
