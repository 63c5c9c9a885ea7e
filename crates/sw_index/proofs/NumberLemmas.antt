-- The numbers of keys, and the table that has them.
use Rattle.std.proofs.Common.{◌≡◌, ℕ, zero, suc, Bool, true, false, cond, List, [], ◌∷◌, ◌++◌, length, Option, Some, None, refl, sym, ap, subst, ◌∙◌, arith}
use Rattle.std.specs.Option.{option_map, option_map_or}
use Rattle.std.specs.List.{slice_get}
use Rattle.std.specs.Ordering.{nat_cmp, eq_by_cmp}
use Rattle.std.specs.Cmp.Lexicographic.{slice_cmp, nat_list_cmp_total, texts_ties, bytes_decides}
use Rattle.std.specs.FinMap.{empty, insert, get, get-empty, get-insert}
use Rattle.std.proofs.lemmas.Option.{slice_get_within}
use Rattle.sw_table.specs.Entries.{Entries}
use Rattle.sw_index.specs.declared.numbered.Numbered.{Numbered}
use Rattle.sw_index.specs.Index.{AreDifferent, HasNone, IsIndexed, class_of_number, number_in, is_of, named_number}

-- ---- classes

abbrev pub same : List ℕ → List ℕ → Bool
same c d = eq_by_cmp (slice_cmp nat_cmp) c d

pub same_is : (c d : List ℕ) → same c d ≡ true → c ≡ d
same_is c d e = (bytes_decides c d).0 (texts_ties c d ∙ e)

pub same_itself : (c d : List ℕ) → c ≡ d → same c d ≡ true
same_itself c d e = sym (texts_ties c d) ∙ (bytes_decides c d).1 e

pub none_some : {X : Type 0} (x : X) → None ≡ Some x → ⊥
none_some x e = cc

pub some_is : {X : Type 0} (x y : X) → Some x ≡ Some y → x ≡ y
some_is x y e = cc

-- ---- the number of a key

module _ {K : Type 0} (test : K → Bool) where
  -- the key of the number passes
  number_tells : (keys : List K) (n : ℕ) → number_in test keys ≡ Some n → (k : K) × (slice_get keys n ≡ Some k) × (test k ≡ true)
  number_tells [] n e = absurd (none_some n e)
  number_tells (key ∷ keys) n e = told (test key) refl (number_in test keys) (λ m. number_tells keys m) e
    where
      told : (b : Bool) → test key ≡ b → (o : Option ℕ) → ((m : ℕ) → o ≡ Some m → (k : K) × (slice_get keys m ≡ Some k) × (test k ≡ true)) → cond b (Some 0) (option_map suc o) ≡ Some n
          → (k : K) × (slice_get (key ∷ keys) n ≡ Some k) × (test k ≡ true)
      told true is o later h = subst (λ m. (k : K) × (slice_get (key ∷ keys) m ≡ Some k) × (test k ≡ true)) (some_is 0 n h) (key, refl, is)
      told false is None later h = absurd (none_some n h)
      told false is (Some m) later h = subst (λ m'. (k : K) × (slice_get (key ∷ keys) m' ≡ Some k) × (test k ≡ true)) (some_is (suc m) n h) (later m refl)

  -- where there is no number none passes
  none_pass : (keys : List K) → number_in test keys ≡ None → (i : ℕ) (k : K) → slice_get keys i ≡ Some k → test k ≡ true → ⊥
  none_pass [] e i k at is = none_some k at
  none_pass (key ∷ keys) e zero k at is =
      let first : test key ≡ true = ap test (some_is key k at) ∙ is in
      none_some 0 (sym e ∙ ap (λ b. cond b (Some 0) (option_map suc (number_in test keys))) first)
  none_pass (key ∷ keys) e (suc i) k at is = told (test key) (number_in test keys) (λ none. none_pass keys none i k at is) e
    where
      told : (b : Bool) (o : Option ℕ) → (o ≡ None → ⊥) → cond b (Some 0) (option_map suc o) ≡ None → ⊥
      told true o later h = none_some 0 (sym h)
      told false None later h = later refl
      told false (Some m) later h = none_some (suc m) (sym h)

  -- the number of the only key that passes
  number_is : (keys : List K) (n : ℕ) (k : K) → slice_get keys n ≡ Some k → test k ≡ true → ((i : ℕ) (l : K) → slice_get keys i ≡ Some l → test l ≡ true → i ≡ n) → number_in test keys ≡ Some n
  number_is keys n k at is only = told (number_in test keys) refl
    where
      told : (o : Option ℕ) → number_in test keys ≡ o → o ≡ Some n
      told None e = absurd (none_pass keys e n k at is)
      told (Some m) e = let first = number_tells keys m e in ap (λ i. Some i) (only m first.0 first.1 first.2)

-- ---- a key that is sought

module _ {K : Type 0} (class : K → List ℕ) where
  its_number : (keys : List K) (c : List ℕ) (n : ℕ) (k : K) → AreDifferent class keys → slice_get keys n ≡ Some k → class k ≡ c → number_in (is_of class c) keys ≡ Some n
  its_number keys c n k different at is =
      number_is (is_of class c) keys n k at (same_itself (class k) c is) (λ i l here passes. different i n l k here at (same_is (class l) c passes ∙ sym is))

  names : ℕ → Option ℕ → List ℕ
  names hash o = hash ∷ option_map_or (λ number. number ∷ []) o []

  -- it names a number of the list where that is its key's
  pub named_is : (keys : List K) (hash : ℕ) (c : List ℕ) (n : ℕ) (k : K) → AreDifferent class keys → slice_get keys n ≡ Some k → class k ≡ c → named_number class hash c keys ≡ hash ∷ n ∷ []
  named_is keys hash c n k different at is = ap (λ o. hash ∷ option_map_or (λ number. number ∷ []) o []) (its_number keys c n k different at is)

  pub named_tells : (keys : List K) (hash told : ℕ) (c : List ℕ) (n : ℕ) → named_number class hash c keys ≡ told ∷ n ∷ [] → (k : K) × (slice_get keys n ≡ Some k) × (class k ≡ c)
  named_tells keys hash told c n e = at (number_in (is_of class c) keys) refl e
    where
      at : (o : Option ℕ) → number_in (is_of class c) keys ≡ o → (hash ∷ option_map_or (λ number. number ∷ []) o []) ≡ told ∷ n ∷ [] → (k : K) × (slice_get keys n ≡ Some k) × (class k ≡ c)
      at None found h = let bad : ⊥ = cc in absurd bad
      at (Some m) found h =
          let is : m ≡ n = cc in
          let there = number_tells (is_of class c) keys m found in
          (there.0, ap (slice_get keys) (sym is) ∙ there.1, same_is (class there.0) c there.2)

  -- the key of a number is the one that is sought exactly where that is what it names
  pub named_here : (keys : List K) (hash : ℕ) (c : List ℕ) (n : ℕ) (k : K) → AreDifferent class keys → slice_get keys n ≡ Some k → named_number class hash c keys ≡ hash ∷ n ∷ [] → class k ≡ c
  named_here keys hash c n k different at e =
      let there = named_tells keys hash hash c n e in
      ap class (some_is k there.0 (sym at ∙ there.1)) ∙ there.2

  -- ---- what the table has

  module _ (hash : List ℕ → ℕ) where
    -- what was found for a key is its number
    pub found_number : (keys : List K) (numbers : Entries Numbered (Unit {0})) (c : List ℕ) (told : ℕ) (n : Numbered) (u : Unit {0}) → IsIndexed class hash keys numbers
        → get numbers (named_number class told c keys) ≡ Some (n, u) → (k : K) × (slice_get keys n.number ≡ Some k) × (class k ≡ c)
    found_number keys numbers c told n u indexed e = named_tells keys told n.hash c n.number (indexed.only (named_number class told c keys) n u e).0

    -- where nothing was found no key is of the class
    pub none_found : (keys : List K) (numbers : Entries Numbered (Unit {0})) (c : List ℕ) (told : ℕ) → IsIndexed class hash keys numbers → told ≡ hash c
        → get numbers (named_number class told c keys) ≡ None → HasNone class keys c
    none_found keys numbers c told indexed hashed e i k at is =
        let named : named_number class told c keys ≡ hash (class k) ∷ i ∷ [] = named_is keys told c i k indexed.different at is ∙ ap (λ h. h ∷ i ∷ []) (hashed ∙ ap hash (sym is)) in
        none_some _ (sym e ∙ ap (get numbers) named ∙ indexed.each i k at)

    pub indexed-none : (keys : List K) (numbers : Entries Numbered (Unit {0})) → keys ≡ [] → numbers ≡ empty → IsIndexed class hash keys numbers
    indexed-none keys numbers no_key none = record {
      different = λ i j k l at at' is. absurd (none_some k (sym (ap (λ ks. slice_get ks i) no_key) ∙ at));
      each = λ i k at. absurd (none_some k (sym (ap (λ ks. slice_get ks i) no_key) ∙ at));
      only = λ c n u e. absurd (none_some (n, u) (sym (ap (λ (m : Entries Numbered (Unit {0})). get m c) none ∙ get-empty _ c) ∙ e));
    }

    -- the number after all others is not there yet
    pub no_number : (keys : List K) (numbers : Entries Numbered (Unit {0})) (told : ℕ) → IsIndexed class hash keys numbers → get numbers (told ∷ length keys ∷ []) ≡ None
    no_number keys numbers told indexed = at (get numbers (told ∷ length keys ∷ [])) refl
      where
        at : (o : Option (Numbered × Unit {0})) → get numbers (told ∷ length keys ∷ []) ≡ o → o ≡ None
        at None e = refl
        at (Some p) e =
            let known = indexed.only (told ∷ length keys ∷ []) p.0 p.1 e in
            let same : length keys ≡ p.0.number = let is = known.0 in cc in
            let less = slice_get_within keys p.0.number known.1.0 known.1.1 in
            absurd (omega (arith, same, less))

    pub no_number_after : (keys : List K) (numbers : Entries Numbered (Unit {0})) (told n : ℕ) → IsIndexed class hash keys numbers → n ≡ length keys → get numbers (told ∷ n ∷ []) ≡ None
    no_number_after keys numbers told n indexed is = ap (λ m. get numbers (told ∷ m ∷ [])) is ∙ no_number keys numbers told indexed

-- ---- one key more

get_front : {K : Type 0} (keys : List K) (k : K) (i : ℕ) (l : K) → slice_get keys i ≡ Some l → slice_get (keys ++ k ∷ []) i ≡ Some l
get_front [] k i l at = absurd (none_some l at)
get_front (x ∷ keys) k zero l at = at
get_front (x ∷ keys) k (suc i) l at = get_front keys k i l at

pub get_last : {K : Type 0} (keys : List K) (k : K) → slice_get (keys ++ k ∷ []) (length keys) ≡ Some k
get_last [] k = refl
get_last (x ∷ keys) k = get_last keys k

-- what is in the longer list was there before, or is the last
pub data Stood {K : Type 0} (keys : List K) (k : K) (i : ℕ) (l : K) : Type 0 where
  before : slice_get keys i ≡ Some l → Stood keys k i l
  last : i ≡ length keys → l ≡ k → Stood keys k i l

stood : {K : Type 0} (keys : List K) (k : K) (i : ℕ) (l : K) → slice_get (keys ++ k ∷ []) i ≡ Some l → Stood keys k i l
stood [] k zero l at = last refl (some_is l k (sym at))
stood [] k (suc i) l at = absurd (none_some l at)
stood (x ∷ keys) k zero l at = before at
stood (x ∷ keys) k (suc i) l at = shifted (stood keys k i l at)
  where
    shifted : Stood keys k i l → Stood (x ∷ keys) k (suc i) l
    shifted (before h) = before h
    shifted (last h is) = last (ap (λ n. suc n) h) is

module _ {K : Type 0} (class : K → List ℕ) (hash : List ℕ → ℕ) where
  pub different-more : (keys : List K) (k : K) → AreDifferent class keys → HasNone class keys (class k) → AreDifferent class (keys ++ k ∷ [])
  different-more keys k different none i j a b at at' is = told (stood keys k i a at) (stood keys k j b at')
    where
      told : Stood keys k i a → Stood keys k j b → i ≡ j
      told (before h) (before h') = different i j a b h h' is
      told (before h) (last n e) = absurd (none i a h (is ∙ ap class e))
      told (last n e) (before h') = absurd (none j b h' (sym is ∙ ap class e))
      told (last n e) (last n' e') = n ∙ sym n'

  pub indexed-more : (keys : List K) (k : K) (numbered : Numbered) (old new : Entries Numbered (Unit {0})) → IsIndexed class hash keys old → HasNone class keys (class k)
      → numbered.hash ≡ hash (class k) → numbered.number ≡ length keys → new ≡ insert old (class_of_number numbered) (numbered, tt) → IsIndexed class hash (keys ++ k ∷ []) new
  indexed-more keys k numbered old new indexed none hashed at_end put = record {
    different = different-more keys k indexed.different none;
    each = λ i l at. each i l (stood keys k i l at);
    only = λ c n u e. only c n u (same c (class_of_number numbered)) refl (sym (gets c) ∙ e);
  }
    where
      gets : (c : List ℕ) → get new c ≡ cond (same c (class_of_number numbered)) (Some (numbered, tt)) (get old c)
      gets c = ap (λ (m : Entries Numbered (Unit {0})). get m c) put ∙ get-insert nat_list_cmp_total old (class_of_number numbered) (numbered, tt) c

      each : (i : ℕ) (l : K) → Stood keys k i l → get new (hash (class l) ∷ i ∷ []) ≡ Some (record { hash = hash (class l); number = i }, tt)
      each i l (before h) =
          gets (hash (class l) ∷ i ∷ []) ∙ told (same (hash (class l) ∷ i ∷ []) (class_of_number numbered)) refl
        where
          told : (b : Bool) → same (hash (class l) ∷ i ∷ []) (class_of_number numbered) ≡ b → cond b (Some (numbered, tt)) (get old (hash (class l) ∷ i ∷ [])) ≡ Some (record { hash = hash (class l); number = i }, tt)
          told true e =
              let is = same_is (hash (class l) ∷ i ∷ []) (class_of_number numbered) e in
              let number : i ≡ numbered.number = cc in
              let less = slice_get_within keys i l h in
              absurd (omega (arith, number, at_end, less))
          told false e = indexed.each i l h
      each i l (last n e) =
          let here : hash (class l) ∷ i ∷ [] ≡ class_of_number numbered = λ z. (ap (λ x. hash (class x)) e ∙ sym hashed) z ∷ (n ∙ sym at_end) z ∷ [] in
          gets (hash (class l) ∷ i ∷ [])
          ∙ ap (λ b. cond b (Some (numbered, tt)) (get old (hash (class l) ∷ i ∷ []))) (same_itself (hash (class l) ∷ i ∷ []) (class_of_number numbered) here)
          ∙ (λ z. Some (record { hash = (hashed ∙ ap (λ x. hash (class x)) (sym e)) z; number = (at_end ∙ sym n) z }, tt))

      only : (c : List ℕ) (n : Numbered) (u : Unit {0}) (b : Bool) → same c (class_of_number numbered) ≡ b → cond b (Some (numbered, tt)) (get old c) ≡ Some (n, u)
          → (c ≡ class_of_number n) × ((l : K) × (slice_get (keys ++ k ∷ []) n.number ≡ Some l) × (n.hash ≡ hash (class l)))
      only c n u true is e =
          let it : numbered ≡ n = ap (λ (p : Numbered × Unit {0}). p.0) (some_is (numbered, tt) (n, u) e) in
          (same_is c (class_of_number numbered) is ∙ ap class_of_number it, (k, ap (slice_get (keys ++ k ∷ [])) (ap (λ (m : Numbered). m.number) (sym it) ∙ at_end) ∙ get_last keys k, ap (λ (m : Numbered). m.hash) (sym it) ∙ hashed))
      only c n u false is e =
          let known = indexed.only c n u e in
          (known.0, (known.1.0, get_front keys k n.number known.1.0 known.1.1, known.1.2))
