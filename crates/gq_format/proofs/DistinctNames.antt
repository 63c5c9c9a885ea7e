-- Names of columns differ: among the names that are tried one is free, since more are tried than are taken.
use Rattle.std.proofs.Common.{◌≡◌, ◌+◌, ◌^◌, ◌<◌, ◌≤◌, ◌||◌, ℕ, zero, suc, Bool, true, false, cond, not, List, [], ◌∷◌, ◌++◌, ◌∙◌, Some, refl, sym, ap, subst, length, map, fold, find, get_or, codes, decimal, bytes_eq, append_assoc, length-append, arith}
use Rattle.std.specs.Prelude.{unwrap_or}
use Rattle.std.specs.List.{AllByRecursion, IsDistinct, list_any, position_or_len, range_with_len}
use Rattle.std.proofs.lemmas.Bool.{false≢true}
use Rattle.std.proofs.lemmas.Cmp.{nat_list_eq_equiv}
use Rattle.std.proofs.lemmas.Fmt.{decimal_injective}
use Rattle.std.proofs.lemmas.List.{append-nil, append_cancel_left}
use Rattle.std.proofs.lemmas.List.Folds.{list_any-append}
use Rattle.std.proofs.lemmas.Slice.Eq.{bytes_eq-Decides}
use Rattle.std.proofs.lemmas.Map.Keys.{IsDistinct-push}
use Rattle.sw_probe.proofs.Everywhere.{pigeons}
use Rattle.gq_format.specs.Names.{distinct_names, free_name, is_taken, numbered, own_name}

abbrev step : List (List ℕ) → List (List ℕ) → List ℕ → List (List ℕ)
step header given name = given ++ own_name header given name ∷ []

-- one name a column

each_from : (header given names : List (List ℕ)) → length (fold (step header) given names) ≡ length given + length names
each_from header given [] = omega arith
each_from header given (name ∷ names) =
    let rest = each_from header (step header given name) names in
    let more = length-append given (own_name header given name ∷ []) in
    omega (arith, rest, more)

pub each_named : (header : List (List ℕ)) → length (distinct_names header) ≡ length header
each_named header = let all = each_from header [] header in omega (arith, all)

-- what passes a test

neither : (a b : Bool) → (a || b) ≡ false → (a ≡ false) × (b ≡ false)
neither true b e = absurd (false≢true (sym e))
neither false b e = (refl, e)

undone : (b : Bool) → not b ≡ false → b ≡ true
undone true e = refl
undone false e = absurd (false≢true (sym e))

undone_true : (b : Bool) → not b ≡ true → b ≡ false
undone_true true e = absurd (false≢true e)
undone_true false e = refl

found_passes : {X : Type 0} (p : X → Bool) (xs : List X) (none : X) → list_any p xs ≡ true → p (unwrap_or (find p xs) none) ≡ true
found_passes p [] none e = absurd (false≢true e)
found_passes p (x ∷ xs) none e = of (p x) refl e (found_passes p xs none)
  where
    of : (b : Bool) → p x ≡ b → (b || list_any p xs) ≡ true → (list_any p xs ≡ true → p (unwrap_or (find p xs) none) ≡ true) → p (unwrap_or (cond b (Some x) (find p xs)) none) ≡ true
    of true is e later = is
    of false is e later = later e

place_less : {X : Type 0} (p : X → Bool) (xs : List X) → list_any p xs ≡ true → position_or_len p xs < length xs
place_less p [] e = absurd (false≢true e)
place_less p (x ∷ xs) e = of (p x) e (place_less p xs)
  where
    of : (b : Bool) → (b || list_any p xs) ≡ true → (list_any p xs ≡ true → position_or_len p xs < length xs) → cond (not b) (1 + position_or_len p xs) 0 < suc (length xs)
    of true e later = omega arith
    of false e later = let less = later e in omega (arith, less)

place_passes : {X : Type 0} (p : X → Bool) (xs : List X) (d : X) → list_any p xs ≡ true → p (get_or xs (position_or_len p xs) d) ≡ true
place_passes p [] d e = absurd (false≢true e)
place_passes p (x ∷ xs) d e = of (p x) refl e (place_passes p xs d)
  where
    of : (b : Bool) → p x ≡ b → (b || list_any p xs) ≡ true → (list_any p xs ≡ true → p (get_or xs (position_or_len p xs) d) ≡ true)
        → p (get_or (x ∷ xs) (cond (not b) (1 + position_or_len p xs) 0) d) ≡ true
    of true is e later = is
    of false is e later =
        let next : 1 + position_or_len p xs ≡ suc (position_or_len p xs) = omega arith in
        ap (λ k. p (get_or (x ∷ xs) k d)) next ∙ later e

-- names with numbers

same_name : (name : List ℕ) (m n : ℕ) → m < 2 ^ 64 → n < 2 ^ 64 → numbered name m ≡ numbered name n → m ≡ n
same_name name m n low high e = decimal_injective m n low high (append_cancel_left (name ++ codes "_") (decimal m) (decimal n) e)

all_taken : (taken : List (List ℕ)) (name : List ℕ) (a n i : ℕ) → list_any (λ own. not (is_taken taken own)) (map (numbered name) (range_with_len a n)) ≡ false → i < n → is_taken taken (numbered name (a + i)) ≡ true
all_taken taken name a zero i none less = absurd (omega (arith, less))
all_taken taken name a (suc n) zero none less =
    let here : a + 0 ≡ a = omega arith in
    ap (λ k. is_taken taken (numbered name k)) here ∙ undone (is_taken taken (numbered name a)) (neither _ _ none).0
all_taken taken name a (suc n) (suc i) none less =
    let next : a + suc i ≡ a + 1 + i = omega arith in
    ap (λ k. is_taken taken (numbered name k)) next ∙ all_taken taken name (a + 1) n i (neither _ _ none).1 (omega (arith, less))

some_free : (taken : List (List ℕ)) (name : List ℕ) → length taken < 2 ^ 63 → list_any (λ own. not (is_taken taken own)) (map (numbered name) (range_with_len 2 (length taken + 1))) ≡ true
some_free taken name fits = of (list_any (λ own. not (is_taken taken own)) (map (numbered name) (range_with_len 2 (length taken + 1)))) refl
  where
    of : (b : Bool) → list_any (λ own. not (is_taken taken own)) (map (numbered name) (range_with_len 2 (length taken + 1))) ≡ b → b ≡ true
    of true is = refl
    of false is =
        let at : (i : ℕ) → i < length taken + 1 → is_taken taken (numbered name (2 + i)) ≡ true = λ i less. all_taken taken name 2 (length taken + 1) i is less in
        let place : ℕ → ℕ = λ i. position_or_len (bytes_eq (numbered name (2 + i))) taken in
        let one : (i j : ℕ) → i < length taken + 1 → j < length taken + 1 → place i ≡ place j → i ≡ j = λ i j a b e. (
        let x = get_or taken (place i) [] in
        let first : numbered name (2 + i) ≡ x = (bytes_eq-Decides (numbered name (2 + i)) x).0 (place_passes (bytes_eq (numbered name (2 + i))) taken [] (at i a)) in
        let second : numbered name (2 + j) ≡ x = (bytes_eq-Decides (numbered name (2 + j)) (get_or taken (place j) [])).0 (place_passes (bytes_eq (numbered name (2 + j))) taken [] (at j b)) ∙ sym (ap (λ k. get_or taken k []) e) in
        let same : 2 + i ≡ 2 + j = same_name name (2 + i) (2 + j) (omega (arith, a, fits)) (omega (arith, b, fits)) (first ∙ sym second) in
        omega (arith, same)) in
        let many = pigeons (length taken + 1) (length taken) place one (λ i less. place_less (bytes_eq (numbered name (2 + i))) taken (at i less)) in
        absurd (omega (arith, many))

free_is_free : (taken : List (List ℕ)) (name : List ℕ) → length taken < 2 ^ 63 → is_taken taken (free_name taken name) ≡ false
free_is_free taken name fits =
    undone_true (is_taken taken (free_name taken name)) (found_passes (λ own. not (is_taken taken own)) (map (numbered name) (range_with_len 2 (length taken + 1))) name (some_free taken name fits))

own_is_free : (header given : List (List ℕ)) (name : List ℕ) → length header + length given < 2 ^ 63 → is_taken given (own_name header given name) ≡ false
own_is_free header given name fits = of (is_taken given name) refl
  where
    of : (b : Bool) → is_taken given name ≡ b → is_taken given (cond b (free_name (header ++ given) name) name) ≡ false
    of true is =
        let own = free_name (header ++ given) name in
        let all = length-append header given in
        (neither (is_taken header own) (is_taken given own) (sym (list_any-append (bytes_eq own) header given) ∙ free_is_free (header ++ given) name (omega (arith, all, fits)))).1
    of false is = is

differ_from : (header given names : List (List ℕ)) → length header < 2 ^ 62 → length given + length names ≤ length header → IsDistinct bytes_eq given → IsDistinct bytes_eq (fold (step header) given names)
differ_from header given [] short fits differ = differ
differ_from header given (name ∷ names) short fits differ =
    let own = own_name header given name in
    let more = length-append given (own ∷ []) in
    differ_from header (step header given name) names short (omega (arith, more, fits)) (IsDistinct-push nat_list_eq_equiv given own differ (own_is_free header given name (omega (arith, short, fits))))

pub names_differ : (header : List (List ℕ)) → length header < 2 ^ 62 → IsDistinct bytes_eq (distinct_names header)
unfolding IsDistinct
names_differ header short = differ_from header [] header short (omega arith) tt

-- names that differ stay

new_name : (xs ys : List (List ℕ)) (y : List ℕ) → IsDistinct bytes_eq (xs ++ y ∷ ys) → is_taken xs y ≡ false
unfolding IsDistinct
new_name [] ys y differ = refl
new_name (x ∷ xs) ys y differ =
    let apart : bytes_eq y x ≡ false = nat_list_eq_equiv.symm y x ∙ behind (λ z. bytes_eq x z ≡ false) xs ys y differ.0 in
    rw apart (new_name xs ys y differ.1)
  where
    behind : (P : List ℕ → Type 0) (xs ys : List (List ℕ)) (y : List ℕ) → AllByRecursion P (xs ++ y ∷ ys) → P y
    behind P [] ys y all = all.0
    behind P (x ∷ xs) ys y all = behind P xs ys y all.1

kept_from : (header given names : List (List ℕ)) → IsDistinct bytes_eq (given ++ names) → fold (step header) given names ≡ given ++ names
kept_from header given [] differ = sym (append-nil given)
kept_from header given (name ∷ names) differ =
    let P : List (List ℕ) → Type 0 = λ l. IsDistinct bytes_eq l in
    let same : own_name header given name ≡ name = ap (λ b. cond b (free_name (header ++ given) name) name) (new_name given names name differ) in
    ap (λ own. fold (step header) (given ++ own ∷ []) names) same
    ∙ kept_from header (given ++ name ∷ []) names (subst P (sym (append_assoc given (name ∷ []) names)) differ)
    ∙ append_assoc given (name ∷ []) names

pub names_kept : (header : List (List ℕ)) → IsDistinct bytes_eq header → distinct_names header ≡ header
names_kept header differ = kept_from header [] header differ
