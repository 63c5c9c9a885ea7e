-- Keys of one width, and the words of their values.
use Rattle.std.proofs.Common.{◌≡◌, ℕ, zero, suc, ◌+◌, ◌-◌, ◌*◌, ◌^◌, ◌≤◌, ◌<◌, ◌-ℤ◌, Bool, true, false, cond, List, [], ◌∷◌, ◌++◌, All, length, map, take, drop, pos, Option, Some, None, refl, subst, sym, ap, ◌∙◌, arith}
use Rattle.std.specs.Prelude.{◌&&◌, IfSome, Result, Ok, Err, OnOk, nat_lt, option_to_list, slice_index_or}
use Rattle.std.specs.List.{slice_get}
use Rattle.std.proofs.lemmas.Bool.Decides.{nat_tests}
use Rattle.std.proofs.lemmas.List.{drop-drop, get_or-drop, length-drop, length-take-le, map-append, take-append-le, drop-append-le, take_all, take-map, drop-map}
use Rattle.std.proofs.lemmas.Option.{slice_get_past}
use Rattle.std.proofs.lemmas.List.Elements.{All-cons, All-head, All-nil, All-tail}
use Rattle.std.proofs.Math.Seq.{drop-cons}
use Rattle.gq_row.specs.declared.value.Value.{Value}
use Rattle.gq_row.specs.declared.value.Value.TheVariants.{Int, Null, Text}
use Rattle.gq_row.specs.Order.{equal_value, same_key}
use Rattle.gq_row.specs.Rows.{cell}
use Rattle.gq_cells.specs.Keys.{AreInOrder, keys_in, values_in_order}
use Rattle.gq_cells.specs.Words.{HasText, IsWord, is_index, text_in, word_value}

-- ---- words in order

-- a word that isn't an index has the same value with any overflow
own_anywhere : (overflow : List Value) (word : ℕ) → is_index word ≡ false → word_value overflow word ≡ word_value [] word
own_anywhere overflow word = by_tests (nat_lt word (2 ^ 63)) (nat_lt word (3 * 2 ^ 62))
  where
    by_tests : (b c : Bool) → cond b false c ≡ false
        → cond b (Int (pos word -ℤ pos (2 ^ 62))) (cond c (slice_index_or overflow (word - 2 ^ 63) Null) (Text (text_in word)))
        ≡ cond b (Int (pos word -ℤ pos (2 ^ 62))) (cond c (slice_index_or [] (word - 2 ^ 63) Null) (Text (text_in word)))
    by_tests true c is = refl
    by_tests false true is = let bad : ⊥ = cc in absurd bad
    by_tests false false is = refl

-- an index has the value at its place
value_there : (overflow : List Value) (word : ℕ) → is_index word ≡ true → word_value overflow word ≡ slice_index_or overflow (word - 2 ^ 63) Null
value_there overflow word = by_tests (nat_lt word (2 ^ 63)) (nat_lt word (3 * 2 ^ 62))
  where
    by_tests : (b c : Bool) → cond b false c ≡ true
        → cond b (Int (pos word -ℤ pos (2 ^ 62))) (cond c (slice_index_or overflow (word - 2 ^ 63) Null) (Text (text_in word))) ≡ slice_index_or overflow (word - 2 ^ 63) Null
    by_tests true c is = let bad : ⊥ = cc in absurd bad
    by_tests false true is = refl
    by_tests false false is = let bad : ⊥ = cc in absurd bad

-- the words are the values that leave in order
pub in_order : (from to : ℕ) (words : List ℕ) (overflow : List Value) → AreInOrder from words to → map (word_value overflow) words ≡ values_in_order words (drop from overflow)
in_order from to [] overflow is = refl
in_order from to (word ∷ words) overflow is = told (is_index word) refl is.2 (λ m. in_order m to words overflow)
  where
    told : (b : Bool) → is_index word ≡ b → AreInOrder (cond b (suc from) from) words to
        → ((m : ℕ) → AreInOrder m words to → map (word_value overflow) words ≡ values_in_order words (drop m overflow))
        → word_value overflow word ∷ map (word_value overflow) words
        ≡ cond b (slice_index_or (drop from overflow) 0 Null ∷ values_in_order words (drop 1 (drop from overflow))) (word_value [] word ∷ values_in_order words (drop from overflow))
    told false own rest later = λ i. own_anywhere overflow word own i ∷ later from rest i
    told true index rest later =
        let place : word - 2 ^ 63 ≡ from + 0 = let at = is.0 index in omega (arith, at) in
        let more : drop (suc from) overflow ≡ drop 1 (drop from overflow) = ap (λ n. drop n overflow) (let next : suc from ≡ from + 1 = omega arith in next) ∙ sym (drop-drop 1 from overflow) in
        λ i. (value_there overflow word index ∙ ap (λ n. slice_index_or overflow n Null) place ∙ sym (get_or-drop from overflow 0 Null)) i ∷ (later (suc from) rest ∙ ap (values_in_order words) more) i

ordered_least : (from to : ℕ) (words : List ℕ) → AreInOrder from words to → from ≤ to
ordered_least from to [] is = omega (arith, is)
ordered_least from to (word ∷ words) is = told (is_index word) (ordered_least (cond (is_index word) (suc from) from) to words is.2)
  where
    told : (b : Bool) → cond b (suc from) from ≤ to → from ≤ to
    told false least = least
    told true least = omega (arith, least)

-- a word from the first index up to the last one but null is an index
not_index : (word : ℕ) → 2 ^ 63 ≤ word → word + 1 < 3 * 2 ^ 62 → is_index word ≡ false → ⊥
not_index word low high = by_tests (nat_lt word (2 ^ 63)) (nat_lt word (3 * 2 ^ 62)) refl refl
  where
    by_tests : (b c : Bool) → nat_lt word (2 ^ 63) ≡ b → nat_lt word (3 * 2 ^ 62) ≡ c → cond b false c ≡ false → ⊥
    by_tests true c small index is = grind (arith, nat_tests)
    by_tests false true small index is = cc
    by_tests false false small index is = grind (arith, nat_tests)

pub ordered_words : (from to : ℕ) (words : List ℕ) → AreInOrder from words to → All (IsWord to) words
ordered_words from to [] is = All-nil (IsWord to)
ordered_words from to (word ∷ words) is = All-cons (IsWord to) word words (first (is_index word) refl is.2) (ordered_words (cond (is_index word) (suc from) from) to words is.2)
  where
    first : (b : Bool) → is_index word ≡ b → AreInOrder (cond b (suc from) from) words to → IsWord to word
    first false test rest = record {
      within = λ low high. let bad : ⊥ = not_index word low high test in absurd bad;
      utf8 = is.1;
    }
    first true test rest = record {
      within = λ low high. let at = is.0 test in let least = ordered_least (suc from) to words rest in omega (arith, at, least);
      utf8 = is.1;
    }

pub ordered_utf8 : (from to : ℕ) (words : List ℕ) → AreInOrder from words to → All HasText words
ordered_utf8 from to words is = λ k d lt. (ordered_words from to words is k d lt).utf8

-- if words are UTF-8, so are the first one and the others
pub utf8_taken : (all rest : List ℕ) (first : Option ℕ) → all ≡ option_to_list first ++ rest → All HasText all → IfSome first HasText × All HasText rest
utf8_taken all rest None is utf8 = (tt, subst (All HasText) is utf8)
utf8_taken all rest (Some word) is utf8 = let both = subst (All HasText) is utf8 in (All-head HasText word rest both, All-tail HasText word rest both)

pub ordered_own : (from to word : ℕ) (words : List ℕ) → is_index word ≡ false → HasText word → AreInOrder from words to → AreInOrder from (words ++ word ∷ []) to
ordered_own from to word [] own utf8 is = (λ index. let bad : ⊥ = cc in absurd bad, utf8, ap (λ b. cond b (suc from) from) own ∙ is)
ordered_own from to word (w ∷ words) own utf8 is = (is.0, is.1, ordered_own (cond (is_index w) (suc from) from) to word words own utf8 is.2)

-- the last place has an index
last_index : (to word : ℕ) → to < 2 ^ 62 → word ≡ 2 ^ 63 + to → is_index word ≡ true
last_index to word few at =
    let large : nat_lt word (2 ^ 63) ≡ false = grind (arith, nat_tests) in
    let index : nat_lt word (3 * 2 ^ 62) ≡ true = grind (arith, nat_tests) in
    λ i. cond (large i) false (index i)

pub ordered_index : (from to word : ℕ) (words : List ℕ) → to < 2 ^ 62 → word ≡ 2 ^ 63 + to → AreInOrder from words to → AreInOrder from (words ++ word ∷ []) (to + 1)
ordered_index from to word [] few at is =
    (λ index. omega (arith, at, is), λ text. absurd (omega (arith, at, few, text)), ap (λ b. cond b (suc from) from) (last_index to word few at) ∙ (let one = is in omega (arith, one)))
ordered_index from to word (w ∷ words) few at is = (is.0, is.1, ordered_index (cond (is_index w) (suc from) from) to word words few at is.2)

-- a word that takes no place
pub own_key : (overflow : List Value) (words : List ℕ) (word : ℕ) → is_index word ≡ false
    → map (word_value overflow) (words ++ word ∷ []) ≡ map (word_value overflow) words ++ word_value [] word ∷ []
own_key overflow words word own = map-append (word_value overflow) words (word ∷ []) ∙ (λ i. map (word_value overflow) words ++ own_anywhere overflow word own i ∷ [])

-- ---- keys

pub length_keys : (width n : ℕ) (cells : List Value) → length (keys_in width n cells) ≡ n
length_keys width zero cells = refl
length_keys width (suc n) cells = ap (λ m. suc m) (length_keys width n (drop width cells))

-- no key has any width
pub no_width : (v w n : ℕ) (cells : List Value) → n ≡ 0 → keys_in v n cells ≡ keys_in w n cells
no_width v w zero cells none = refl
no_width v w (suc n) cells none = absurd (omega (arith, none))

pub no_cells : (v w n : ℕ) → n ≡ 0 → n * v ≡ n * w
no_cells v w n none = let some : n * v ≡ 0 * v = ap (λ k. k * v) none in let others : n * w ≡ 0 * w = ap (λ k. k * w) none in omega (arith, some, others)

-- one key more
push_next : (width n : ℕ) (cells key : List Value) → length cells ≡ n * width → length key ≡ width → keys_in width (suc n) (cells ++ key) ≡ keys_in width n cells ++ key ∷ []
push_next width zero [] key whole long = λ i. take_all width key (omega (arith, long)) i ∷ []
push_next width zero (c ∷ cells) key whole long = absurd (omega (arith, whole))
push_next width (suc n) cells key whole long =
    let more : suc n * width ≡ width + n * width = omega arith in
    let room : width ≤ length cells = omega (arith, whole, more) in
    let left = length-drop width cells in
    let rest : length (drop width cells) ≡ n * width = omega (arith, whole, more, left) in
    λ i. take-append-le width cells key room i ∷ (ap (keys_in width (suc n)) (drop-append-le width cells key room) ∙ push_next width n (drop width cells) key rest long) i

pub keys_push : (width n m : ℕ) (cells key : List Value) → m ≡ n + 1 → length cells ≡ n * width → length key ≡ width → keys_in width m (cells ++ key) ≡ keys_in width n cells ++ key ∷ []
keys_push width n m cells key is whole long = ap (λ k. keys_in width k (cells ++ key)) (let next : m ≡ suc n = omega (arith, is) in next) ∙ push_next width n cells key whole long

-- the key at a number, and after the last one
pub key_at : (width n i : ℕ) (cells : List Value) → i < n → slice_get (keys_in width n cells) i ≡ Some (take width (drop (i * width) cells))
key_at width zero i cells less = absurd (omega (arith, less))
key_at width (suc n) zero cells less = ap (λ k. Some (take width (drop k cells))) (let none : 0 ≡ 0 * width = omega arith in none)
key_at width (suc n) (suc i) cells less =
    key_at width n i (drop width cells) (omega (arith, less))
    ∙ (let more : width + i * width ≡ suc i * width = omega arith in ap (λ l. Some (take width l)) (drop-drop (i * width) width cells ∙ ap (λ m. drop m cells) more))

-- the words of the key at a number
pub key_words : (width len position start : ℕ) (overflow : List Value) (words : List ℕ) → position < len → start ≡ position * width
    → slice_get (keys_in width len (map (word_value overflow) words)) position ≡ Some (map (word_value overflow) (take width (drop start words)))
key_words width len position start overflow words less at =
    key_at width len position (map (word_value overflow) words) less
    ∙ ap (λ l. Some (take width l)) (ap (λ k. drop k (map (word_value overflow) words)) (sym at) ∙ drop-map (word_value overflow) start words)
    ∙ ap (λ l. Some l) (take-map (word_value overflow) width (drop start words))

-- it has the width of all
pub key_long : (width len position : ℕ) (words : List ℕ) → length words ≡ len * width → position < len → length (take width (drop (position * width) words)) ≡ width
key_long width len position words whole less =
    let behind = len - (position + 1) in
    let is : len ≡ position + 1 + behind = omega (arith, less) in
    let wide = ap (λ n. n * width) is in
    let parts : (position + 1 + behind) * width ≡ position * width + width + behind * width = omega arith in
    let rest = length-drop (position * width) words in
    length-take-le width (drop (position * width) words) (omega (arith, whole, wide, parts, rest))

pub no_key : (width len position : ℕ) (cells : List Value) → len ≤ position → slice_get (keys_in width len cells) position ≡ None
no_key width len position cells past = slice_get_past (keys_in width len cells) position (let long = length_keys width len cells in omega (arith, past, long))

-- a key of one value
pub same_alone : (overflow key : List Value) (words : List ℕ) (d : ℕ) → length key ≡ 1 → length words ≡ 1
    → equal_value (cell key 0) (word_value overflow (slice_index_or words 0 d)) ≡ same_key key (map (word_value overflow) words)
same_alone overflow [] words d one one' = absurd (omega (arith, one))
same_alone overflow (k ∷ key) [] d one one' = absurd (omega (arith, one'))
same_alone overflow (k ∷ k' ∷ key) (w ∷ words) d one one' = absurd (omega (arith, one))
same_alone overflow (k ∷ []) (w ∷ w' ∷ words) d one one' = absurd (omega (arith, one'))
same_alone overflow (k ∷ []) (w ∷ []) d one one' = and_true (equal_value k (word_value overflow w))
  where
    and_true : (b : Bool) → b ≡ (b && true)
    and_true true = refl
    and_true false = refl

-- keys of two lengths
pub other_length : (key other : List Value) → (length key ≡ length other → ⊥) → same_key key other ≡ false
other_length [] [] apart = absurd (apart refl)
other_length [] (o ∷ other) apart = refl
other_length (k ∷ key) [] apart = refl
other_length (k ∷ key) (o ∷ other) apart = told (equal_value k o) (other_length key other (λ same. apart (ap (λ n. suc n) same)))
  where
    told : (b : Bool) → same_key key other ≡ false → (b && same_key key other) ≡ false
    told true rest = rest
    told false rest = refl

-- the first key, and the others
pub first_key : (width n : ℕ) (cells : List Value) → 0 < n → slice_index_or (keys_in width n cells) 0 [] ≡ take width cells
first_key width zero cells some = absurd (omega (arith, some))
first_key width (suc n) cells some = refl

pub keys_left : (width n m : ℕ) (cells : List Value) → n ≡ m + 1 → drop 1 (keys_in width n cells) ≡ keys_in width m (drop width cells)
keys_left width zero m cells is = absurd (omega (arith, is))
keys_left width (suc n) m cells is = ap (λ k. keys_in width k (drop width cells)) (omega (arith, is))

-- room for the first key
pub first_room : (width n m : ℕ) (cells : List Value) → n ≡ m + 1 → n * width ≤ length cells → m * width + width ≤ length cells
first_room width n m cells is all = let more : (m + 1) * width ≡ m * width + width = omega arith in let wide = ap (λ k. k * width) is in omega (arith, all, more, wide)

-- a key one value after another
pub same_step : (overflow key : List Value) (words : List ℕ) (i d : ℕ) → i < length key → i < length words
    → same_key (drop i key) (map (word_value overflow) (drop i words)) ≡ (equal_value (cell key i) (word_value overflow (slice_index_or words i d)) && same_key (drop (suc i) key) (map (word_value overflow) (drop (suc i) words)))
same_step overflow key words i d less less' = λ z. same_key (drop-cons key i Null less z) (map (word_value overflow) (drop-cons words i d less' z))

-- one value after another
value_taken : {X : Type 0} (xs : List X) (i : ℕ) (x : X) (rest : List X) → drop i xs ≡ x ∷ rest → (take (suc i) xs ≡ take i xs ++ x ∷ []) × (drop (suc i) xs ≡ rest)
value_taken [] zero x rest is = let bad : ⊥ = cc in absurd bad
value_taken [] (suc i) x rest is = let bad : ⊥ = cc in absurd bad
value_taken (y ∷ xs) zero x rest is = let one : y ≡ x = cc in let others : xs ≡ rest = cc in (λ z. one z ∷ [], others)
value_taken (y ∷ xs) (suc i) x rest is = let later = value_taken xs i x rest is in (ap (λ l. y ∷ l) later.0, later.1)

pub value_next : {X : Type 0} (xs : List X) (i : ℕ) (x : X) (rest : List X) → drop i xs ≡ x ∷ rest → (take (i + 1) xs ≡ take i xs ++ x ∷ []) × (drop (i + 1) xs ≡ rest)
value_next xs i x rest is =
    let next : i + 1 ≡ suc i = omega arith in
    let it = value_taken xs i x rest is in
    (ap (λ n. take n xs) next ∙ it.0, ap (λ n. drop n xs) next ∙ it.1)

take_suc : {X : Type 0} (xs : List X) (i : ℕ) → take (suc i) xs ≡ take i xs ++ take 1 (drop i xs)
take_suc [] zero = refl
take_suc [] (suc i) = refl
take_suc (x ∷ xs) zero = refl
take_suc (x ∷ xs) (suc i) = ap (λ l. x ∷ l) (take_suc xs i)

pub take_next : {X : Type 0} (xs : List X) (i : ℕ) → take (i + 1) xs ≡ take i xs ++ take 1 (drop i xs)
take_next xs i = ap (λ n. take n xs) (let next : i + 1 ≡ suc i = omega arith in next) ∙ take_suc xs i

-- the keys that are left, by those that were
pub some_keys : (width n : ℕ) (cells : List Value) (all : List (List Value)) → keys_in width n cells ≡ all → 0 < length all → 0 < n
some_keys width n cells all is some = let long = length_keys width n cells in let same = ap length is in omega (arith, some, long, same)

pub on_ok : {T E : Type 0} {P Q : Type 0} (r : Result T E) → (P → Q) → OnOk r P → OnOk r Q
on_ok (Ok x) f p = f p
on_ok (Err e) f p = p

-- one key is gone
pub fewer_keys : (width n width' m : ℕ) (cells now : List Value) (all : List (List Value)) → keys_in width n cells ≡ all → n ≡ m + 1 → length (keys_in width' m now) + 1 ≡ length all
fewer_keys width n width' m cells now all is less =
    let before = length_keys width n cells in let after = length_keys width' m now in let same = ap length is in omega (arith, before, after, same, less)
