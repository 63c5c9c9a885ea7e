-- Where words are cut, and paths.
use Rattle.std.proofs.Common.{◌≡◌, ◌≢◌, ◌∙◌, ◌+◌, ◌-◌, ◌<◌, ◌≤◌, ◌%◌, ℕ, Bool, true, false, cond, List, length, take, drop, get_or, eqb, count_by, ◌++◌, refl, sym, ap, subst, arith}
use Rattle.std.specs.Prelude.{◌&&◌, not, nat_lt}
use Rattle.std.specs.List.{before_last, list_any, range_with_len, suffix_len}
use Rattle.std.specs.Str.{IsCharBoundary, IsUtf8}
use Rattle.std.proofs.lemmas.Str.{IsCharBoundary-after_ascii}
use Rattle.std.proofs.lemmas.Bool.Decides.{nat_tests}
use Rattle.std.proofs.lemmas.List.{append_assoc, length-take-le}
use Rattle.std.proofs.lemmas.List.FromFn.{get_or-range_with_len, length-range_with_len}
use Rattle.std.proofs.lemmas.List.Sums.{count_by_more_no, count_by_more_yes, position_or_len_is, suffix_len_is}
use Rattle.gq_infer.specs.Words.{base_name, cut_of, has_columns, is_cut, without_extension}

abbrev is_quote : ℕ → Bool
is_quote b = eqb b 34

odd_more : (n : ℕ) (b : Bool) → n % 2 ≡ cond b 1 0 → (n + 1) % 2 ≡ cond (not b) 1 0
odd_more n true e = omega (arith, e)
odd_more n false e = omega (arith, e)

-- one byte more

pub parity_more : (word : List ℕ) (i : ℕ) (is_quoted : Bool) → i < length word → count_by (λ b. eqb b 34) (take i word) % 2 ≡ cond is_quoted 1 0
    → count_by (λ b. eqb b 34) (take (i + 1) word) % 2 ≡ cond (cond (eqb (get_or word i 0) 34) (not is_quoted) is_quoted) 1 0
parity_more word i is_quoted h e = by (eqb (get_or word i 0) 34) refl
  where
    by : (q : Bool) → eqb (get_or word i 0) 34 ≡ q → count_by is_quote (take (i + 1) word) % 2 ≡ cond (cond q (not is_quoted) is_quoted) 1 0
    by true t = ap (λ n. n % 2) (count_by_more_yes is_quote word i 0 h t) ∙ odd_more (count_by is_quote (take i word)) is_quoted e
    by false t = ap (λ n. n % 2) (count_by_more_no is_quote word i 0 h t) ∙ e

-- a byte cuts exactly outside quotes
pub cut_by_parity : (word : List ℕ) (i : ℕ) (is_quoted : Bool) → count_by (λ b. eqb b 34) (take i word) % 2 ≡ cond is_quoted 1 0 → is_cut word i ≡ (eqb (get_or word i 0) 61 && not is_quoted)
cut_by_parity word i true e = rw e refl
cut_by_parity word i false e = rw e refl

pub first_cut : (word : List ℕ) (i : ℕ) → i ≤ length word → ((k : ℕ) → k < i → is_cut word k ≡ false) → (i < length word → is_cut word i ≡ true) → i ≡ cut_of word
unfolding cut_of
first_cut word i h before at =
    let size : length (range_with_len 0 (length word)) ≡ length word = length-range_with_len 0 (length word) in
    sym (position_or_len_is (is_cut word) (range_with_len 0 (length word)) i 0 (omega (arith, h, size))
    (λ k l. ap (is_cut word) (there k (omega (arith, l, h))) ∙ before k l)
    (λ l. let m : i < length word = omega (arith, l, size) in ap (is_cut word) (there i m) ∙ at m))
  where
    there : (k : ℕ) → k < length word → get_or (range_with_len 0 (length word)) k 0 ≡ k
    there k l = let e = get_or-range_with_len 0 (length word) k 0 l in omega (arith, e)

-- the place after the last of these bytes

pub last_place : (bytes : List ℕ) (sought end : ℕ) → end ≤ length bytes → ((k : ℕ) → end ≤ k → k < length bytes → get_or bytes k 0 ≢ sought) → (0 < end → get_or bytes (end - 1) 0 ≡ sought)
    → end + suffix_len (λ b. not (eqb b sought)) bytes ≡ length bytes
last_place bytes sought end h others last =
    let e = suffix_len_is (λ b. not (eqb b sought)) bytes end 0 h (λ k l m. other k l m) (λ l. same l) in
    omega (arith, e, h)
  where
    other : (k : ℕ) → end ≤ k → k < length bytes → not (eqb (get_or bytes k 0) sought) ≡ true
    other k l m = let n = others k l m in grind (arith, nat_tests)

    same : 0 < end → not (eqb (get_or bytes (end - 1) 0) sought) ≡ false
    same l = let n = last l in grind (arith, nat_tests)

pub base_is : (path : List ℕ) (start : ℕ) → start + suffix_len (λ b. not (eqb b 47)) path ≡ length path → drop start path ≡ base_name path
base_is path start e = ap (λ n. drop n path) (let n : start ≡ length path - suffix_len (λ b. not (eqb b 47)) path = omega (arith, e) in n)

-- what comes before the last dot
before_dot : (name : List ℕ) (end : ℕ) → end + suffix_len (λ b. not (eqb b 46)) name ≡ length name → before_last (λ b. eqb b 46) name ≡ take (end - 1) name
before_dot name end e = ap (λ n. take n name) (let n : length name - suffix_len (λ b. not (eqb b 46)) name - 1 ≡ end - 1 = omega (arith, e) in n)

pub no_extension : (name : List ℕ) (end : ℕ) → end + suffix_len (λ b. not (eqb b 46)) name ≡ length name → end ≤ 1 → name ≡ without_extension name
no_extension name end e h =
    let none : length (before_last (λ b. eqb b 46) name) ≡ 0 = ap length (before_dot name end e) ∙ length-take-le (end - 1) name (omega (arith, e)) ∙ omega (arith, h) in
    let test : eqb (length (before_last (λ b. eqb b 46) name)) 0 ≡ true = grind (arith, nat_tests) in
    rw test refl

pub an_extension : (name : List ℕ) (end : ℕ) → end + suffix_len (λ b. not (eqb b 46)) name ≡ length name → 1 < end → take (end - 1) name ≡ without_extension name
an_extension name end e h =
    let some : length (before_last (λ b. eqb b 46) name) ≡ end - 1 = ap length (before_dot name end e) ∙ length-take-le (end - 1) name (omega (arith, e)) in
    let test : eqb (length (before_last (λ b. eqb b 46) name)) 0 ≡ false = grind (arith, nat_tests) in
    rw test (sym (before_dot name end e))

-- where a text may be cut

pub past_slash : (path bytes : List ℕ) (start : ℕ) → IsUtf8 path → bytes ≡ path → start + suffix_len (λ b. not (eqb b 47)) bytes ≡ length bytes → 0 < start → get_or bytes (start - 1) 0 ≡ 47 → IsCharBoundary path start
past_slash path bytes start text same place h slash =
    let within : start ≤ length bytes = omega (arith, place) in
    let size : length bytes ≡ length path = ap length same in
    let byte : get_or path (start - 1) 0 ≡ 47 = ap (λ b. get_or b (start - 1) 0) (sym same) ∙ slash in
    let cut : IsCharBoundary path (start - 1 + 1) = IsCharBoundary-after_ascii path (start - 1) text (omega (arith, within, size, h)) (omega (arith, byte)) in
    let back : start - 1 + 1 ≡ start = omega (arith, h) in
    subst (IsCharBoundary path) back cut

below : (cut end : ℕ) → cut ≤ end → cut ≢ end → cut < end
below cut end h other = grind arith

pub past_sign : (word bytes : List ℕ) (cut : ℕ) → IsUtf8 word → bytes ≡ word → cut ≤ length bytes → cut ≢ length word → (cut < length bytes → get_or bytes cut 0 ≡ 61) → IsCharBoundary word (cut + 1)
past_sign word bytes cut text same within other sign =
    let size : length bytes ≡ length word = ap length same in
    let under : cut < length word = below cut (length word) (omega (arith, within, size)) other in
    let byte : get_or word cut 0 ≡ 61 = ap (λ b. get_or b cut 0) (sym same) ∙ sign (omega (arith, under, size)) in
    IsCharBoundary-after_ascii word cut text under (omega (arith, byte))

pub columns_by_hand : (word bytes : List ℕ) (cut : ℕ) → bytes ≡ word → cut ≡ cut_of word → cut ≤ length bytes → cut ≢ length word → list_any (λ b. eqb b 40) (take cut word) ≡ true → has_columns word ≡ true
columns_by_hand word bytes cut same place within other found =
    let size : length bytes ≡ length word = ap length same in
    let less : cut < length word = below cut (length word) (omega (arith, within, size)) other in
    let under : nat_lt cut (length word) ≡ true = grind (arith, nat_tests) in
    rw (← place, under) found

-- a text of five parts
pub five_parts : (a word b reason d s0 s1 s2 told s3 s4 : List ℕ) → s0 ≡ a → s1 ≡ s0 ++ word → s2 ≡ s1 ++ b → told ≡ reason → s3 ≡ s2 ++ told → s4 ≡ s3 ++ d → s4 ≡ a ++ (word ++ (b ++ (reason ++ d)))
five_parts a word b reason d s0 s1 s2 told s3 s4 e0 e1 e2 e e3 e4 = rw (e4, e3, e, e2, e1, e0) (simp append_assoc)
