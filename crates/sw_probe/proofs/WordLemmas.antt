-- The words of a byte string, one by one.
use Rattle.std.proofs.Common.{◌≡◌, ℕ, suc, ◌-◌, ◌*◌, ◌/◌, ◌<◌, ◌≤◌, max, true, false, subst, List, [], ◌∷◌, ◌++◌, length, take, drop, map, fold, cond, nat_lt, sym, ap, ◌∙◌, arith}
use Rattle.std.proofs.lemmas.Bool.Decides.{nat_tests}
use Rattle.std.proofs.lemmas.List.{take-map, drop-map}
use Rattle.std.proofs.lemmas.List.Sums.{fold-append}
use Rattle.std.specs.Int.{w64, from_le_bytes}
use Rattle.sw_probe.specs.Hashes.{number_of}
use Rattle.sw_probe.specs.Words.{word_at, front_words, words_of}

-- the first word after a place, each byte by its image
pub word_there : (g : ℕ → ℕ) (bytes rest : List ℕ) (i w : ℕ) → w ≡ from_le_bytes w64 (map g (take 8 rest)) → rest ≡ drop i bytes → w ≡ word_at (map g bytes) i
unfolding word_at
word_there g bytes rest i w is there =
    is ∙ ap (λ s. from_le_bytes w64 (map g (take 8 s))) there ∙ ap (from_le_bytes w64) (sym (take-map g 8 (drop i bytes)) ∙ ap (take 8) (sym (drop-map g i bytes)))

-- one word more
pub one_word_more : (next : ℕ → ℕ → ℕ) (start acc w n m : ℕ) (bytes : List ℕ) → m ≡ suc n → acc ≡ fold next start (front_words n bytes) → w ≡ word_at bytes (8 * n)
    → next acc w ≡ fold next start (front_words m bytes)
one_word_more next start acc w n m bytes more is word =
    (λ i. next (is i) (word i)) ∙ sym (fold-append next start (front_words n bytes) (word_at bytes (8 * n) ∷ [])) ∙ ap (λ k. fold next start (front_words k bytes)) (sym more)

not_short : (n : ℕ) → 8 ≤ n → nat_lt n 8 ≡ false
not_short n long = grind (arith, nat_tests)

is_short : (n : ℕ) → n < 8 → nat_lt n 8 ≡ true
is_short n few = grind (arith, nat_tests)

behind_all : (next : ℕ → ℕ → ℕ) (start acc w n : ℕ) (bytes : List ℕ) → 8 ≤ length bytes → n ≡ max 1 ((length bytes - 1) / 8)
    → acc ≡ fold next (next start (length bytes)) (front_words n bytes) → w ≡ word_at bytes (length bytes - 8) → next acc w ≡ fold next start (words_of bytes)
behind_all next start acc w n bytes long count is word =
    (λ i. next (is i) (word i))
    ∙ ap (λ m. next (fold next (next start (length bytes)) (front_words m bytes)) (word_at bytes (length bytes - 8))) count
    ∙ sym (fold-append next (next start (length bytes)) (front_words (max 1 ((length bytes - 1) / 8)) bytes) (word_at bytes (length bytes - 8) ∷ []))
    ∙ ap (λ b. fold next (next start (length bytes)) (cond b (number_of bytes ∷ []) (front_words (max 1 ((length bytes - 1) / 8)) bytes ++ word_at bytes (length bytes - 8) ∷ []))) (sym (not_short (length bytes) long))

-- the last word, after those from the first byte on
pub last_word : (next : ℕ → ℕ → ℕ) (start acc w n len : ℕ) (bytes : List ℕ) → length bytes ≡ len → 8 ≤ len → n ≡ max 1 ((len - 1) / 8)
    → acc ≡ fold next (next start len) (front_words n bytes) → w ≡ word_at bytes (len - 8) → next acc w ≡ fold next start (words_of bytes)
last_word next start acc w n len bytes same long count is word =
    behind_all next start acc w n bytes (subst (λ l. 8 ≤ l) (sym same) long) (subst (λ l. n ≡ max 1 ((l - 1) / 8)) (sym same) count)
    (subst (λ l. acc ≡ fold next (next start l) (front_words n bytes)) (sym same) is) (subst (λ l. w ≡ word_at bytes (l - 8)) (sym same) word)

-- fewer bytes than eight are one number
pub short_words : (next : ℕ → ℕ → ℕ) (start w len : ℕ) (bytes : List ℕ) → length bytes ≡ len → len < 8 → w ≡ number_of bytes → next (next start len) w ≡ fold next start (words_of bytes)
short_words next start w len bytes same few is =
    (λ i. next (next start (sym same i)) (is i))
    ∙ ap (λ b. fold next (next start (length bytes)) (cond b (number_of bytes ∷ []) (front_words (max 1 ((length bytes - 1) / 8)) bytes ++ word_at bytes (length bytes - 8) ∷ []))) (sym (is_short (length bytes) (subst (λ l. l < 8) (sym same) few)))
