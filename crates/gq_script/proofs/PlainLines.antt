-- Whole lines without a backslash.
use Rattle.std.proofs.Common.{◌≡◌, ℕ, ◌+◌, ◌<◌, ◌≤◌, Bool, true, false, cond, eqb, [], ◌∷◌, ◌++◌, length, take, get_or, count_by, Option, Some, None, refl, sym, ap, subst, ◌∙◌, suc, arith, append_assoc, add-one}
use Rattle.std.proofs.lemmas.Bool.{eqb-true}
use Rattle.std.proofs.lemmas.List.{get_or-take, length-take-le}
use Rattle.std.proofs.lemmas.List.Folds.{list_all-append}
use Rattle.std.proofs.lemmas.List.Sums.{count_by-le-length, sum_by-append}
use Rattle.std.proofs.Math.Seq.{take-suc}
use Rattle.std.specs.Prelude.{◌&&◌, not}
use Rattle.std.specs.List.{list_all}
use Rattle.std.specs.Option.{is_some}
use Rattle.memchr.specs.Find.{IsFirstByte, is_byte}
use Rattle.gq_token.specs.Texts.{Bytes}
use Rattle.gq_script.specs.Payloads.{is_plain, GoesOn, HasLines}
use Rattle.gq_script.proofs.Collected.{one_line, one_count, both_on, both_count}
use Rattle.gq_script.proofs.Marks.{both_are}

abbrev is_lf : ℕ → Bool
is_lf byte = eqb byte 10

abbrev no_backslash : ℕ → Bool
no_backslash b = not (eqb b 92)

-- the bytes are `n` whole lines, of which none ends a payload
abbrev AreLines : ℕ → Bytes → Type 0
AreLines n front = GoesOn front × HasLines n front

is_not : (t : Bool) → not t ≡ true → t ≡ false
is_not true h = absurd cc
is_not false h = refl

begins : (line : Bytes) → list_all no_backslash line ≡ true → eqb (get_or (line ++ 10 ∷ []) 0 0) 92 ≡ false
begins [] h = refl
begins (b ∷ line) h = is_not (eqb b 92) (both_are (no_backslash b) (list_all no_backslash line) h).0

one : (line : Bytes) → list_all is_plain line ≡ true → list_all no_backslash line ≡ true → AreLines 1 (line ++ 10 ∷ [])
one line p q = (one_line (line ++ 10 ∷ []) line refl p (begins line q), one_count (line ++ 10 ∷ []) line refl p)

at_lf : (line bs : Bytes) (b : ℕ) → eqb b 10 ≡ true → AreLines 1 (line ++ 10 ∷ []) → AreLines (count_by is_lf bs + 1) (bs ++ 10 ∷ []) → AreLines (count_by is_lf (b ∷ bs) + 1) (line ++ (b ∷ (bs ++ 10 ∷ [])))
at_lf line bs b e first others =
    let whole : (line ++ 10 ∷ []) ++ (bs ++ 10 ∷ []) ≡ line ++ (b ∷ (bs ++ 10 ∷ [])) =
    append_assoc line (10 ∷ []) (bs ++ 10 ∷ []) ∙ ap (λ (v : ℕ). line ++ (v ∷ (bs ++ 10 ∷ []))) (sym (eqb-true b 10 e)) in
    let here : count_by is_lf (b ∷ []) ≡ 1 = ap (λ (t : Bool). 0 + cond t 1 0) e in
    let one_more : count_by is_lf (b ∷ bs) ≡ count_by is_lf (b ∷ []) + count_by is_lf bs = sum_by-append (λ byte. cond (is_lf byte) 1 0) (b ∷ []) bs in
    let count : 1 + (count_by is_lf bs + 1) ≡ count_by is_lf (b ∷ bs) + 1 = omega (arith, here, one_more) in
    subst (λ (m : ℕ). AreLines m (line ++ (b ∷ (bs ++ 10 ∷ [])))) count
    (subst (AreLines (1 + (count_by is_lf bs + 1))) whole
    (both_on (line ++ 10 ∷ []) (bs ++ 10 ∷ []) first.0 others.0, both_count 1 (count_by is_lf bs + 1) (line ++ 10 ∷ []) (bs ++ 10 ∷ []) first.1 others.1))

in_line : (line bs : Bytes) (b : ℕ) → eqb b 10 ≡ false → AreLines (count_by is_lf bs + 1) ((line ++ b ∷ []) ++ (bs ++ 10 ∷ [])) → AreLines (count_by is_lf (b ∷ bs) + 1) (line ++ (b ∷ (bs ++ 10 ∷ [])))
in_line line bs b e others =
    let here : count_by is_lf (b ∷ []) ≡ 0 = ap (λ (t : Bool). 0 + cond t 1 0) e in
    let both : count_by is_lf (b ∷ bs) ≡ count_by is_lf (b ∷ []) + count_by is_lf bs = sum_by-append (λ byte. cond (is_lf byte) 1 0) (b ∷ []) bs in
    let same : count_by is_lf (b ∷ bs) ≡ count_by is_lf bs = omega (arith, here, both) in
    subst (λ (m : ℕ). AreLines (m + 1) (line ++ (b ∷ (bs ++ 10 ∷ [])))) (sym same) (subst (AreLines (count_by is_lf bs + 1)) (append_assoc line (b ∷ []) (bs ++ 10 ∷ [])) others)

longer : (p : ℕ → Bool) (line : Bytes) (b : ℕ) → list_all p line ≡ true → p b ≡ true → list_all p (line ++ b ∷ []) ≡ true
longer p line b all here = list_all-append p line (b ∷ []) ∙ ap (λ (t : Bool). t && (p b && true)) all ∙ ap (λ (t : Bool). t && true) here

either : (P : Type 0) (t : Bool) → (t ≡ true → P) → (t ≡ false → P) → P
either P true f g = f refl
either P false f g = g refl

-- the line so far, and what follows it up to the last LF
lines_on : (line bs : Bytes) → list_all is_plain line ≡ true → list_all no_backslash line ≡ true → list_all no_backslash bs ≡ true → AreLines (count_by is_lf bs + 1) (line ++ (bs ++ 10 ∷ []))
lines_on line [] p q h = one line p q
lines_on line (b ∷ bs) p q h =
    let parts = both_are (no_backslash b) (list_all no_backslash bs) h in
    either (AreLines (count_by is_lf (b ∷ bs) + 1) (line ++ (b ∷ (bs ++ 10 ∷ [])))) (eqb b 10)
    (λ e. at_lf line bs b e (one line p q) (lines_on [] bs refl refl parts.1))
    (λ e. in_line line bs b e (lines_on (line ++ b ∷ []) bs (longer is_plain line b p (ap not e)) (longer no_backslash line b q parts.0) parts.1))

abbrev Without : Bytes → ℕ → Type 0
Without bs n = (k : ℕ) → k < n → eqb (get_or bs k 0) 92 ≡ true → ⊥

all_free : (bs : Bytes) → Without bs (length bs) → list_all no_backslash bs ≡ true
all_free [] h = refl
all_free (b ∷ bs) h = by_test (eqb b 92) refl (all_free bs (λ k lt. h (suc k) (omega arith)))
  where
    by_test : (t : Bool) → eqb b 92 ≡ t → list_all no_backslash bs ≡ true → list_all no_backslash (b ∷ bs) ≡ true
    by_test true e others = absurd (h 0 (omega arith) e)
    by_test false e others = ap (λ (t : Bool). not t && list_all no_backslash bs) e ∙ others

front_free : (bs : Bytes) (n : ℕ) → n ≤ length bs → Without bs n → list_all no_backslash (take n bs) ≡ true
front_free bs n le h = all_free (take n bs) (λ k lt e. h k (fewer k lt) (ap (λ (v : ℕ). eqb v 92) (sym (get_or-take n bs k 0 (fewer k lt))) ∙ e))
  where
    fewer : (k : ℕ) → k < length (take n bs) → k < n
    fewer k lt = omega (arith, length-take-le n bs le)

-- the bytes up to an LF, if no backslash is among them
pub plain_lines : (bytes : Bytes) (last : ℕ) → last < length bytes → eqb (get_or bytes last 0) 10 ≡ true → ((k : ℕ) → 0 ≤ k → k < length bytes → eqb (get_or bytes k 0) 92 ≡ true → ⊥) → AreLines (count_by is_lf (take last bytes) + 1) (take (last + 1) bytes)
plain_lines bytes last lt here none =
    let whole : take (last + 1) bytes ≡ take last bytes ++ 10 ∷ [] = rw add-one (take-suc bytes last 0 lt) ∙ ap (λ (v : ℕ). take last bytes ++ v ∷ []) (eqb-true (get_or bytes last 0) 10 here) in
    let free : list_all no_backslash (take last bytes) ≡ true = front_free bytes last (omega arith) (λ k l. none k (omega arith) (omega arith)) in
    subst (AreLines (count_by is_lf (take last bytes) + 1)) (sym whole) (lines_on [] (take last bytes) refl refl free)

-- there are at most as many lines as bytes
pub few_lines : (bytes : Bytes) (last : ℕ) → last < length bytes → count_by is_lf (take last bytes) ≤ last
few_lines bytes last lt = omega (arith, count_by-le-length is_lf (take last bytes), length-take-le last bytes (omega arith))

-- no backslash was found
pub none_found : (bytes : Bytes) (r : Option ℕ) → is_some r ≡ false → IsFirstByte (is_byte 92) bytes r → (k : ℕ) → 0 ≤ k → k < length bytes → eqb (get_or bytes k 0) 92 ≡ true → ⊥
none_found bytes None e h = h
none_found bytes (Some i) e h = absurd cc
