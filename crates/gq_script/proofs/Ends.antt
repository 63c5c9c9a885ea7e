-- The last byte of a line.
use Rattle.std.proofs.Common.{◌≡◌, ℕ, ◌+◌, ◌-◌, Bool, true, false, cond, eqb, List, [], ◌∷◌, ◌++◌, length, take, get_or, refl, sym, ap, ◌∙◌, arith}
use Rattle.std.proofs.lemmas.List.{length_push, get_or_push}
use Rattle.std.proofs.lemmas.Bool.{eqb-true, lt-ltb}
use Rattle.std.proofs.Math.Seq.{take-append_seam}
use Rattle.std.specs.Prelude.{nat_lt, ◌&&◌, not}
use Rattle.std.specs.List.{list_all}
use Rattle.std.specs.Io.BufRead.{ends_with_byte, strip_last}
use Rattle.gq_script.specs.Script.{raw_lines, content}

pub ends_pushed : (q : ℕ) (xs : List ℕ) (b : ℕ) → ends_with_byte q (xs ++ b ∷ []) ≡ eqb b q
ends_pushed q [] b = refl
ends_pushed q (x ∷ xs) b =
    let k : length (xs ++ b ∷ []) ≡ length xs + 1 = length_push xs b in
    let i : length ((x ∷ xs) ++ b ∷ []) - 1 ≡ length (x ∷ xs) = omega arith in
    let p : nat_lt 0 (length ((x ∷ xs) ++ b ∷ [])) ≡ true = lt-ltb 0 (length ((x ∷ xs) ++ b ∷ [])) (omega arith) in
    ap (λ (t : Bool). t && eqb (get_or ((x ∷ xs) ++ b ∷ []) (length ((x ∷ xs) ++ b ∷ []) - 1) 0) q) p
    ∙ ap (λ (n : ℕ). eqb (get_or ((x ∷ xs) ++ b ∷ []) n 0) q) i ∙ ap (λ (v : ℕ). eqb v q) (get_or_push (x ∷ xs) b 0 (length (x ∷ xs)) refl)

pub strip_pushed : (q : ℕ) (xs : List ℕ) (b : ℕ) → strip_last q (xs ++ b ∷ []) ≡ cond (eqb b q) xs (xs ++ b ∷ [])
strip_pushed q xs b =
    let k : length (xs ++ b ∷ []) - 1 ≡ length xs = omega (arith, length_push xs b) in
    let t : take (length (xs ++ b ∷ []) - 1) (xs ++ b ∷ []) ≡ xs = ap (λ (n : ℕ). take n (xs ++ b ∷ [])) k ∙ take-append_seam xs (b ∷ []) in
    ap (λ (c : Bool). cond c (take (length (xs ++ b ∷ []) - 1) (xs ++ b ∷ [])) (xs ++ b ∷ [])) (ends_pushed q xs b) ∙ ap (λ (l : List ℕ). cond (eqb b q) l (xs ++ b ∷ [])) t

-- a list is empty or has a last item
snoc : (P : List ℕ → Type 0) → P [] → ((xs : List ℕ) (b : ℕ) → P (xs ++ b ∷ [])) → (xs : List ℕ) → P xs
snoc P none some [] = none
snoc P none some (x ∷ xs) = snoc (λ (l : List ℕ). P (x ∷ l)) (some [] x) (λ l b. some (x ∷ l) b) xs

-- what precedes a last CR, and that
pub strip_and_last : (q : ℕ) (xs : List ℕ) → ends_with_byte q xs ≡ true → strip_last q xs ++ q ∷ [] ≡ xs
strip_and_last q xs = snoc (λ (l : List ℕ). ends_with_byte q l ≡ true → strip_last q l ++ q ∷ [] ≡ l) (λ e. absurd cc)
    (λ l b e.
    let t : eqb b q ≡ true = sym (ends_pushed q l b) ∙ e in
    let s : strip_last q (l ++ b ∷ []) ≡ l = strip_pushed q l b ∙ ap (λ (c : Bool). cond c l (l ++ b ∷ [])) t in
    ap (λ (m : List ℕ). m ++ q ∷ []) s ∙ ap (λ (v : ℕ). l ++ v ∷ []) (sym (eqb-true b q t))) xs

pub strip_none : (q : ℕ) (xs : List ℕ) → ends_with_byte q xs ≡ false → strip_last q xs ≡ xs
strip_none q xs e = ap (λ (c : Bool). cond c (take (length xs - 1) xs) xs) e

abbrev pub is_plain : ℕ → Bool
is_plain b = not (eqb b 10)

plain_last : (l : List ℕ) (b : ℕ) → list_all is_plain (l ++ b ∷ []) ≡ true → eqb b 10 ≡ false
plain_last [] b h = by_test (eqb b 10) refl
  where
    by_test : (t : Bool) → eqb b 10 ≡ t → eqb b 10 ≡ false
    by_test true e = let f = rw e at h in absurd cc
    by_test false e = e
plain_last (x ∷ l) b h = by_test (is_plain x) refl (plain_last l b)
  where
    by_test : (t : Bool) → is_plain x ≡ t → (list_all is_plain (l ++ b ∷ []) ≡ true → eqb b 10 ≡ false) → eqb b 10 ≡ false
    by_test true e next = next (rw e at h)
    by_test false e next = let f = rw e at h in absurd cc

plain_ends : (xs : List ℕ) → list_all is_plain xs ≡ true → ends_with_byte 10 xs ≡ false
plain_ends xs = snoc (λ (l : List ℕ). list_all is_plain l ≡ true → ends_with_byte 10 l ≡ false) (λ h. refl) (λ l b h. ends_pushed 10 l b ∙ plain_last l b h) xs

-- the content of a line with its end, and of one without
pub content_ended : (raw : List ℕ) → content (raw ++ 10 ∷ []) ≡ strip_last 13 raw
content_ended raw = ap (λ (c : Bool). cond c (strip_last 13 (strip_last 10 (raw ++ 10 ∷ []))) (raw ++ 10 ∷ [])) (ends_pushed 10 raw 10) ∙ ap (strip_last 13) (strip_pushed 10 raw 10)

pub content_unended : (raw : List ℕ) → list_all is_plain raw ≡ true → content raw ≡ raw
content_unended raw plain = ap (λ (c : Bool). cond c (strip_last 13 (strip_last 10 raw)) raw) (plain_ends raw plain)

-- what the lines of the bytes are
pub raw_ended : (front ys : List ℕ) → list_all is_plain front ≡ true → raw_lines (front ++ (10 ∷ ys)) ≡ (front ++ 10 ∷ []) ∷ raw_lines ys
raw_ended [] ys h = refl
raw_ended (b ∷ front) ys h = by_test (eqb b 10) refl (raw_ended front ys)
  where
    by_test : (t : Bool) → eqb b 10 ≡ t → (list_all is_plain front ≡ true → raw_lines (front ++ (10 ∷ ys)) ≡ (front ++ 10 ∷ []) ∷ raw_lines ys) → raw_lines (b ∷ (front ++ (10 ∷ ys))) ≡ (b ∷ (front ++ 10 ∷ [])) ∷ raw_lines ys
    by_test true e next = let f = rw e at h in absurd cc
    by_test false e next = rw (e, next (rw e at h)) refl

pub raw_unended : (b : ℕ) (front : List ℕ) → list_all is_plain (b ∷ front) ≡ true → raw_lines (b ∷ front) ≡ (b ∷ front) ∷ []
raw_unended b [] h = by_test (eqb b 10) refl
  where
    by_test : (t : Bool) → eqb b 10 ≡ t → raw_lines (b ∷ []) ≡ (b ∷ []) ∷ []
    by_test true e = let f = rw e at h in absurd cc
    by_test false e = rw e refl
raw_unended b (c ∷ l) h = by_test (eqb b 10) refl (raw_unended c l)
  where
    by_test : (t : Bool) → eqb b 10 ≡ t → (list_all is_plain (c ∷ l) ≡ true → raw_lines (c ∷ l) ≡ (c ∷ l) ∷ []) → raw_lines (b ∷ c ∷ l) ≡ (b ∷ c ∷ l) ∷ []
    by_test true e next = let f = rw e at h in absurd cc
    by_test false e next = rw (e, next (rw e at h)) refl

pub plain_push : (front : List ℕ) (x : ℕ) → list_all is_plain front ≡ true → eqb x 10 ≡ false → list_all is_plain (front ++ (x ∷ [])) ≡ true
plain_push [] x h e = rw e refl
plain_push (b ∷ front) x h e = by_test (is_plain b) refl (plain_push front x)
  where
    by_test : (t : Bool) → is_plain b ≡ t → (list_all is_plain front ≡ true → eqb x 10 ≡ false → list_all is_plain (front ++ (x ∷ [])) ≡ true) → list_all is_plain (b ∷ (front ++ (x ∷ []))) ≡ true
    by_test true f others = rw f (others (rw f at h) e)
    by_test false f others = let g = rw f at h in absurd cc
