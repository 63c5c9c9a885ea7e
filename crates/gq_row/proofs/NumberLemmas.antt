-- The number that the first of eight bytes spell.
use Rattle.std.proofs.Common.{◌≡◌, ◌+◌, ◌-◌, ◌*◌, ◌/◌, ◌<◌, ◌^◌, ℕ, zero, suc, List, [], ◌∷◌, ◌++◌, ◌≤◌, length, take, replicate, get_or, refl, arith, sym, ap, ◌∙◌}
use Rattle.std.specs.Int.{w64, to_be_bytes, from_be_bytes}
use Rattle.std.proofs.lemmas.List.{length-take-le, take-append-drop, take-replicate}
use Rattle.std.proofs.Math.Seq.{take-append-add}
use Rattle.std.proofs.lemmas.Nat.{be_bytes_8}
use Rattle.gq_row.specs.ShortTexts.{IsShort}
use Rattle.sw_probe.specs.Hashes.{number_of, read_step}

-- eight bytes as a number, big-endian
abbrev pub eight_of : List ℕ → ℕ
eight_of bytes = get_or bytes 0 0 * 72057594037927936 + get_or bytes 1 0 * 281474976710656 + get_or bytes 2 0 * 1099511627776 + get_or bytes 3 0 * 4294967296 + get_or bytes 4 0 * 16777216 + get_or bytes 5 0 * 65536 + get_or bytes 6 0 * 256 + get_or bytes 7 0

-- one byte more, if that doesn't overflow
step_is : (n byte : ℕ) → n < 2 ^ 48 → byte < 256 → read_step n byte ≡ n * 256 + byte
step_is n byte few small = omega arith

module _ (a b c d e f g h : ℕ) (rest : List ℕ) (sa : a < 256) (sb : b < 256) (sc : c < 256) (sd : d < 256) (se : e < 256) (sf : f < 256) (sg : g < 256) (sh : h < 256) where
  all : ℕ
  all = eight_of (a ∷ b ∷ c ∷ d ∷ e ∷ f ∷ g ∷ h ∷ rest)

  n1 : number_of (a ∷ []) ≡ a
  n1 = omega arith

  n2 : number_of (a ∷ b ∷ []) ≡ a * 256 + b
  n2 = ap (λ n. read_step n b) n1 ∙ step_is a b (omega (arith, sa)) sb

  n3 : number_of (a ∷ b ∷ c ∷ []) ≡ (a * 256 + b) * 256 + c
  n3 = ap (λ n. read_step n c) n2 ∙ step_is (a * 256 + b) c (omega (arith, sa, sb)) sc

  n4 : number_of (a ∷ b ∷ c ∷ d ∷ []) ≡ ((a * 256 + b) * 256 + c) * 256 + d
  n4 = ap (λ n. read_step n d) n3 ∙ step_is ((a * 256 + b) * 256 + c) d (omega (arith, sa, sb, sc)) sd

  n5 : number_of (a ∷ b ∷ c ∷ d ∷ e ∷ []) ≡ (((a * 256 + b) * 256 + c) * 256 + d) * 256 + e
  n5 = ap (λ n. read_step n e) n4 ∙ step_is (((a * 256 + b) * 256 + c) * 256 + d) e (omega (arith, sa, sb, sc, sd)) se

  n6 : number_of (a ∷ b ∷ c ∷ d ∷ e ∷ f ∷ []) ≡ ((((a * 256 + b) * 256 + c) * 256 + d) * 256 + e) * 256 + f
  n6 = ap (λ n. read_step n f) n5 ∙ step_is ((((a * 256 + b) * 256 + c) * 256 + d) * 256 + e) f (omega (arith, sa, sb, sc, sd, se)) sf

  n7 : number_of (a ∷ b ∷ c ∷ d ∷ e ∷ f ∷ g ∷ []) ≡ (((((a * 256 + b) * 256 + c) * 256 + d) * 256 + e) * 256 + f) * 256 + g
  n7 = ap (λ n. read_step n g) n6 ∙ step_is (((((a * 256 + b) * 256 + c) * 256 + d) * 256 + e) * 256 + f) g (omega (arith, sa, sb, sc, sd, se, sf)) sg

  pub spelled_by : (n : ℕ) → 0 < n → n < 8 → eight_of (a ∷ b ∷ c ∷ d ∷ e ∷ f ∷ g ∷ h ∷ rest) / 2 ^ (8 * (8 - n)) ≡ number_of (take n (a ∷ b ∷ c ∷ d ∷ e ∷ f ∷ g ∷ h ∷ rest))
  spelled_by zero some few = absurd (omega arith)
  spelled_by (suc zero) some few = omega (arith, sb, sc, sd, se, sf, sg, sh) ∙ sym n1
  spelled_by (suc (suc zero)) some few = omega (arith, sc, sd, se, sf, sg, sh) ∙ sym n2
  spelled_by (suc (suc (suc zero))) some few = omega (arith, sd, se, sf, sg, sh) ∙ sym n3
  spelled_by (suc (suc (suc (suc zero)))) some few = omega (arith, se, sf, sg, sh) ∙ sym n4
  spelled_by (suc (suc (suc (suc (suc zero))))) some few = omega (arith, sf, sg, sh) ∙ sym n5
  spelled_by (suc (suc (suc (suc (suc (suc zero)))))) some few = omega (arith, sg, sh) ∙ sym n6
  spelled_by (suc (suc (suc (suc (suc (suc (suc zero))))))) some few = omega (arith, sh) ∙ sym n7
  spelled_by (suc (suc (suc (suc (suc (suc (suc (suc n)))))))) some few = absurd (omega arith)

pub first_spell : (bytes : List ℕ) (n : ℕ) → length bytes ≡ 22 → ((i : ℕ) → get_or bytes i 0 < 256) → 0 < n → n < 8 → eight_of bytes / 2 ^ (8 * (8 - n)) ≡ number_of (take n bytes)
first_spell [] n long small some few = absurd (omega arith)
first_spell (a ∷ []) n long small some few = absurd (omega arith)
first_spell (a ∷ b ∷ []) n long small some few = absurd (omega arith)
first_spell (a ∷ b ∷ c ∷ []) n long small some few = absurd (omega arith)
first_spell (a ∷ b ∷ c ∷ d ∷ []) n long small some few = absurd (omega arith)
first_spell (a ∷ b ∷ c ∷ d ∷ e ∷ []) n long small some few = absurd (omega arith)
first_spell (a ∷ b ∷ c ∷ d ∷ e ∷ f ∷ []) n long small some few = absurd (omega arith)
first_spell (a ∷ b ∷ c ∷ d ∷ e ∷ f ∷ g ∷ []) n long small some few = absurd (omega arith)
first_spell (a ∷ b ∷ c ∷ d ∷ e ∷ f ∷ g ∷ h ∷ rest) n long small some few = spelled_by a b c d e f g h rest (small 0) (small 1) (small 2) (small 3) (small 4) (small 5) (small 6) (small 7) n some few

-- ---- a text and zeros after it

-- the first eight of some bytes
abbrev pub eight : List ℕ → List ℕ
eight bytes = get_or bytes 0 0 ∷ get_or bytes 1 0 ∷ get_or bytes 2 0 ∷ get_or bytes 3 0 ∷ get_or bytes 4 0 ∷ get_or bytes 5 0 ∷ get_or bytes 6 0 ∷ get_or bytes 7 0 ∷ []

eight_taken : (bytes : List ℕ) → 8 ≤ length bytes → eight bytes ≡ take 8 bytes
eight_taken [] long = absurd (omega (arith, long))
eight_taken (a ∷ []) long = absurd (omega (arith, long))
eight_taken (a ∷ b ∷ []) long = absurd (omega (arith, long))
eight_taken (a ∷ b ∷ c ∷ []) long = absurd (omega (arith, long))
eight_taken (a ∷ b ∷ c ∷ d ∷ []) long = absurd (omega (arith, long))
eight_taken (a ∷ b ∷ c ∷ d ∷ e ∷ []) long = absurd (omega (arith, long))
eight_taken (a ∷ b ∷ c ∷ d ∷ e ∷ f ∷ []) long = absurd (omega (arith, long))
eight_taken (a ∷ b ∷ c ∷ d ∷ e ∷ f ∷ g ∷ []) long = absurd (omega (arith, long))
eight_taken (a ∷ b ∷ c ∷ d ∷ e ∷ f ∷ g ∷ h ∷ rest) long = refl

-- the bytes of the number of the first eight, if the text has at most seven
pub padded : (len : ℕ) (bytes : List ℕ) (n : ℕ) → IsShort len bytes → ((i : ℕ) → get_or bytes i 0 < 256) → len < 8 → n ≡ from_be_bytes w64 (eight bytes)
    → to_be_bytes w64 n ≡ take len bytes ++ replicate (8 - length (take len bytes)) 0
padded len bytes n short small few is =
    be_bytes_8 (eight bytes) n refl small_eight is
    ∙ eight_taken bytes (omega (arith, short.whole))
    ∙ ap (take 8) (sym (take-append-drop len bytes) ∙ ap (λ l. take len bytes ++ l) short.zeros)
    ∙ zeros
  where
    size : length (take len bytes) ≡ len
    size = length-take-le len bytes (omega (arith, short.fits, short.whole))

    zeros : take 8 (take len bytes ++ replicate (22 - len) 0) ≡ take len bytes ++ replicate (8 - length (take len bytes)) 0
    zeros =
        let text = take len bytes in
        let whole : 8 ≡ length text + (8 - length text) = omega (arith, size, few) in
        ap (λ n. take n (text ++ replicate (22 - len) 0)) whole
        ∙ take-append-add text (replicate (22 - len) 0) (8 - length text)
        ∙ ap (λ l. text ++ l) (take-replicate (8 - length text) (22 - len) 0 (omega (arith, size, few)))

    small_eight : (i : ℕ) → get_or (eight bytes) i 0 < 256
    small_eight zero = small 0
    small_eight (suc zero) = small 1
    small_eight (suc (suc zero)) = small 2
    small_eight (suc (suc (suc zero))) = small 3
    small_eight (suc (suc (suc (suc zero)))) = small 4
    small_eight (suc (suc (suc (suc (suc zero))))) = small 5
    small_eight (suc (suc (suc (suc (suc (suc zero)))))) = small 6
    small_eight (suc (suc (suc (suc (suc (suc (suc zero))))))) = small 7
    small_eight (suc (suc (suc (suc (suc (suc (suc (suc i)))))))) = omega arith
