-- The marks of special bytes, without those that are passed.
use Rattle.std.proofs.Common.{◌≡◌, ◌∙◌, ℕ, zero, suc, ◌+◌, ◌-◌, ◌*◌, ◌/◌, ◌%◌, ◌^◌, ◌<◌, ◌≤◌, min, Bool, true, false, cond, not, List, [], ◌∷◌, ◌++◌, length, map, take, drop, replicate, get_or, bit_and, refl, sym, ap, subst, arith, get_or-drop, length-drop}
use Rattle.std.proofs.Math.Nat.{div-div-eq-div-mul, div-one, two-pow-succ}
use Rattle.std.proofs.lemmas.List.{drop-drop, drop_more, drop-map, drop-take, length-append, length-map, length-replicate, length-take-le, map-id}
use Rattle.std.proofs.lemmas.List.Sums.{prefix_len_stops}
use Rattle.std.proofs.lemmas.Simd.{trailing_mask_l}
use Rattle.std.specs.Int.Bits.{and_self}
use Rattle.std.specs.List.{position_or_len}
use Rattle.std.specs.Simd.Lanes.{mask_l}
use lib.Bits.{and_step}
use lib.Count.{count_trailing_zeros}
use Rattle.gq_csv.specs.Bytes.{is_special}
use Rattle.gq_csv.specs.Masks.{Covers, HasNext, Marks, Passes}
use Rattle.gq_csv.specs.declared.placed_mask.PlacedMask.{PlacedMask}
use Rattle.gq_csv.proofs.FindLemmas.{stops_in_block}
use Rattle.gq_csv.proofs.MaskLemmas.{goes_on, some_stops}

-- ---- flags, the first of which are false

abbrev id : Bool → Bool
id m = m

-- the flags after the first j
pub unshifted : (j : ℕ) (ms : List Bool) → mask_l (replicate j false ++ ms) / 2 ^ j ≡ mask_l ms
unshifted zero ms = div-one (mask_l ms)
unshifted (suc j) ms =
    let m = mask_l (replicate j false ++ ms) in
    let half : (0 + 2 * m) / 2 ≡ m = omega arith in
    ap (λ n. (0 + 2 * m) / n) (two-pow-succ j ∙ omega arith) ∙ sym (div-div-eq-div-mul (0 + 2 * m) 2 (2 ^ j)) ∙ ap (λ k. k / 2 ^ j) half ∙ unshifted j ms

pub some_after : (j : ℕ) (ms : List Bool) → 0 < mask_l (replicate j false ++ ms) → 0 < mask_l ms
some_after zero ms some = some
some_after (suc j) ms some = some_after j ms (omega (arith, some))

pub none_after : (j : ℕ) (ms : List Bool) → mask_l (replicate j false ++ ms) ≡ 0 → mask_l ms ≡ 0
none_after zero ms none = none
none_after (suc j) ms none = none_after j ms (omega (arith, none))

first_after : (j : ℕ) (ms : List Bool) → position_or_len id (replicate j false ++ ms) ≡ j + position_or_len id ms
first_after zero ms = omega arith
first_after (suc j) ms = let again = first_after j ms in omega (arith, again)

first_flag : (p : ℕ → Bool) (xs : List ℕ) → position_or_len id (map p xs) ≡ position_or_len p xs
first_flag p [] = refl
first_flag p (x ∷ xs) = λ i. cond (not (p x)) (1 + first_flag p xs i) 0

drop_after : (j k : ℕ) (ms : List Bool) → drop (j + k) (replicate j false ++ ms) ≡ drop k ms
drop_after zero k ms = let e : 0 + k ≡ k = omega arith in ap (λ n. drop n ms) e
drop_after (suc j) k ms = (let e : suc j + k ≡ suc (j + k) = omega arith in ap (λ n. drop n (false ∷ (replicate j false ++ ms))) e) ∙ drop_after j k ms

-- the number without its lowest bit has the flags without the first that is set
cleared : (ms : List Bool) → 0 < mask_l ms → bit_and (mask_l ms) (mask_l ms - 1) ≡ mask_l (replicate (position_or_len id ms + 1) false ++ drop (position_or_len id ms + 1) ms)
cleared [] some = absurd (omega (arith, some))
cleared (true ∷ ms) some =
    let m = mask_l ms in
    let step : bit_and (1 + 2 * m) (1 + 2 * m - 1) ≡ bit_and ((1 + 2 * m) / 2) ((1 + 2 * m - 1) / 2) * 2 + min ((1 + 2 * m) % 2) ((1 + 2 * m - 1) % 2) = and_step (1 + 2 * m) (1 + 2 * m - 1) in
    let a : (1 + 2 * m) / 2 ≡ m = omega arith in
    let b : (1 + 2 * m - 1) / 2 ≡ m = omega arith in
    let same : bit_and ((1 + 2 * m) / 2) ((1 + 2 * m - 1) / 2) ≡ m = rw (a, b) (and_self m) in
    omega (arith, step, same)
cleared (false ∷ ms) some =
    let m = mask_l ms in
    let again = cleared ms (omega (arith, some)) in
    let step : bit_and (0 + 2 * m) (0 + 2 * m - 1) ≡ bit_and ((0 + 2 * m) / 2) ((0 + 2 * m - 1) / 2) * 2 + min ((0 + 2 * m) % 2) ((0 + 2 * m - 1) % 2) = and_step (0 + 2 * m) (0 + 2 * m - 1) in
    let a : (0 + 2 * m) / 2 ≡ m = omega arith in
    let b : (0 + 2 * m - 1) / 2 ≡ m - 1 = omega (arith, some) in
    let same : bit_and ((0 + 2 * m) / 2) ((0 + 2 * m - 1) / 2) ≡ bit_and m (m - 1) = rw (a, b) refl in
    let twice : bit_and (0 + 2 * m) (0 + 2 * m - 1) ≡ 0 + 2 * mask_l (replicate (position_or_len id ms + 1) false ++ drop (position_or_len id ms + 1) ms) = omega (arith, step, same, again) in
    let next : suc (position_or_len id ms + 1) ≡ 1 + position_or_len id ms + 1 = omega arith in
    twice ∙ ap (λ k. mask_l (replicate k false ++ drop k (false ∷ ms))) next

-- ---- the marks from a position on

module _ (text : List ℕ) (from : ℕ) (mask : PlacedMask) (h : Marks text from mask) where
  abbrev behind : ℕ
  behind = from - mask.base

  abbrev ahead : List ℕ
  ahead = take (mask.limit - from) (drop from text)

  abbrev flags : List Bool
  flags = replicate behind false ++ map is_special ahead

  size : length ahead ≡ mask.limit - from
  size = length-take-le (mask.limit - from) (drop from text) (omega (arith, length-drop from text, h.within))

  covers_ahead : Covers (drop from text) (record { bits = mask_l (map is_special ahead); len = mask.limit - from })
  covers_ahead = record {
    within = omega (arith, length-drop from text, h.within);
    few = omega (arith, h.few, h.begun);
    bits = refl;
  }

  pub few_behind : from < mask.limit → from - mask.base < 64
  few_behind lt = omega (arith, lt, h.few, h.begun)

  pub covers_after : Covers (drop from text) (record { bits = mask.bits / 2 ^ (from - mask.base); len = mask.limit - from })
  covers_after = record {
    within = covers_ahead.within;
    few = covers_ahead.few;
    bits = ap (λ n. n / 2 ^ (from - mask.base)) h.bits ∙ unshifted behind (map is_special ahead);
  }

  -- no bit is set: the next special byte comes after the mask's
  pub none_ahead : mask.bits ≡ 0 → mask.limit + position_or_len is_special (drop mask.limit text) ≡ from + position_or_len is_special (drop from text)
  none_ahead none =
      let on = goes_on text from (record { bits = mask_l (map is_special ahead); len = mask.limit - from }) covers_ahead (none_after behind (map is_special ahead) (sym h.bits ∙ none)) in
      let e : from + (mask.limit - from) ≡ mask.limit = omega (arith, h.ahead) in
      subst (λ n. n + position_or_len is_special (drop n text) ≡ from + position_or_len is_special (drop from text)) e on

  module _ (some : 0 < mask.bits) where
    some_flag : 0 < mask_l flags
    some_flag = omega (arith, h.bits, some)

    abbrev first : ℕ
    first = position_or_len is_special ahead

    flag_is : position_or_len id flags ≡ behind + first
    flag_is = first_after behind (map is_special ahead) ∙ ap (λ n. behind + n) (first_flag is_special ahead)

    bit_is : count_trailing_zeros 64 mask.bits ≡ behind + first
    bit_is =
        let whole = map-id flags in
        let most : length flags ≤ 64 = omega (arith, length-append (replicate behind false) (map is_special ahead), length-replicate behind false, length-map ahead is_special, size, h.few, h.begun, h.ahead) in
        ap (count_trailing_zeros 64) (h.bits ∙ ap mask_l (sym whole)) ∙ trailing_mask_l id 64 flags most (omega (arith, some_flag, ap mask_l whole)) ∙ flag_is

    stops : first < length ahead
    stops = some_stops is_special ahead (some_after behind (map is_special ahead) some_flag)

    stop_is : position_or_len is_special (drop from text) ≡ first
    stop_is = stops_in_block (λ b. not (is_special b)) (drop from text) (mask.limit - from) covers_ahead.within (omega (arith, stops, size))

    pub first_below : mask.base + count_trailing_zeros 64 mask.bits < mask.limit
    first_below = omega (arith, bit_is, stops, size, h.begun)

    pub first_is : mask.base + count_trailing_zeros 64 mask.bits ≡ from + position_or_len is_special (drop from text)
    first_is = omega (arith, bit_is, stop_is, h.begun)

    -- what follows the first special byte
    left : drop (behind + first + 1) flags ≡ map is_special (take (mask.limit - (from + first + 1)) (drop (from + first + 1) text))
    left =
        let n = mask.limit - (from + first + 1) in
        let a : behind + first + 1 ≡ behind + (first + 1) = omega arith in
        let b : mask.limit - from ≡ (first + 1) + n = omega (arith, stops, size) in
        let c : first + 1 + from ≡ from + first + 1 = omega arith in
        ap (λ k. drop k flags) a ∙ drop_after behind (first + 1) (map is_special ahead) ∙ drop-map is_special (first + 1) ahead
        ∙ ap (λ k. map is_special (drop (first + 1) (take k (drop from text)))) b
        ∙ ap (map is_special) (drop-take (first + 1) n (drop from text))
        ∙ ap (λ xs. map is_special (take n xs)) (drop-drop (first + 1) from text)
        ∙ ap (λ k. map is_special (take n (drop k text))) (omega arith)

    next_bits : (end : ℕ) → end ≡ from + first → bit_and mask.bits (mask.bits - 1)
        ≡ mask_l (replicate (end + 1 - mask.base) false ++ map is_special (take (mask.limit - (end + 1)) (drop (end + 1) text)))
    next_bits end e =
        let k : position_or_len id flags + 1 ≡ behind + first + 1 = omega (arith, flag_is) in
        let b : behind + first + 1 ≡ end + 1 - mask.base = omega (arith, e, h.begun) in
        let s : from + first + 1 ≡ end + 1 = omega (arith, e) in
        ap (λ n. bit_and n (n - 1)) h.bits ∙ cleared flags some_flag ∙ ap (λ n. mask_l (replicate n false ++ drop n flags)) k
        ∙ ap (λ xs. mask_l (replicate (behind + first + 1) false ++ xs)) left
        ∙ (λ i. mask_l (replicate (b i) false ++ map is_special (take (mask.limit - s i) (drop (s i) text))))

    pub passed : Passes text from (mask.base + count_trailing_zeros 64 mask.bits) (record { bits = bit_and mask.bits (mask.bits - 1); base = mask.base; limit = mask.limit })
    passed =
        let end = mask.base + count_trailing_zeros 64 mask.bits in
        let e : end ≡ from + first = omega (arith, bit_is, h.begun) in
        record {
          within = omega (arith, first_below, h.within);
          found = first_is;
          marks = record {
            begun = omega (arith, e, h.begun);
            ahead = omega (arith, first_below);
            within = h.within;
            few = h.few;
            bits = next_bits end e;
          };
        }

-- ---- new marks

pub placed : (text : List ℕ) (at bits len : ℕ) → at + len ≤ length text → len ≤ 64 → bits ≡ mask_l (map is_special (take len (drop at text))) → Marks text at (record { bits = bits; base = at; limit = at + len })
placed text at bits len within few is =
    let n : at - at ≡ 0 = omega arith in
    let k : at + len - at ≡ len = omega arith in
    record {
      begun = omega arith;
      ahead = omega arith;
      within = within;
      few = omega (arith, few);
      bits = is ∙ sym (λ i. mask_l (replicate (n i) false ++ map is_special (take (k i) (drop at text))));
    }

-- the first special byte of a text, alone
module _ (text : List ℕ) (at : ℕ) (within : at + position_or_len is_special (drop at text) < length text) where
  abbrev first_at : ℕ
  first_at = at + position_or_len is_special (drop at text)

  there : is_special (get_or text first_at 0) ≡ true
  there = flip (is_special (get_or text first_at 0)) (ap (λ b. not (is_special b)) (sym (get_or-drop at text (position_or_len is_special (drop at text)) 0))
      ∙ prefix_len_stops (λ b. not (is_special b)) (drop at text) 0 (omega (arith, within, length-drop at text)))
    where
      flip : (b : Bool) → not b ≡ false → b ≡ true
      flip true e = refl
      flip false e = cc

  parts : drop first_at text ≡ get_or text first_at 0 ∷ drop (first_at + 1) text
  parts = drop_more text first_at 0 within

  pub alone : Marks text first_at (record { bits = 1; base = first_at; limit = first_at + 1 })
  alone =
      let here : mask_l (map is_special (take 1 (drop first_at text))) ≡ 1 = ap (λ xs. mask_l (map is_special (take 1 xs))) parts ∙ ap (λ b. mask_l (b ∷ [])) there in
      placed text first_at 1 1 (omega (arith, within)) (omega arith) (sym here)

  pub still_first : first_at + position_or_len is_special (drop first_at text) ≡ first_at
  still_first =
      let none : position_or_len is_special (drop first_at text) ≡ 0 = ap (position_or_len is_special) parts ∙ ap (λ b. cond (not b) (1 + position_or_len is_special (drop (first_at + 1) text)) 0) there in
      omega (arith, none)

pub single : (text : List ℕ) (at from first : ℕ) → first ≡ at + position_or_len is_special (drop at text) → at + position_or_len is_special (drop at text) ≡ from + position_or_len is_special (drop from text)
    → first < length text → HasNext text from (record { bits = 1; base = first; limit = first + 1 })
single text at from first is same lt =
    let within : at + position_or_len is_special (drop at text) < length text = omega (arith, is, lt) in
    subst (λ n. HasNext text from (record { bits = 1; base = n; limit = n + 1 })) (sym is) (record {
      at = at + position_or_len is_special (drop at text);
      some = omega arith;
      marks = alone text at within;
      same = still_first text at within ∙ same;
    })
