-- Prefixes that are made of codes are in the order of keys.
use Rattle.std.proofs.Common.{◌≡◌, Bool, true, false, ◌&&◌, ℕ, suc, ◌+◌, ◌*◌, ◌-◌, ◌^◌, ◌<◌, ◌≤◌, List, [], ◌∷◌, drop, get_or, length, Less, Greater, inl, inr, refl, sym, ap, subst, ◌∙◌, arith}
use Rattle.std.specs.Prelude.{◌%◌, ◌||◌, not, if◌then◌else◌, min, nat_eq, nat_lt}
use Rattle.std.specs.Ordering.{nat_cmp, ordering_then}
use Rattle.std.specs.Cmp.Lexicographic.{slice_cmp}
use Rattle.std.proofs.lemmas.Bool.{and_parts, cases_lt, cases_order, eqb-true, ltb-false, ltb-true, not-true}
use Rattle.std.proofs.Math.Seq.{drop-cons}
use Rattle.std.proofs.lemmas.Nat.{le-div}
use Rattle.std.proofs.Math.Nat.{add-mul, div-mul-le_self, le-mul_of_pos_right, mul_assoc, mul-le-mul_right, one-le-pow}
use Rattle.gq_row.specs.declared.value.Value.{Value}
use Rattle.gq_row.specs.Order.{folded_order, plain_order, compare_keys}
use Rattle.gq_row.specs.Rows.{cell}
use Rattle.gq_query.specs.declared.sort_prefix.SortPrefix.{SortPrefix}
use Rattle.gq_query.specs.declared.frames.Frame.{Frame}
use Rattle.gq_query.specs.declared.frames.Frames.{Frames}
use Rattle.gq_query.specs.declared.frames.Code.{Code}
use Rattle.gq_query.specs.SortPrefixes.{IsOfBytes, IsWord, Place, is_whole, without_bytes, word_of}
use Rattle.gq_query.specs.Ties.{TieUpTo, rest}
use Rattle.gq_query.specs.Frames.{AreFrames, Fit, Follow, IsDigit, IsFramePrefix, IsNumber, code_of, goes_on, has_own_code, last_of, next_place, none_before, product, step_of, steps_to, with_digit}
use Rattle.gq_query.proofs.SortPrefixLemmas.{below, compare_prefixes, greater, grouped, keys_by_words, less, one_by_one, past_bytes, past_cell, rest_cell, same, tie_whole, tied, values_go_on, whole_tie}

-- the rest of some frames, from one of them on
abbrev pub no_frame : Frame
no_frame = record { cell = 0; skip = 0; low = 0; shift = 0; codes = 0; ends = false }

pub frame_next : (frames : List Frame) (i : ℕ) → i < length frames → drop i frames ≡ get_or frames i no_frame ∷ drop (i + 1) frames
frame_next frames i lt =
    let more : suc i ≡ i + 1 = omega arith in
    drop-cons frames i no_frame lt ∙ ap (λ n. get_or frames i no_frame ∷ drop n frames) more

-- ---- codes of words

step_some : (frame : Frame) → 0 < step_of frame
step_some frame = one-le-pow (frame.shift % 64) 2 (omega arith)

steps_up : (frame : Frame) (v w : ℕ) → v ≤ w → steps_to frame v ≤ steps_to frame w
steps_up frame v w le =
    let low = div-mul-le_self (v - frame.low) (step_of frame) in
    le-div (steps_to frame v) (w - frame.low) (step_of frame) (step_some frame) (omega (arith, low, le))

-- the code of a word, if it is known whether it is below the frame
abbrev code_if : Bool → Frame → ℕ → ℕ
code_if under frame word = if under then 0 else min (suc (steps_to frame word)) (last_of frame)

code_up : (frame : Frame) (v w : ℕ) → v ≤ w → code_of frame v ≤ code_of frame w
code_up frame v w le = by_tests (nat_lt v frame.low) (nat_lt w frame.low) refl refl
  where
    by_tests : (x y : Bool) → nat_lt v frame.low ≡ x → nat_lt w frame.low ≡ y → code_if x frame v ≤ code_if y frame w
    by_tests true y e f = omega arith
    by_tests false true e f = absurd (omega (arith, ltb-false v frame.low e, ltb-true w frame.low f, le))
    by_tests false false e f = let up = steps_up frame v w le in omega (arith, up)

code_small : (frame : Frame) (word : ℕ) → code_of frame word ≤ last_of frame
code_small frame word = by_test (nat_lt word frame.low)
  where
    by_test : (x : Bool) → code_if x frame word ≤ last_of frame
    by_test true = omega arith
    by_test false = omega arith

-- a word with a code of its own is the least one with this code
pub own_least : (frame : Frame) (v w : ℕ) → has_own_code frame v ≡ true → code_of frame v ≡ code_of frame w → v ≤ w
own_least frame v w own same_code =
    let parts = and_parts (not (nat_lt v frame.low)) (nat_lt (suc (steps_to frame v)) (last_of frame) && nat_eq (steps_to frame v * step_of frame) (v - frame.low)) own in
    let more = and_parts (nat_lt (suc (steps_to frame v)) (last_of frame)) (nat_eq (steps_to frame v * step_of frame) (v - frame.low)) parts.1 in
    let above = not-true (nat_lt v frame.low) parts.0 in
    by_test above (ltb-true (suc (steps_to frame v)) (last_of frame) more.0) (eqb-true (steps_to frame v * step_of frame) (v - frame.low) more.1) (nat_lt w frame.low) refl
  where
    by_test : nat_lt v frame.low ≡ false → suc (steps_to frame v) < last_of frame → steps_to frame v * step_of frame ≡ v - frame.low → (x : Bool) → nat_lt w frame.low ≡ x → v ≤ w
    by_test above few exact true e =
        let zero : suc (steps_to frame v) ≡ 0 = grind (arith, few, sym (ap (λ x. code_if x frame v) above) ∙ same_code ∙ ap (λ x. code_if x frame w) e) in
        absurd (omega (arith, zero))
    by_test above few exact false e =
        let codes : code_if false frame v ≡ code_if false frame w = sym (ap (λ x. code_if x frame v) above) ∙ same_code ∙ ap (λ x. code_if x frame w) e in
        let steps : steps_to frame v ≡ steps_to frame w = omega (arith, codes, few) in
        let times = ap (λ s. s * step_of frame) steps in
        let low = div-mul-le_self (w - frame.low) (step_of frame) in
        omega (arith, times, low, exact, ltb-false w frame.low e, ltb-false v frame.low above)

-- ---- numbers

digit_small : (frame : Frame) (key : List Value) (known : Bool) (digit : Code) → IsDigit frame key known digit → digit.code ≤ last_of frame
digit_small frame key true digit (word, is, code, exact) = subst (λ n. n ≤ last_of frame) (sym code) (code_small frame word)
digit_small frame key false digit (code, exact) = omega (arith, code)

some_codes : (frame : Frame) (frames : List Frame) → 0 < product (frame ∷ frames) → 0 < frame.codes
some_codes frame frames some = elim (cases_lt 0 frame.codes) [
  | inl more ↦ more
  | inr none ↦
      let zero : frame.codes ≡ 0 = omega (arith, none) in
      absurd (omega (arith, some, ap (λ n. n * product frames) zero))
]

some_product : (frame : Frame) (frames : List Frame) → 0 < product (frame ∷ frames) → 0 < product frames
some_product frame frames some = elim (cases_lt 0 (product frames)) [
  | inl more ↦ more
  | inr none ↦
      let zero : product frames ≡ 0 = omega (arith, none) in
      absurd (omega (arith, some, ap (λ n. frame.codes * n) zero))
]

-- numbers after this one have room in a word
abbrev HasRoom : List Frame → Code → Type 0
HasRoom frames sum = (sum.code + 1) * product frames ≤ 2 ^ 64

module _ (frame : Frame) (frames : List Frame) (some : 0 < product (frame ∷ frames)) (sum digit : Code) (room : HasRoom (frame ∷ frames) sum) (small : digit.code ≤ last_of frame) where
  -- the number with a digit more, without a bound
  abbrev longer : ℕ
  longer = sum.code * frame.codes + digit.code

  longer_room : (longer + 1) * product frames ≤ 2 ^ 64
  longer_room =
      let codes = some_codes frame frames some in
      let parts : (sum.code + 1) * frame.codes ≡ sum.code * frame.codes + 1 * frame.codes = add-mul sum.code 1 frame.codes in
      let up : (longer + 1) ≤ (sum.code + 1) * frame.codes = omega (arith, parts, small, codes) in
      let times : (longer + 1) * product frames ≤ (sum.code + 1) * frame.codes * product frames = mul-le-mul_right (product frames) up in
      omega (arith, times, mul_assoc ((sum.code + 1)) frame.codes (product frames), room)

  digit_is : (with_digit frame sum digit).code ≡ longer
  digit_is =
      let least = le-mul_of_pos_right (longer + 1) (some_product frame frames some) in
      let within : longer < 2 ^ 64 = omega (arith, least, longer_room) in
      omega (arith, within)

  digit_room : HasRoom frames (with_digit frame sum digit)
  digit_room = subst (λ n. (n + 1) * product frames ≤ 2 ^ 64) (sym digit_is) longer_room

-- a lower number is lower with more digits
numbers_below : (frames : List Frame) → 0 < product frames → (a b : List Value) (s t m n : Code) → HasRoom frames s → HasRoom frames t → s.code < t.code → IsNumber frames a s m → IsNumber frames b t n → m.code < n.code
numbers_below [] some a b s t m n rs rt lt is_m is_n = omega (arith, lt, ap (λ (c : Code). c.code) is_m, ap (λ (c : Code). c.code) is_n)
numbers_below (frame ∷ frames) some a b s t m n rs rt lt (d, is_d, is_m) (e, is_e, is_n) =
    let small_d = digit_small frame a s.exact d is_d in
    let small_e = digit_small frame b t.exact e is_e in
    let codes = some_codes frame frames some in
    let low = below frame.codes s.code t.code d.code e.code lt (omega (arith, small_d, codes)) in
    numbers_below frames (some_product frame frames some) a b (with_digit frame s d) (with_digit frame t e) m n
    (digit_room frame frames some s d rs small_d) (digit_room frame frames some t e rt small_e)
    (omega (arith, low, digit_is frame frames some s d rs small_d, digit_is frame frames some t e rt small_e)) is_m is_n

-- and no number is above one that isn't lower and that goes on with the last codes
closed_above : (frames : List Frame) → 0 < product frames → (a b : List Value) (s t m n : Code) → HasRoom frames s → HasRoom frames t → s.code ≤ t.code → t.exact ≡ false → IsNumber frames a s m → IsNumber frames b t n → m.code ≤ n.code
closed_above [] some a b s t m n rs rt le closed is_m is_n = omega (arith, le, ap (λ (c : Code). c.code) is_m, ap (λ (c : Code). c.code) is_n)
closed_above (frame ∷ frames) some a b s t m n rs rt le closed (d, is_d, is_m) (e, is_e, is_n) =
    let small_d = digit_small frame a s.exact d is_d in
    let small_e = digit_small frame b t.exact e is_e in
    let last : IsDigit frame b false e = subst (λ known. IsDigit frame b known e) closed is_e in
    let up : s.code * frame.codes ≤ t.code * frame.codes = mul-le-mul_right frame.codes le in
    closed_above frames (some_product frame frames some) a b (with_digit frame s d) (with_digit frame t e) m n
    (digit_room frame frames some s d rs small_d) (digit_room frame frames some t e rt small_e)
    (omega (arith, up, small_d, last.0, digit_is frame frames some s d rs small_d, digit_is frame frames some t e rt small_e)) last.1 is_m is_n

-- what goes on with the last codes does so to the end
stays_closed : (frames : List Frame) (key : List Value) (s m : Code) → s.exact ≡ false → IsNumber frames key s m → m.exact ≡ false
stays_closed [] key s m closed is = ap (λ (c : Code). c.exact) is ∙ closed
stays_closed (frame ∷ frames) key s m closed (d, is_d, is_m) =
    let last : IsDigit frame key false d = subst (λ known. IsDigit frame key known d) closed is_d in
    stays_closed frames key (with_digit frame s d) m last.1 is_m

-- ---- two keys

module _ (a b : List Value) (width : ℕ) (long_a : width ≤ length a) (long_b : width ≤ length b) where
  -- what is known of two keys: they tie up to a place, or one of them is below the other, or nothing
  abbrev Known : Place → Bool → Bool → Type 0
  Known place true true = TieUpTo place.0 place.1 a b
  Known place true false = compare_keys a b ≡ Less
  Known place false true = compare_keys a b ≡ Greater
  Known place false false = Unit {0}

  less_known : (place : Place) (known : Bool) → compare_keys a b ≡ Less → Known place known false
  less_known place true h = h
  less_known place false h = tt

  greater_known : (place : Place) (known : Bool) → compare_keys a b ≡ Greater → Known place false known
  greater_known place true h = h
  greater_known place false h = tt

  -- two numbers are in the order of the keys, if they differ
  abbrev Orders : ℕ → ℕ → Type 0
  Orders x y = (x < y → compare_keys a b ≡ Less) × (y < x → compare_keys a b ≡ Greater)

  words_first : (place skip v w : ℕ) → TieUpTo place skip a b → IsWord (without_bytes skip (cell a place)) v → IsWord (without_bytes skip (cell b place)) w
      → ordering_then (nat_cmp v w) (compare_keys a b) ≡ compare_keys a b
  words_first place skip v w tie x y =
      let is_v : word_of (cell (rest place skip a) 0) ≡ v = ap word_of (rest_cell place skip a) ∙ sym x.0 in
      let is_w : word_of (cell (rest place skip b) 0) ≡ w = ap word_of (rest_cell place skip b) ∙ sym y.0 in
      let order = slice_cmp folded_order (rest place skip a) (rest place skip b) in
      let decides : ordering_then (nat_cmp v w) order ≡ order =
      (λ i. ordering_then (nat_cmp (sym is_v i) (sym is_w i)) order)
      ∙ keys_by_words (rest place skip a) (rest place skip b) (subst IsOfBytes (sym (rest_cell place skip a)) x.1) (subst IsOfBytes (sym (rest_cell place skip b)) y.1) in
      grouped (nat_cmp v w) (slice_cmp folded_order a b) (slice_cmp plain_order a b) (ap (ordering_then (nat_cmp v w)) tie ∙ decides ∙ sym tie)

  less_first : (place skip v w : ℕ) → TieUpTo place skip a b → IsWord (without_bytes skip (cell a place)) v → IsWord (without_bytes skip (cell b place)) w → v < w → compare_keys a b ≡ Less
  less_first place skip v w tie x y lt = sym (words_first place skip v w tie x y) ∙ ap (λ o. ordering_then o (compare_keys a b)) (less v w lt)

  greater_first : (place skip v w : ℕ) → TieUpTo place skip a b → IsWord (without_bytes skip (cell a place)) v → IsWord (without_bytes skip (cell b place)) w → w < v → compare_keys a b ≡ Greater
  greater_first place skip v w tie x y gt = sym (words_first place skip v w tie x y) ∙ ap (λ o. ordering_then o (compare_keys a b)) (greater v w gt)

  -- keys that tie in a word, too, tie up to the next one, if what follows counts
  abbrev place_if : Bool → Frame → Place
  place_if ends frame = if ends then (suc frame.cell, 0) else (frame.cell, frame.skip + 6)

  next_tie : (frame : Frame) (v : ℕ) → TieUpTo frame.cell frame.skip a b → frame.cell < width → IsWord (without_bytes frame.skip (cell a frame.cell)) v → IsWord (without_bytes frame.skip (cell b frame.cell)) v
      → goes_on frame v ≡ true → TieUpTo (next_place frame).0 (next_place frame).1 a b
  next_tie frame v tie in_width x y on = by_ends frame.ends (and_parts (has_own_code frame v) (not frame.ends || is_whole v) on).1
    where
      in_a : frame.cell < length a
      in_a = omega (arith, in_width, long_a)

      in_b : frame.cell < length b
      in_b = omega (arith, in_width, long_b)

      by_ends : (ends : Bool) → (not ends || is_whole v) ≡ true → TieUpTo (place_if ends frame).0 (place_if ends frame).1 a b
      by_ends true whole = past_cell frame.cell frame.skip a b in_a in_b tie
          (whole_tie (without_bytes frame.skip (cell a frame.cell)) (without_bytes frame.skip (cell b frame.cell)) x.1 y.1 (sym x.0 ∙ y.0) (ap is_whole (sym x.0) ∙ whole))
      by_ends false _ = past_bytes frame.cell frame.skip a b in_a in_b tie
          (values_go_on (without_bytes frame.skip (cell a frame.cell)) (without_bytes frame.skip (cell b frame.cell)) x.1 y.1 (sym x.0 ∙ y.0))

  -- what numbers say of the keys, and what is known after their words if they tie
  abbrev Says : Place → Code → Code → Type 0
  Says end m n = Orders m.code n.code × (m.code ≡ n.code → Known end m.exact n.exact)

  says_nothing : (end : Place) (m n : Code) → m.code ≡ n.code → m.exact ≡ false → n.exact ≡ false → Says end m n
  says_nothing end m n e closed_m closed_n = (
    ((λ lt. absurd (omega (arith, lt, e))), (λ gt. absurd (omega (arith, gt, e)))),
    λ _. subst (λ p. Known end p n.exact) (sym closed_m) (subst (λ q. Known end false q) (sym closed_n) tt),
  )

  says_less : (end : Place) (m n : Code) → m.code ≤ n.code → n.exact ≡ false → compare_keys a b ≡ Less → Says end m n
  says_less end m n le closed h = (
    ((λ lt. h), (λ gt. absurd (omega (arith, gt, le)))),
    λ _. subst (λ q. Known end m.exact q) (sym closed) (less_known end m.exact h),
  )

  says_greater : (end : Place) (m n : Code) → n.code ≤ m.code → m.exact ≡ false → compare_keys a b ≡ Greater → Says end m n
  says_greater end m n le closed h = (
    ((λ lt. absurd (omega (arith, lt, le))), (λ gt. h)),
    λ _. subst (λ p. Known end p n.exact) (sym closed) (greater_known end n.exact h),
  )

  surely_less : (end : Place) (m n : Code) → m.code < n.code → compare_keys a b ≡ Less → Says end m n
  surely_less end m n lt h = (((λ _. h), (λ gt. absurd (omega (arith, gt, lt)))), λ e. absurd (omega (arith, e, lt)))

  surely_greater : (end : Place) (m n : Code) → n.code < m.code → compare_keys a b ≡ Greater → Says end m n
  surely_greater end m n gt h = (((λ lt. absurd (omega (arith, gt, lt))), (λ _. h)), λ e. absurd (omega (arith, e, gt)))

  -- what a digit more says of keys that tie before it
  module _ (frame : Frame) (in_width : frame.cell < width) (tie : TieUpTo frame.cell frame.skip a b) where
    next_known : (v : ℕ) (on : Bool) → IsWord (without_bytes frame.skip (cell a frame.cell)) v → IsWord (without_bytes frame.skip (cell b frame.cell)) v → goes_on frame v ≡ on → Known (next_place frame) on on
    next_known v true x y e = next_tie frame v tie in_width x y e
    next_known v false x y e = tt

    -- a word with its own code is not above one that has this code
    not_own : (v w : ℕ) → v < w → code_of frame v ≡ code_of frame w → (on : Bool) → goes_on frame w ≡ on → on ≡ false
    not_own v w lt e true on =
        let own = (and_parts (has_own_code frame w) (not frame.ends || is_whole w) on).0 in
        absurd (omega (arith, own_least frame w v own (sym e), lt))
    not_own v w lt e false on = refl

  -- two numbers of which one isn't followed by words of its key, or else as is given
  says_if : (frames : List Frame) (start end : Place) → 0 < product frames → (s t m n : Code) → HasRoom frames s → HasRoom frames t → s.code ≡ t.code → (p q : Bool) → s.exact ≡ p → t.exact ≡ q → Known start p q
      → IsNumber frames a s m → IsNumber frames b t n → (s.exact ≡ true → t.exact ≡ true → TieUpTo start.0 start.1 a b → Says end m n) → Says end m n
  says_if frames start end some s t m n rs rt e false false closed_s closed_t known is_m is_n both =
      let up = closed_above frames some a b s t m n rs rt (omega (arith, e)) closed_t is_m is_n in
      let down = closed_above frames some b a t s n m rt rs (omega (arith, e)) closed_s is_n is_m in
      says_nothing end m n (omega (arith, up, down)) (stays_closed frames a s m closed_s is_m) (stays_closed frames b t n closed_t is_n)
  says_if frames start end some s t m n rs rt e true false exact closed h is_m is_n both =
      says_less end m n (closed_above frames some a b s t m n rs rt (omega (arith, e)) closed is_m is_n) (stays_closed frames b t n closed is_n) h
  says_if frames start end some s t m n rs rt e false true closed exact h is_m is_n both =
      says_greater end m n (closed_above frames some b a t s n m rt rs (omega (arith, e)) closed is_n is_m) (stays_closed frames a s m closed is_m) h
  says_if frames start end some s t m n rs rt e true true exact_s exact_t tie is_m is_n both = both exact_s exact_t tie

  says : (frames : List Frame) (start end : Place) → Follow width frames start end → 0 < product frames → (s t m n : Code) → HasRoom frames s → HasRoom frames t → s.code ≡ t.code → s.exact ≡ true → t.exact ≡ true → TieUpTo start.0 start.1 a b
      → IsNumber frames a s m → IsNumber frames b t n → Says end m n
  says [] start end follow some s t m n rs rt e exact_s exact_t tie is_m is_n = (
    ((λ lt. absurd (omega (arith, lt, e, ap (λ (c : Code). c.code) is_m, ap (λ (c : Code). c.code) is_n))), (λ gt. absurd (omega (arith, gt, e, ap (λ (c : Code). c.code) is_m, ap (λ (c : Code). c.code) is_n)))),
    λ _. subst (λ x. Known end x n.exact) (sym (ap (λ (c : Code). c.exact) is_m ∙ exact_s)) (subst (λ y. Known end true y) (sym (ap (λ (c : Code). c.exact) is_n ∙ exact_t)) (subst (λ (at : Place). TieUpTo at.0 at.1 a b) (sym follow) tie)),
  )
  says (frame ∷ frames) start end (at, in_width, follow) some s t m n rs rt e exact_s exact_t tie (d, is_d, is_m) (g, is_g, is_n) =
      by_words (λ p q eq on_s on_t known.
      says_if frames (next_place frame) end some' s' t' m n room_s room_t eq p q on_s on_t known is_m is_n
      (λ open_s open_t ties. says frames (next_place frame) end follow some' s' t' m n room_s room_t eq open_s open_t ties is_m is_n))
      (subst (λ known. IsDigit frame a known d) exact_s is_d) (subst (λ known. IsDigit frame b known g) exact_t is_g)
    where
      s' : Code
      s' = with_digit frame s d

      t' : Code
      t' = with_digit frame t g

      small_d : d.code ≤ last_of frame
      small_d = digit_small frame a s.exact d is_d

      small_g : g.code ≤ last_of frame
      small_g = digit_small frame b t.exact g is_g

      room_s : HasRoom frames s'
      room_s = digit_room frame frames some s d rs small_d

      room_t : HasRoom frames t'
      room_t = digit_room frame frames some t g rt small_g

      some' : 0 < product frames
      some' = some_product frame frames some

      here : TieUpTo frame.cell frame.skip a b
      here = subst (λ (p : Place). TieUpTo p.0 p.1 a b) (sym at) tie

      -- the numbers are as the digits
      below_if : d.code < g.code → s'.code < t'.code
      below_if lt = omega (arith, lt, digit_is frame frames some s d rs small_d, digit_is frame frames some t g rt small_g, ap (λ n. n * frame.codes) e)

      above_if : g.code < d.code → t'.code < s'.code
      above_if gt = omega (arith, gt, digit_is frame frames some s d rs small_d, digit_is frame frames some t g rt small_g, ap (λ n. n * frame.codes) e)

      same_if : d.code ≡ g.code → s'.code ≡ t'.code
      same_if eq = omega (arith, eq, digit_is frame frames some s d rs small_d, digit_is frame frames some t g rt small_g, ap (λ n. n * frame.codes) e)

      if_less : (v w : ℕ) → v < w → d.code ≡ code_of frame v → g.code ≡ code_of frame w → g.exact ≡ goes_on frame w → compare_keys a b ≡ Less → Says end m n
      if_less v w lt code_v code_w on_w h = elim (cases_lt d.code g.code) [
        | inl low ↦ surely_less end m n (numbers_below frames some' a b s' t' m n room_s room_t (below_if low) is_m is_n) h
        | inr high ↦
            let up = code_up frame v w (omega (arith, lt)) in
            let eq : d.code ≡ g.code = omega (arith, high, up, code_v, code_w) in
            let closed : t'.exact ≡ false = on_w ∙ not_own frame in_width here v w lt (sym code_v ∙ eq ∙ code_w) (goes_on frame w) refl in
            says_less end m n (closed_above frames some' a b s' t' m n room_s room_t (omega (arith, same_if eq)) closed is_m is_n) (stays_closed frames b t' n closed is_n) h
      ]

      if_greater : (v w : ℕ) → w < v → d.code ≡ code_of frame v → g.code ≡ code_of frame w → d.exact ≡ goes_on frame v → compare_keys a b ≡ Greater → Says end m n
      if_greater v w gt code_v code_w on_v h = elim (cases_lt g.code d.code) [
        | inl low ↦ surely_greater end m n (numbers_below frames some' b a t' s' n m room_t room_s (above_if low) is_n is_m) h
        | inr high ↦
            let up = code_up frame w v (omega (arith, gt)) in
            let eq : d.code ≡ g.code = omega (arith, high, up, code_v, code_w) in
            let closed : s'.exact ≡ false = on_v ∙ not_own frame in_width here w v gt (sym code_w ∙ sym eq ∙ code_v) (goes_on frame v) refl in
            says_greater end m n (closed_above frames some' b a t' s' n m room_t room_s (omega (arith, same_if eq)) closed is_n is_m) (stays_closed frames a s' m closed is_m) h
      ]

      by_words : ((p q : Bool) → s'.code ≡ t'.code → s'.exact ≡ p → t'.exact ≡ q → Known (next_place frame) p q → Says end m n) → IsDigit frame a true d → IsDigit frame b true g → Says end m n
      by_words more (v, x, code_v, on_v) (w, y, code_w, on_w) = elim (cases_order v w) [
        | inl eq ↦
            more (goes_on frame v) (goes_on frame v) (same_if (code_v ∙ ap (code_of frame) eq ∙ sym code_w)) on_v (on_w ∙ ap (goes_on frame) (sym eq))
            (next_known frame in_width here v (goes_on frame v) x (subst (IsWord (without_bytes frame.skip (cell b frame.cell))) (sym eq) y) refl)
        | inr apart ↦ elim apart [
          | inl lt ↦ if_less v w lt code_v code_w on_w (less_first frame.cell frame.skip v w here x y lt)
          | inr gt ↦ if_greater v w gt code_v code_w on_v (greater_first frame.cell frame.skip v w here x y gt)
        ]
      ]

  by_order : (x y : ℕ) → Orders x y → ordering_then (nat_cmp x y) (compare_keys a b) ≡ compare_keys a b
  by_order x y (low, high) = elim (cases_order x y) [
    | inl eq ↦ ap (λ o. ordering_then o (compare_keys a b)) (same x y eq)
    | inr apart ↦ elim apart [
      | inl lt ↦ ap (λ o. ordering_then o (compare_keys a b)) (less x y lt) ∙ sym (low lt)
      | inr gt ↦ ap (λ o. ordering_then o (compare_keys a b)) (greater x y gt) ∙ sym (high gt)
    ]
  ]

  room_at_first : (frames : List Frame) (known : Bool) → Fit frames → HasRoom frames (none_before known)
  room_at_first frames known fit = omega (arith, fit.1)

  -- the prefixes of two keys decide their order, if they differ
  pub frames_first : (frames : Frames) → AreFrames width frames → (p q : SortPrefix) → IsFramePrefix frames a p → IsFramePrefix frames b q → ordering_then (compare_prefixes p q) (compare_keys a b) ≡ compare_keys a b
  frames_first frames valid p q of_a of_b =
      let high = says frames.high.items (0, 0) valid.middle valid.high valid.high_fit.0 (none_before true) (none_before true) of_a.high of_b.high (room_at_first frames.high.items true valid.high_fit) (room_at_first frames.high.items true valid.high_fit)
      refl refl refl (tie_whole a b) of_a.high_is of_b.high_is in
      let low : of_a.high.code ≡ of_b.high.code → Says valid.end of_a.low of_b.low = λ e.
      let room_a = room_at_first frames.low.items of_a.high.exact valid.low_fit in
      let room_b = room_at_first frames.low.items of_b.high.exact valid.low_fit in
      says_if frames.low.items valid.middle valid.end valid.low_fit.0 (none_before of_a.high.exact) (none_before of_b.high.exact) of_a.low of_b.low room_a room_b refl of_a.high.exact of_b.high.exact refl refl (high.1 e) of_a.low_is of_b.low_is
      (λ open_a open_b tie. says frames.low.items valid.middle valid.end valid.low valid.low_fit.0 (none_before of_a.high.exact) (none_before of_b.high.exact) of_a.low of_b.low room_a room_b refl open_a open_b tie of_a.low_is of_b.low_is) in
      (λ i. ordering_then (compare_prefixes (of_a.prefix_is i) (of_b.prefix_is i)) (compare_keys a b))
      ∙ one_by_one (nat_cmp of_a.high.code of_b.high.code) (nat_cmp of_a.low.code of_b.low.code) (compare_keys a b) (by_order of_a.high.code of_b.high.code high.0)
      (λ e. by_order of_a.low.code of_b.low.code (low (tied of_a.high.code of_b.high.code e)).0)
