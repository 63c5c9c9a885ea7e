-- Bytes that are read into a buffer after others.
use Rattle.std.proofs.Common.{◌≡◌, ℕ, ◌+◌, ◌-◌, ◌≤◌, Bool, true, false, List, [], ◌++◌, length, take, drop, Option, Some, None, refl, sym, ap, subst, ◌∙◌, arith, append_assoc, length-append, length-drop}
use Rattle.std.proofs.lemmas.List.{take-append-le, length-take-le, take-append-drop, drop-take, drop-drop}
use Rattle.std.proofs.Math.Seq.{take-append-add}
use Rattle.std.specs.Prelude.{slice_range, IfSome}
use Rattle.std.specs.Io.KnownBytes.{Consumes, Keeps}
use Rattle.gq_script.specs.Script.{Takes, given_with_mark, waiting}
use borrow.Rule.Slice.PartMut.{put_mid, same_len_mid, mid_of, post_of}

abbrev pub Known : Type 0
Known = Option (List ℕ)

pub consumes_more : (before now after : Known) (xs ys : List ℕ) → Consumes before now xs → Consumes now after ys → Consumes before after (xs ++ ys)
consumes_more None now after xs ys h k = tt
consumes_more (Some b) None after xs ys h k = absurd h
consumes_more (Some b) (Some n) None xs ys h k = absurd k
consumes_more (Some b) (Some n) (Some a) xs ys h k = h ∙ ap (λ (l : List ℕ). xs ++ l) k ∙ sym (append_assoc xs ys a)

-- the count of bytes given rises by this many, where the bytes are known
abbrev pub Rises : Known → ℕ → ℕ → ℕ → Type 0
Rises known before after n = IfSome known (λ _. after ≡ before + n)

pub rises_none : (known : Known) (g : ℕ) → Rises known g g 0
rises_none None g = tt
rises_none (Some xs) g = omega arith

pub rises_more : (before now after : Known) (xs ys : List ℕ) (g h k : ℕ) → Consumes before now xs → Consumes now after ys → Rises before g h (length xs) → Rises now h k (length ys) → Rises before g k (length (xs ++ ys))
rises_more None now after xs ys g h k c d r s = tt
rises_more (Some b) None after xs ys g h k c d r s = absurd c
rises_more (Some b) (Some n) after xs ys g h k c d r s = omega (arith, length-append xs ys)

pub keeps_then : (before now after : Known) (xs : List ℕ) → Keeps before now → Consumes now after xs → Consumes before after xs
keeps_then None now after xs h k = tt
keeps_then (Some b) None after xs h k = absurd h
keeps_then (Some b) (Some n) None xs h k = absurd k
keeps_then (Some b) (Some n) (Some a) xs h k = sym h ∙ k

pub record Filled (old new : Known) (len : ℕ) (bytes : List ℕ) : Type 0 where
  pub within : len ≤ length bytes
  pub size : 4 ≤ length bytes
  pub read : Consumes old new (take len bytes)

pub filled : (len count : ℕ) (b sub : List ℕ) (old mid new : Known) → len ≤ length b → 4 ≤ length b → length sub ≡ length (mid_of len (length b - len) b) → count ≤ length sub → Consumes old mid (take len b) → Consumes mid new (take count sub)
    → Filled old new (len + count) (put_mid len (length b - len) b sub)
filled len count b sub old mid new le four same fits first more =
    let size : length (put_mid len (length b - len) b sub) ≡ length b = same_len_mid len (length b - len) b sub same in
    let front : length (take len b) ≡ len = length-take-le len b le in
    let post = post_of len (length b - len) b in
    let text : take (len + count) (put_mid len (length b - len) b sub) ≡ take len b ++ take count sub =
    ap (λ (n : ℕ). take (n + count) (take len b ++ (sub ++ post))) (sym front) ∙ take-append-add (take len b) (sub ++ post) count ∙ ap (λ (l : List ℕ). take len b ++ l) (take-append-le count sub post fits) in
    record {
      within = omega (arith, length-append (take len b) (sub ++ post), length-append sub post);
      size = omega arith;
      read = subst (Consumes old new) (sym text) (consumes_more old mid new (take len b) (take count sub) first more);
    }

-- the first n bytes of a part
parted : (xs : List ℕ) (i n j : ℕ) → i + n ≤ j → slice_range xs i j ≡ take n (slice_range xs i j) ++ slice_range xs (i + n) j
parted xs i n j le =
    let m = j - (i + n) in
    let k : j - i ≡ n + m = omega arith in
    let rest : drop n (slice_range xs i j) ≡ slice_range xs (i + n) j = ap (λ (t : ℕ). drop n (take t (drop i xs))) k ∙ drop-take n m (drop i xs) ∙ ap (take m) (drop-drop n i xs) in
    sym (take-append-drop n (slice_range xs i j)) ∙ ap (λ (l : List ℕ). take n (slice_range xs i j) ++ l) rest

consumed : (known : Known) (whole front rest : List ℕ) → whole ≡ front ++ rest → Consumes (waiting true whole known) (waiting true rest known) front
consumed None whole front rest e = tt
consumed (Some ys) whole front rest e = ap (λ (l : List ℕ). l ++ ys) e ∙ append_assoc front rest ys

part_length : (xs : List ℕ) (i j : ℕ) → j ≤ length xs → length (slice_range xs i j) ≡ j - i
part_length xs i j le = length-take-le (j - i) (drop i xs) (omega (arith, length-drop i xs))

-- the first bytes of those that were read ahead
pub passes : (mark : Bool) (now : List ℕ) (s e n g l : ℕ) (known : Known) → n ≤ length (slice_range now s e) → s ≤ e → e ≤ length now → (mark ≡ false → (s ≡ e) × (g ≡ 0))
    → Takes (record { left = waiting mark (slice_range now s e) known; given = given_with_mark mark g known; lines = l; ahead = slice_range now s e })
    (record { left = waiting mark (slice_range now (s + n) e) known; given = given_with_mark mark (g + n) known; lines = l; ahead = slice_range now (s + n) e }) (take n (slice_range now s e))
passes true now s e n g l known few le in_range first =
    let len = part_length now s e in_range in
    let front : length (take n (slice_range now s e)) ≡ n = length-take-le n (slice_range now s e) few in
    record {
      bytes_are = consumed known (slice_range now s e) (take n (slice_range now s e)) (slice_range now (s + n) e) (parted now s n e (omega arith));
      counted = rises (waiting true (slice_range now s e) known) (length (take n (slice_range now s e))) front;
    }
  where
    rises : (k : Known) (m : ℕ) → m ≡ n → Rises k g (g + n) m
    rises None m is = tt
    rises (Some xs) m is = omega arith
passes false now s e n g l known few le in_range first =
    let len = part_length now s e in_range in
    let same : s ≡ e = (first refl).0 in
    let none : n ≡ 0 = omega arith in
    let empty : take n (slice_range now s e) ≡ [] = ap (λ (m : ℕ). take m (slice_range now s e)) none in
    rw empty (record { bytes_are = unchanged known; counted = rises known none })
  where
    unchanged : (k : Known) → Consumes (waiting false [] k) (waiting false [] k) []
    unchanged None = tt
    unchanged (Some xs) = refl

    rises : (k : Known) → n ≡ 0 → Rises (waiting false [] k) (given_with_mark false g k) (given_with_mark false (g + n) k) 0
    rises None is = tt
    rises (Some xs) is = omega arith
