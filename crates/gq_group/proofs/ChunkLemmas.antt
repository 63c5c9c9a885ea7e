-- The parts of a list that groups have, after others were appended or one of them changed.
use Rattle.std.proofs.Common.{◌≡◌, ℕ, ◌+◌, ◌-◌, ◌≤◌, List, [], ◌∷◌, ◌++◌, length, take, drop, map, refl, sym, ap, subst, ◌∙◌, arith, inl, inr}
use Rattle.std.specs.List.{AllByRecursion}
use Rattle.std.proofs.Common.{length-append}
use Rattle.std.proofs.lemmas.List.{take_all, take_at, drop_at, take-append-le, drop-append-le, drop-take, length-take-le, length-drop}
use Rattle.std.proofs.lemmas.Slice.{take-put_mid_below, drop-put_mid, between-put_mid}
use borrow.Rule.Slice.PartMut.{put_mid}
use Rattle.gq_agg.specs.Running.{Running}
use Rattle.gq_group.specs.Maps.{Start, chunk, pair_at, NoneShared}

-- what follows the end doesn't matter
pub chunk-append : {X : Type 0} (each n : ℕ) (xs ys : List X) → n + each ≤ length xs → chunk each (xs ++ ys) n ≡ chunk each xs n
chunk-append each n xs ys h =
    let long = length-drop n xs in
    ap (take each) (drop-append-le n xs ys (omega (arith, h))) ∙ take-append-le each (drop n xs) ys (omega (arith, h, long))

-- what was appended follows the others
pub chunk-last : {X : Type 0} (each : ℕ) (xs ys : List X) → length ys ≡ each → chunk each (xs ++ ys) (length xs) ≡ ys
chunk-last each xs ys long = ap (take each) (drop_at xs ys (length xs) refl) ∙ take_all each ys (omega (arith, long))

-- ---- one part changed

module _ {X : Type 0} (each a k : ℕ) (xs ys : List X) where
  pub length-put : k ≡ each → length ys ≡ each → a + each ≤ length xs → length (put_mid a k xs ys) ≡ length xs
  length-put is long within =
      let front = length-take-le a xs (omega (arith, within)) in
      let rest = length-drop a xs in
      let behind = length-drop k (drop a xs) in
      let both = length-append ys (drop k (drop a xs)) in
      let all = length-append (take a xs) (ys ++ drop k (drop a xs)) in
      omega (arith, is, long, within, front, rest, behind, both, all)

  pub chunk-here : k ≡ each → length ys ≡ each → a + each ≤ length xs → chunk each (put_mid a k xs ys) a ≡ ys
  chunk-here is long within =
      let most : a ≤ length xs = omega (arith, within) in
      let size : length ys ≡ a + each - a = omega (arith, long) in
      let plain : each ≡ a + each - a = omega arith in
      ap (λ n. take n (drop a (put_mid a k xs ys))) plain ∙ between-put_mid a k xs ys (a + each) most size

  pub chunk-other : (t : ℕ) → k ≡ each → length ys ≡ each → a + each ≤ length xs → NoneShared each a t → chunk each (put_mid a k xs ys) t ≡ chunk each xs t
  chunk-other t is long within (inl behind) = ap (take each) (drop-put_mid a k xs ys t (omega (arith, is, behind)) (omega (arith, within)) (long ∙ sym is))
  chunk-other t is long within (inr before) =
      sym (drop-take t each (put_mid a k xs ys))
      ∙ ap (drop t) (take-put_mid_below a k xs ys (t + each) before (omega (arith, within)))
      ∙ drop-take t each xs

pub length-chunk : {X : Type 0} (each n : ℕ) (xs : List X) → n + each ≤ length xs → length (chunk each xs n) ≡ each
length-chunk each n xs within = let rest = length-drop n xs in length-take-le each (drop n xs) (omega (arith, rest, within))

-- a list that was written back keeps its length
pub length-back : {X : Type 0} (size : ℕ) (old new : List X) → size ≡ length old → length (take size (new ++ drop (length new) old)) ≡ length old
length-back size old new sized =
    let both = length-append new (drop (length new) old) in
    let rest = length-drop (length new) old in
    length-take-le size (new ++ drop (length new) old) (omega (arith, both, rest, sized)) ∙ sized

-- a list that was borrowed, and written back with another part
abbrev pub back : {X : Type 0} → ℕ → ℕ → ℕ → List X → List X → List X → List X
back n k size old lent now = take size (put_mid n k lent now ++ drop (length (put_mid n k lent now)) old)

-- a list in which a part was written
pub record Written {X : Type 0} (each n : ℕ) (old new now : List X) : Type 0 where
  pub long : length new ≡ length old
  pub here : chunk each new n ≡ now
  pub others : (t : ℕ) → NoneShared each n t → chunk each new t ≡ chunk each old t

pub written : {X : Type 0} (each n k size : ℕ) (old lent now : List X) → k ≡ each → lent ≡ old → size ≡ length old → n + each ≤ length old → length now ≡ each
    → Written each n old (back n k size old lent now) now
written each n k size old lent now is same sized within long =
    let within' : n + each ≤ length lent = subst (λ l. n + each ≤ length l) (sym same) within in
    let size_is : length (put_mid n k lent now) ≡ size = length-put each n k lent now is long within' ∙ ap length same ∙ sym sized in
    let whole : put_mid n k lent now ≡ back n k size old lent now
    = sym (take_at (put_mid n k lent now) (drop (length (put_mid n k lent now)) old) size size_is) in
    subst (λ new. Written each n old new now) whole (record {
      long = size_is ∙ sized;
      here = chunk-here each n k lent now is long within';
      others = λ t apart. chunk-other each n k lent now t is long within' apart ∙ ap (λ l. chunk each l t) same;
    })

-- the groups that share no place with it have what they had
pub pairs-other : (each n : ℕ) (old new now : List Running) (starts : List Start) → Written each n old new now → AllByRecursion (λ (t : Start). NoneShared each n t.1) starts
    → map (pair_at each new) starts ≡ map (pair_at each old) starts
pairs-other each n old new now [] put apart = refl
pairs-other each n old new now (t ∷ starts) put apart = λ i. (t.0, put.others t.1 apart.0 i) ∷ pairs-other each n old new now starts put apart.1 i
