-- Places that are emptied into a list, one after the other.
use Rattle.std.proofs.Common.{◌≡◌, ℕ, ◌+◌, ◌<◌, ◌≤◌, List, [], ◌∷◌, ◌++◌, length, drop, set, get_or, Option, Some, None, sym, ap, ◌∙◌, arith, append_assoc}
use Rattle.std.proofs.lemmas.List.{append-nil, drop-set-lt}
use Rattle.sw_table.specs.Walks.{filled}
use Rattle.sw_table.proofs.Filled.{filled_on}

module _ {X : Type 0} where
  -- the list of n items, with space for cap, has what the places have lost
  pub record IsCollecting (s0 s : List (Option X)) (items : List X) (n cap : ℕ) : Type 0 where
    pub split : items ++ filled s ≡ filled s0
    pub space : n + length (filled s) ≤ cap

  pub space_left : (s0 s s' : List (Option X)) (items : List X) (n cap : ℕ) (x : X) → IsCollecting s0 s items n cap → filled s ≡ x ∷ filled s' → n < cap
  space_left s0 s s' items n cap x d taken = let e = ap length taken in let f = d.space in omega (arith, e, f)

  pub collected_on : (s0 s s' : List (Option X)) (items items' : List X) (n n' cap cap' : ℕ) (x : X) → IsCollecting s0 s items n cap → filled s ≡ x ∷ filled s'
      → items' ≡ items ++ x ∷ [] → n' ≡ n + 1 → cap ≤ cap' → IsCollecting s0 s' items' n' cap'
  collected_on s0 s s' items items' n n' cap cap' x d taken added counted kept =
      let l = ap length taken in
      let f = d.space in
      record {
        split = ap (λ xs. xs ++ filled s') added ∙ append_assoc items (x ∷ []) (filled s') ∙ sym (ap (λ r. items ++ r) taken) ∙ d.split;
        space = omega (arith, l, f, counted, kept);
      }

  pub fewer_left : (s s' : List (Option X)) (x : X) → filled s ≡ x ∷ filled s' → length (filled s') < length (filled s)
  fewer_left s s' x taken = let e = ap length taken in omega (arith, e)

  -- where nothing is left, the list has all
  pub collected : (s0 s : List (Option X)) (items : List X) (n cap : ℕ) → IsCollecting s0 s items n cap → filled s ≡ [] → items ≡ filled s0
  collected s0 s items n cap d none = sym (append-nil items) ∙ sym (ap (λ r. items ++ r) none) ∙ d.split

  pub fewer_filled : (s : List (Option X)) (from i : ℕ) (x : X) → from ≤ i → ((j : ℕ) → from ≤ j → j < i → get_or s j None ≡ None) → get_or s i None ≡ Some x
      → length (filled (drop (i + 1) s)) < length (filled (drop from s))
  fewer_filled s from i x le none here = let e = ap length (filled_on s from i x le none here) in omega (arith, e)

  pub fewer_emptied : (s : List (Option X)) (from i : ℕ) (x : X) → from ≤ i → ((j : ℕ) → from ≤ j → j < i → get_or s j None ≡ None) → get_or s i None ≡ Some x
      → length (filled (drop (i + 1) (set s i None))) < length (filled (drop from s))
  fewer_emptied s from i x le none here =
      let e = ap length (filled_on s from i x le none here) in
      let f = ap (λ (r : List (Option X)). length (filled r)) (drop-set-lt (i + 1) s i None (omega arith)) in
      omega (arith, e, f)
