-- Two lists that are compared from the left, where one has ended.
use Rattle.std.proofs.Common.{◌≡◌, ◌<◌, ◌≤◌, ℕ, List, length, drop, Ordering, Less, Greater}
use Rattle.std.specs.Cmp.Lexicographic.{slice_cmp}
use Rattle.std.proofs.lemmas.List.{drop_more, drop_all}

module _ {X : Type 0} (order : X → X → Ordering) (d : X) where
  pub longer : (a b : List X) (i : ℕ) → i < length a → length b ≤ i → slice_cmp order (drop i a) (drop i b) ≡ slice_cmp order a b → Greater ≡ slice_cmp order a b
  longer a b i more done rest = rw (drop_more a i d more, drop_all i b done) at rest

  pub shorter : (a b : List X) (i : ℕ) → i < length b → length a ≤ i → slice_cmp order (drop i a) (drop i b) ≡ slice_cmp order a b → Less ≡ slice_cmp order a b
  shorter a b i more done rest = rw (drop_more b i d more, drop_all i a done) at rest
