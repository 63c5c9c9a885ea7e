-- A word looked up in a table, entry by entry.
use Rattle.std.proofs.Common.{◌≡◌, ℕ, ◌+◌, ◌<◌, Bool, true, false, cond, List, Some, length, drop, get_or, map, refl, sym, ap, ◌∙◌, add-one, drop-cons}
use Rattle.std.proofs.lemmas.Slice.Eq.{bytes_eq-Decides}
use Rattle.std.specs.Prelude.{bytes_eq, IsTrue}
use Rattle.gq_token.specs.declared.token.Terminal.{Terminal}
use Rattle.gq_token.specs.Texts.{Bytes}
use Rattle.gq_token.specs.Lexing.{lookup_word}

pub told : (r : Bool) (p q : Bytes) → (IsTrue r → p ≡ q) × (p ≡ q → IsTrue r) → bytes_eq p q ≡ r
told true p q h = (bytes_eq-Decides p q).1 (h.0 refl)
told false p q h = by_test (bytes_eq p q) refl
  where
    by_test : (t : Bool) → bytes_eq p q ≡ t → bytes_eq p q ≡ false
    by_test true e = let f : false ≡ true = h.1 ((bytes_eq-Decides p q).0 e) in absurd cc
    by_test false e = e

module _ {A : Type 0} (f : A → Bytes × Terminal) (w : Bytes) where
  at_entry : (xs : List A) (i : ℕ) (x : A) → i < length xs → lookup_word (map f (drop i xs)) w ≡ cond (bytes_eq w (f (get_or xs i x)).0) (Some (f (get_or xs i x)).1) (lookup_word (map f (drop (i + 1) xs)) w)
  at_entry xs i x lt = ap (λ (ys : List A). lookup_word (map f ys) w) (drop-cons xs i x lt) ∙ rw add-one refl

  pub found : (xs : List A) (i : ℕ) (x : A) → i < length xs → bytes_eq w (f (get_or xs i x)).0 ≡ true → Some (f (get_or xs i x)).1 ≡ lookup_word (map f (drop i xs)) w
  found xs i x lt e = sym (at_entry xs i x lt ∙ ap (λ (b : Bool). cond b (Some (f (get_or xs i x)).1) (lookup_word (map f (drop (i + 1) xs)) w)) e)

  pub passed : (xs : List A) (i : ℕ) (x : A) → i < length xs → bytes_eq w (f (get_or xs i x)).0 ≡ false → lookup_word (map f (drop (i + 1) xs)) w ≡ lookup_word (map f (drop i xs)) w
  passed xs i x lt e = sym (at_entry xs i x lt ∙ ap (λ (b : Bool). cond b (Some (f (get_or xs i x)).1) (lookup_word (map f (drop (i + 1) xs)) w)) e)
