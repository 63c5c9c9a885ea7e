-- The texts of rows, one after the other.
use Rattle.std.proofs.Common.{◌≡◌, ◌+◌, ◌<◌, ℕ, List, [], ◌∷◌, ◌++◌, length, take, get_or, sym, ap, ◌∙◌, append_assoc}
use Rattle.std.specs.Prelude.{flat_map}
use Rattle.std.proofs.lemmas.List.{append-nil, take_more}

pub flat_map-push : {X : Type 0} (f : X → List ℕ) (xs : List X) (x : X) → flat_map f (xs ++ x ∷ []) ≡ flat_map f xs ++ f x
flat_map-push f [] x = append-nil (f x)
flat_map-push f (y ∷ ys) x = ap (λ l. f y ++ l) (flat_map-push f ys x) ∙ sym (append_assoc (f y) (flat_map f ys) (f x))

-- the text so far, with that of one more row
pub one_more_text : {X : Type 0} (f : X → List ℕ) (front : List ℕ) (rows : List X) (i : ℕ) (row : X) (last : List ℕ) → i < length rows → row ≡ get_or rows i row → last ≡ f row
    → (front ++ flat_map f (take i rows)) ++ last ≡ front ++ flat_map f (take (i + 1) rows)
one_more_text f front rows i row last lt is e =
    append_assoc front (flat_map f (take i rows)) last
    ∙ ap (λ l. front ++ l) (ap (λ l. flat_map f (take i rows) ++ l) (e ∙ ap f is) ∙ sym (flat_map-push f (take i rows) (get_or rows i row)) ∙ ap (flat_map f) (sym (take_more rows i row lt)))
