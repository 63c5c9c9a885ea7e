-- Bytes without a line end.
use Rattle.std.proofs.Common.{◌≡◌, ℕ, ◌==◌, Bool, true, false, List, [], ◌∷◌, refl, sym, ap, ◌∙◌}
use Rattle.std.specs.Prelude.{◌||◌, ◌&&◌, not}
use Rattle.std.specs.List.{list_all, list_any}
use Rattle.gq_script.specs.Payloads.{is_plain}

pub plain-all : (bytes : List ℕ) → list_any (λ y. y == 10) bytes ≡ false → list_all is_plain bytes ≡ true
plain-all [] e = refl
plain-all (b ∷ bs) e = by-byte (b == 10) refl (plain-all bs)
  where
    by-byte : (t : Bool) → (b == 10) ≡ t → (list_any (λ y. y == 10) bs ≡ false → list_all is_plain bs ≡ true) → list_all is_plain (b ∷ bs) ≡ true
    by-byte true f next = let bad : true ≡ false = sym (ap (λ (t : Bool). t || list_any (λ y. y == 10) bs) f) ∙ e in absurd cc
    by-byte false f next =
        let rest : list_any (λ y. y == 10) bs ≡ false = sym (ap (λ (t : Bool). t || list_any (λ y. y == 10) bs) f) ∙ e in
        ap (λ (t : Bool). not t && list_all is_plain bs) f ∙ next rest
