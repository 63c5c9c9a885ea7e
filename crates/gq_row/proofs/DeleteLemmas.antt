-- What a delete takes away, and what it leaves.
use Rattle.std.proofs.Common.{◌≡◌, ℕ, Bool, true, false, cond, not, List, [], ◌∷◌, refl, sym, ap, ◌∙◌}
use Rattle.gq_row.specs.declared.value.Value.{Value}
use Rattle.gq_row.specs.Order.{same_key}
use Rattle.gq_row.specs.Rows.{key_of}
use Rattle.gq_row.specs.Tables.{delete, of_key}
use Rattle.gq_row.proofs.OrderLemmas.{same_key_exact}

pub delete-gone : (key : List ℕ) (rows : List (List Value)) (k : List Value) → of_key key (delete key rows k) k ≡ []
delete-gone key [] k = refl
delete-gone key (row ∷ rows) k = step (same_key (key_of key row) k) refl (delete-gone key rows k)
  where
    step : (b : Bool) → same_key (key_of key row) k ≡ b → of_key key (delete key rows k) k ≡ [] → of_key key (cond (not b) (row ∷ delete key rows k) (delete key rows k)) k ≡ []
    step true e h = h
    step false e h = ap (λ b. cond b (row ∷ of_key key (delete key rows k) k) (of_key key (delete key rows k) k)) e ∙ h

pub delete-others : (key : List ℕ) (rows : List (List Value)) (k other : List Value) → same_key k other ≡ false → of_key key (delete key rows k) other ≡ of_key key rows other
delete-others key [] k other apart = refl
delete-others key (row ∷ rows) k other apart = step (same_key (key_of key row) k) refl (delete-others key rows k other apart)
  where
    step : (b : Bool) → same_key (key_of key row) k ≡ b → of_key key (delete key rows k) other ≡ of_key key rows other
        → of_key key (cond (not b) (row ∷ delete key rows k) (delete key rows k)) other ≡ cond (same_key (key_of key row) other) (row ∷ of_key key rows other) (of_key key rows other)
    step true e h =
        h
        ∙ sym (ap (λ c. cond c (row ∷ of_key key rows other) (of_key key rows other)) (ap (λ l. same_key l other) (same_key_exact (key_of key row) k e) ∙ apart))
    step false e h = ap (λ l. cond (same_key (key_of key row) other) (row ∷ l) l) h
