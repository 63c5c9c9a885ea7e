-- What was found for names.
use Rattle.std.proofs.Common.{◌≡◌, ◌⊎◌, ◌∙◌, inl, inr, sym, ap, Option, Some, None}
use Rattle.std.specs.Prelude.{Result, Ok, Err, IfOk}
use Rattle.std.specs.declared.alloc.AllocError.{AllocError}
use Rattle.gq_reply.specs.declared.refusal.Refusal.TheVariants.{Memory, NoColumn}
use Rattle.gq_reply.specs.declared.refusal.Refused.{Refused}
use Rattle.gq_reply.specs.Refusals.{unnumbered}
use Rattle.gq_plan.specs.Plans.{or_no_column}

-- it is what there is
pub is-found : {A : Type 0} (found : Result (Option A) AllocError) (is : Option A) (x : A) → IfOk found (λ o. o ≡ is) → Ok x ≡ or_no_column found → is ≡ Some x
is-found (Ok (Some y)) is x h e = let same : x ≡ y = cc in sym h ∙ ap (λ z. Some z) (sym same)
is-found (Ok None) is x h e = let none : ⊥ = cc in absurd none
is-found (Err a) is x h e = let none : ⊥ = cc in absurd none

-- a refusal is Memory, or says what is missing
pub not-found : {A B : Type 0} (found : Result (Option A) AllocError) (is : Option A) (why : Refused) (whole : Result B Refused) → IfOk found (λ o. o ≡ is) → Err why ≡ or_no_column found
    → (is ≡ None → whole ≡ Err (unnumbered NoColumn)) → (why ≡ unnumbered Memory) ⊎ (whole ≡ Err why)
not-found (Ok (Some y)) is why whole h e then = let none : ⊥ = cc in absurd none
not-found (Ok None) is why whole h e then = let same : why ≡ unnumbered NoColumn = cc in inr (then (sym h) ∙ ap (λ w. Err w) (sym same))
not-found (Err a) is why whole h e then = let same : why ≡ unnumbered Memory = cc in inl same
