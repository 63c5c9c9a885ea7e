-- One step, and then the next.
use Rattle.std.proofs.Common.{◌≡◌, Bool, true, false, refl, ap, Option, Some, None}
use Rattle.std.specs.Prelude.{Result, Ok, Err}
use Rattle.std.specs.Option.{ok_or}
use Rattle.gq_reply.specs.declared.refusal.Refusal.{Refusal}
use Rattle.gq_reply.specs.declared.refusal.Refused.{Refused}
use Rattle.gq_reply.specs.Outcomes.{◌>>=◌, some_or, true_or}
use Rattle.gq_reply.specs.Refusals.{unnumbered}

pub passes : {B : Type 0} (why : Refusal) (b : Bool) (f : Unit {0} → Result B Refused) → b ≡ true → (true_or why b >>= f) ≡ f tt
passes why b f e = ap (λ b. true_or why b >>= f) e

pub fails : {B : Type 0} (why : Refusal) (b : Bool) (f : Unit {0} → Result B Refused) → b ≡ false → (true_or why b >>= f) ≡ Err (unnumbered why)
fails why b f e = ap (λ b. true_or why b >>= f) e

pub finds : {A B : Type 0} (why : Refusal) (o : Option A) (x : A) (f : A → Result B Refused) → o ≡ Some x → (some_or why o >>= f) ≡ f x
finds why o x f e = ap (λ o. some_or why o >>= f) e

pub misses : {A B : Type 0} (why : Refusal) (o : Option A) (f : A → Result B Refused) → o ≡ None → (some_or why o >>= f) ≡ Err (unnumbered why)
misses why o f e = ap (λ o. some_or why o >>= f) e

pub gives : {A B : Type 0} (m : Result A Refused) (x : A) (f : A → Result B Refused) → m ≡ Ok x → (m >>= f) ≡ f x
gives m x f e = ap (λ m. m >>= f) e

pub stops : {A B : Type 0} (m : Result A Refused) (why : Refused) (f : A → Result B Refused) → m ≡ Err why → (m >>= f) ≡ Err why
stops m why f e = ap (λ m. m >>= f) e

-- an error that means something missing
pub missed : {X E : Type 0} (o : Option X) (e why : E) → Err e ≡ ok_or o why → (o ≡ None) × (e ≡ why)
missed None e why h = let it : e ≡ why = cc in (refl, it)
missed (Some x) e why h = let none : ⊥ = cc in absurd none
