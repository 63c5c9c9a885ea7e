-- Outcomes: the steps of a command, of which the first that fails is its refusal.
use Rattle.std.specs.Prelude.{Bool, true, false, Option, Some, None, Result, Ok, Err}
use Rattle.gq_reply.specs.declared.refusal.Refusal.{Refusal}
use Rattle.gq_reply.specs.declared.refusal.Refused.{Refused}
use Rattle.gq_reply.specs.Refusals.{unnumbered}

-- one step, and then the next with its result
infixl 10 ◌>>=◌
abbrev pub ◌>>=◌ : {A B : Type 0} → Result A Refused → (A → Result B Refused) → Result B Refused
(Ok x) >>= f = f x
(Err why) >>= f = Err why

-- the value, or this refusal if there is none
abbrev pub some_or : {A : Type 0} → Refusal → Option A → Result A Refused
some_or why None = Err (unnumbered why)
some_or why (Some x) = Ok x

-- nothing if the test holds, or else this refusal
abbrev pub true_or : Refusal → Bool → Result (Unit {0}) Refused
true_or why false = Err (unnumbered why)
true_or why true = Ok tt
