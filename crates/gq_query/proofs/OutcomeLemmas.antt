-- How queries end, at each exit path.
use Rattle.std.proofs.Common.{◌≡◌, Result, Ok, Err, List, Option, None, IsTrue, sym, subst, ap, ◌∙◌, arith}
use Rattle.std.specs.Prelude.{IsErrAnd}
use Rattle.gq_row.specs.declared.value.Value.{Value}
use Rattle.gq_spill.specs.Runs.{Runs}
use Rattle.gq_group.specs.Access.{LeavesOthers, HasCause, GroupCause}
use Rattle.gq_group.specs.declared.grouping.Spent.{Spent}
use Rattle.gq_group.proofs.AccessLemmas.{leaves-trans}
use Rattle.gq_group.specs.declared.refusal.Refusal.{Refusal}
use Rattle.gq_group.specs.declared.refusal.Refusal.TheVariants.{SumRange, Memory, StoreFault, Damaged}
use Rattle.gq_query.specs.Outcomes.{Answered, Found, Grouped}
use Rattle.gq_query.specs.Sources.{no_runs}

-- a result is the refusal that `?` passes on
passed : {T : Type 0} (why : Refusal) (result : Result T Refusal) → IsErrAnd result (λ w. w ≡ why) → result ≡ Err why
passed why (Ok x) is = absurd is
passed why (Err w) is = ap Err is

-- a cause after earlier steps
cause_after : (why : Refusal) (first old new : Runs) → LeavesOthers no_runs no_runs first old → GroupCause why old new → GroupCause why first new
cause_after SumRange first old new before cause = tt
cause_after Memory first old new before cause = tt
cause_after StoreFault first old new before cause = omega (arith, before.no_fewer_failures, cause)
cause_after Damaged first old new before cause = λ honest. cause (before.same_honest ∙ honest)

-- a cause of a query without sums
plain_cause : (why : Refusal) (old new : Runs) → HasCause why old new → GroupCause why old new
plain_cause SumRange old new cause = tt
plain_cause Memory old new cause = tt
plain_cause StoreFault old new cause = cause
plain_cause Damaged old new cause = cause

-- a grouping that succeeds
pub grouped_ok : {T : Type 0} {old new : Runs} {x : T} {IsRight IsWork : T → Type 0} {IsOutOfRange : Type 0}
    → (IsTrue old.honest → IsRight x) → (IsTrue old.honest → IsWork x) → LeavesOthers no_runs no_runs old new → Grouped old new (Ok x) IsRight IsWork IsOutOfRange
grouped_ok right work others = record { found = right; spent = work; overflow = λ h e. let none : ⊥ = cc in absurd none; others = others; cause = tt }

-- a refusal of an earlier step, passed on
pub grouped_passed : {T U : Type 0} {old new : Runs} {why : Refusal} {WasRight WasWork : T → Type 0} {IsRight IsWork : U → Type 0} {WasOutOfRange IsOutOfRange : Type 0}
    → (result : Result U Refusal) → IsErrAnd result (λ w. w ≡ why) → (WasOutOfRange → IsOutOfRange) → Grouped old new (Err why) WasRight WasWork WasOutOfRange → Grouped old new result IsRight IsWork IsOutOfRange
grouped_passed {U = U} {old = old} {new = new} {why = why} {IsRight = IsRight} {IsWork = IsWork} {IsOutOfRange = IsOutOfRange} result is range h =
    subst (λ (r : Result U Refusal). Grouped old new r IsRight IsWork IsOutOfRange) (sym (passed why result is))
    (record {
      found = λ honest. tt;
      spent = λ honest. tt;
      overflow = λ honest e. let same : why ≡ SumRange = cc in range (h.overflow honest (ap Err same));
      others = h.others;
      cause = h.cause;
    })

-- a refusal of a query without sums, after a grouping
pub grouped_after : {T U : Type 0} {first old new : Runs} {why : Refusal} {WasRight : T → Type 0} {IsRight IsWork : U → Type 0} {IsOutOfRange : Type 0}
    → (result : Result U Refusal) → IsErrAnd result (λ w. w ≡ why) → LeavesOthers no_runs no_runs first old → Found old new (Err why) WasRight → Grouped first new result IsRight IsWork IsOutOfRange
grouped_after {U = U} {first = first} {old = old} {new = new} {why = why} {IsRight = IsRight} {IsWork = IsWork} {IsOutOfRange = IsOutOfRange} result is before h =
    subst (λ (r : Result U Refusal). Grouped first new r IsRight IsWork IsOutOfRange) (sym (passed why result is))
    (record {
      found = λ honest. tt;
      spent = λ honest. tt;
      overflow = λ honest e. let same : why ≡ SumRange = cc in absurd (subst (λ (w : Refusal). HasCause w old new) same h.cause);
      others = leaves-trans no_runs no_runs no_runs first old new before h.others;
      cause = cause_after why first old new before (plain_cause why old new h.cause);
    })

-- a refusal of one grouping, after earlier ones
pub answered_passed : {T : Type 0} {first old new : Runs} {why : Refusal} {WasRight WasWork : T → Type 0} {WasOutOfRange : Type 0} {answer : Option (List (List Value))} {IsWork : Spent → Type 0}
    → (result : Result (List (List Value) × Spent) Refusal) → IsErrAnd result (λ w. w ≡ why) → LeavesOthers no_runs no_runs first old → (IsTrue first.honest → WasOutOfRange → answer ≡ None)
    → Grouped old new (Err why) WasRight WasWork WasOutOfRange → Answered first new result answer IsWork
answered_passed {first = first} {old = old} {new = new} {why = why} {answer = answer} {IsWork = IsWork} result is before range h =
    subst (λ (r : Result (List (List Value) × Spent) Refusal). Answered first new r answer IsWork) (sym (passed why result is))
    (record {
      rows = λ honest. tt;
      spent = tt;
      overflow = λ honest e. let same : why ≡ SumRange = cc in range honest (h.overflow (before.same_honest ∙ honest) (ap Err same));
      others = leaves-trans no_runs no_runs no_runs first old new before h.others;
      cause = cause_after why first old new before h.cause;
    })
