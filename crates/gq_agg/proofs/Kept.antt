-- What is kept of a list of values with one more.
use Rattle.std.proofs.Common.{◌≡◌, ◌==◌, ℕ, ◌+◌, pos, ◌+ℤ◌, Bool, true, false, not, cond, List, [], ◌∷◌, ◌++◌, length, Some, None, arith, refl, ap, sym, ◌∙◌, length-append}
use Rattle.std.proofs.lemmas.Int.{ints}
use Rattle.std.proofs.lemmas.List.Elements.{filter-append}
use Rattle.std.proofs.lemmas.List.Sums.{fold-append}
use Rattle.gq_row.specs.declared.value.Value.{Value}
use Rattle.gq_row.specs.declared.value.Value.TheVariants.{Null, Int, Text, NoCase}
use Rattle.gq_row.specs.Fitting.{is_null}
use Rattle.std.proofs.lemmas.Bool.Decides.{nat_tests}
use Rattle.gq_agg.specs.declared.kind.AggKind.{AggKind}
use Rattle.gq_agg.specs.declared.kind.AggKind.TheVariants as kind
use Rattle.gq_agg.specs.declared.state.State.TheVariants.{Values, Total, Least, Greatest}
use Rattle.gq_agg.specs.Running.{Running, tally, kept, with_value, counted, plus, total_of, sum_or_zero}
use Rattle.gq_agg.specs.Values.{number, present, total, lesser, greater}

pub total-push : (values : List Value) (v : Value) → total (values ++ v ∷ []) ≡ total values +ℤ number v
total-push [] v = omega (arith, ints)
total-push (w ∷ values) v = omega (arith, ints, total-push values v)

pub present-push : (values : List Value) (v : Value) → present (values ++ v ∷ []) ≡ present values ++ cond (not (is_null v)) (v ∷ []) []
present-push values v = filter-append (λ w. not (is_null w)) values (v ∷ [])

pub count-push : (values : List Value) (v : Value) → length (present (values ++ v ∷ [])) ≡ counted (length (present values)) v
count-push values v = ap length (present-push values v) ∙ length-append (present values) (cond (not (is_null v)) (v ∷ []) []) ∙ one (is_null v)
  where
    one : (b : Bool) → length (present values) + length (cond (not b) (v ∷ []) []) ≡ cond b (length (present values)) (length (present values) + 1)
    one true = omega arith
    one false = refl

-- over no values that are not null the sum is 0
pub total-none : (values : List Value) → length (present values) ≡ 0 → total values ≡ pos 0
total-none [] none = refl
total-none (Null ∷ values) none = omega (arith, ints, total-none values none)
total-none (Int n ∷ values) none = absurd (omega arith)
total-none (Text t ∷ values) none = absurd (omega arith)
total-none (NoCase t ∷ values) none = absurd (omega arith)

more_than_none : (n : ℕ) → (n + 1 == 0) ≡ false
more_than_none n = grind (arith, nat_tests)

is_zero : (n : ℕ) → (n == 0) ≡ true → n ≡ 0
is_zero n h = grind (arith, nat_tests)

-- the sum so far, or 0 where there is none
so_far : (values : List Value) → sum_or_zero (total_of values) ≡ total values
so_far values = chosen (length (present values) == 0) refl
  where
    chosen : (b : Bool) → (length (present values) == 0) ≡ b → sum_or_zero (cond b None (Some (total values))) ≡ total values
    chosen true e = sym (total-none values (is_zero (length (present values)) e))
    chosen false e = refl

pub sum-push : (values : List Value) (v : Value) → total_of (values ++ v ∷ []) ≡ plus (total_of values) v
sum-push values v = cased v (count-push values v) (total-push values v)
  where
    cased : (w : Value) → length (present (values ++ v ∷ [])) ≡ counted (length (present values)) w → total (values ++ v ∷ []) ≡ total values +ℤ number w
        → total_of (values ++ v ∷ []) ≡ plus (total_of values) w
    cased Null c t = let same : total (values ++ v ∷ []) ≡ total values = omega (arith, ints, t) in λ i. cond (c i == 0) None (Some (same i))
    cased (Int n) c t =
        (λ i. cond (c i == 0) None (Some (t i))) ∙ ap (λ b. cond b None (Some (total values +ℤ n))) (more_than_none (length (present values)))
        ∙ ap (λ s. Some (s +ℤ n)) (sym (so_far values))
    cased (Text u) c t =
        (λ i. cond (c i == 0) None (Some (t i))) ∙ ap (λ b. cond b None (Some (total values +ℤ pos 0))) (more_than_none (length (present values)))
        ∙ ap (λ s. Some (s +ℤ pos 0)) (sym (so_far values))
    cased (NoCase u) c t =
        (λ i. cond (c i == 0) None (Some (t i))) ∙ ap (λ b. cond b None (Some (total values +ℤ pos 0))) (more_than_none (length (present values)))
        ∙ ap (λ s. Some (s +ℤ pos 0)) (sym (so_far values))

pub kept-push : (kind : AggKind) (values : List Value) (v : Value) → kept kind (values ++ v ∷ []) ≡ with_value (kept kind values) v
kept-push kind.CountAll values v = refl
kept-push kind.Count values v = ap Values (count-push values v)
kept-push kind.Sum values v = ap Total (sum-push values v)
kept-push kind.Min values v = ap Least (fold-append lesser Null values (v ∷ []))
kept-push kind.Max values v = ap Greatest (fold-append greater Null values (v ∷ []))

-- one value more was added
pub added : (kind : AggKind) (values : List Value) (v : Value) (old new : Running) → old ≡ tally kind values → new.adds ≡ old.adds + 1 → new.state ≡ with_value old.state v → new ≡ tally kind (values ++ v ∷ [])
added kind values v old new is more state =
    let adds : new.adds ≡ length (values ++ v ∷ []) = omega (arith, more, ap (λ r. r.adds) is, length-append values (v ∷ [])) in
    let kept_now : new.state ≡ kept kind (values ++ v ∷ []) = state ∙ ap (λ r. with_value r.state v) is ∙ sym (kept-push kind values v) in
    λ i. record { adds = adds i; state = kept_now i }
