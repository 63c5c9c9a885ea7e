-- Control bytes by their values.
use Rattle.std.proofs.Common.{◌≡◌, ◌≢◌, ℕ, ◌<◌, ◌≤◌, Bool, true, false, ◌||◌, nat_eq, refl, sym, ap, ◌∙◌, arith}
use mathlib.Core.Bool.{true≢false}
use Rattle.std.proofs.lemmas.Bool.{eqb-true, eq-eqb, ne_eqb, lt-ltb, le-ltb}
use Rattle.sw_ctrl.specs.declared.control.TheConstants.{EMPTY, DELETED}
use Rattle.sw_ctrl.specs.Bytes.{IsControl, is_free}

-- seven bits are a control byte
pub low_control : (y : ℕ) → y < 128 → IsControl y
low_control y lt = ap (λ b. b || is_free y) (lt-ltb y 128 lt)

-- a control byte that is not full is free
pub high_free : (b : ℕ) → IsControl b → 128 ≤ b → is_free b ≡ true
high_free b c le = sym (ap (λ x. x || is_free b) (le-ltb b 128 le)) ∙ c

pub free_high : (b : ℕ) → is_free b ≡ true → 128 ≤ b
free_high b e = by_test (nat_eq b EMPTY) (nat_eq b DELETED) refl refl e
  where
    by_test : (x y : Bool) → nat_eq b EMPTY ≡ x → nat_eq b DELETED ≡ y → (x || y) ≡ true → 128 ≤ b
    by_test true y p q e = omega (arith, eqb-true b EMPTY p)
    by_test false true p q e = omega (arith, eqb-true b DELETED q)
    by_test false false p q e = absurd (true≢false (sym e))

pub not_free : (b : ℕ) → is_free b ≡ false → b ≢ EMPTY
not_free b e is = true≢false (sym (ap (λ x. x || nat_eq b DELETED) (eq-eqb b EMPTY is)) ∙ e)

pub low_not_free : (y : ℕ) → y < 128 → is_free y ≡ false
low_not_free y lt = ap (λ b. b || nat_eq y DELETED) (ne_eqb y EMPTY (λ e. omega (arith, e, lt))) ∙ ne_eqb y DELETED (λ e. omega (arith, e, lt))

pub deleted_is_free : (b : ℕ) → b ≡ DELETED → is_free b ≡ true
deleted_is_free b e = ap is_free e

pub not_free_either : (b : ℕ) → b ≢ EMPTY → b ≢ DELETED → is_free b ≡ false
not_free_either b p q = ap (λ x. x || nat_eq b DELETED) (ne_eqb b EMPTY p) ∙ ne_eqb b DELETED q
