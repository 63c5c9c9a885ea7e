-- What clap's matches have wrong.
use Rattle.std.proofs.Common.{arith, refl, sym, ap, Bor, ℕ, true, false, true≢false, Option, Some, None, is_some, List, [], ◌∷◌, ◌≡◌, ◌==◌, ◌∙◌, codes, eqb-true, length, map, option_map}
use Rattle.clap.specs.Words.{Row, Text, first_of}
use Rattle.clap.specs.declared.error.kind.ErrorKind.TheVariants.{ArgumentConflict, InvalidValue, ValueValidation}
use Rattle.gq_options.specs.CommandLine.{faults_in, output_fault, script_fault, seed_fault, values_in}

-- the faults of matches, by those of the seed, the output format and the script
pub no-faults : (rows : List Row) → seed_fault (first_of (codes "seed") rows) ≡ [] → output_fault (first_of (codes "output") rows) ≡ []
    → script_fault (first_of (codes "SCRIPT") rows) (values_in (codes "command") rows) ≡ [] → faults_in rows ≡ []
no-faults rows seed output script = rw (seed, output) script

pub seed-faulty : (rows : List Row) → seed_fault (first_of (codes "seed") rows) ≡ ValueValidation ∷ [] → faults_in rows ≡ ValueValidation ∷ []
seed-faulty rows seed = rw seed refl

pub output-faulty : (rows : List Row) → seed_fault (first_of (codes "seed") rows) ≡ [] → output_fault (first_of (codes "output") rows) ≡ InvalidValue ∷ []
    → faults_in rows ≡ InvalidValue ∷ []
output-faulty rows seed output = rw (seed, output) refl

pub script-faulty : (rows : List Row) → seed_fault (first_of (codes "seed") rows) ≡ [] → output_fault (first_of (codes "output") rows) ≡ []
    → script_fault (first_of (codes "SCRIPT") rows) (values_in (codes "command") rows) ≡ ArgumentConflict ∷ [] → faults_in rows ≡ ArgumentConflict ∷ []
script-faulty rows seed output script = rw (seed, output) script

-- a script without commands, and commands without a script
pub without-script : (script : Option (Bor Text)) (commands : List Text) → is_some script ≡ false → script_fault (option_map (λ s. s.now) script) commands ≡ []
without-script None commands is = refl
without-script (Some path) commands is = absurd (true≢false is)

pub without-commands : (script : Option Text) (commands : List (Bor Text)) (n : ℕ) → n ≡ length commands → (n == 0) ≡ true → script_fault script (map (λ s. s.now) commands) ≡ []
without-commands None commands n count is = refl
without-commands (Some path) [] n count is = refl
without-commands (Some path) (lines ∷ more) n count is = let none = eqb-true n 0 is in absurd (omega arith)

pub with-both : (script : Option (Bor Text)) (commands : List (Bor Text)) (n : ℕ) → n ≡ length commands → is_some script ≡ true → (n == 0) ≡ false
    → script_fault (option_map (λ s. s.now) script) (map (λ s. s.now) commands) ≡ ArgumentConflict ∷ []
with-both None commands n count is some = absurd (true≢false (sym is))
with-both (Some path) [] n count is some = let none : (0 == 0) ≡ false = sym (ap (λ (m : ℕ). m == 0) count) ∙ some in absurd (true≢false none)
with-both (Some path) (lines ∷ more) n count is some = refl
