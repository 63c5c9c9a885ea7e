-- What each exit status means.
use Rattle.std.proofs.Common.{arith, rules, refl, inl, inr, ℕ, Bool, true, false, Some, Ok, Err, Result, if◌then◌else◌, ◌≡◌, ◌≢◌, ◌==◌, ◌⊎◌}
use Rattle.gq_engine.specs.declared.run.Summary.{Summary}
use Rattle.gq_engine.specs.declared.run.Fault.{Fault}
use Rattle.gq_engine.specs.declared.run.Fault.TheVariants.{Read, Write}
use Rattle.gq_engine.specs.Headline.{Ran, StoppedReading, StoppedWriting}
use Rattle.gq_shell.specs.Session.{status_of}
use Rattle.gq_engine.proofs.OutputLemmas.{ran_plainly}
use Rattle.gq_shell.specs.Statuses.{AnsweredAll, Course, Ends, StatusesMean}

-- a run of these bytes and states ended so
abbrev RanSo : Course → Result Summary Fault → Type 0
RanSo c ended = Ran c.setting c.old (Some c.script) c.new c.replies.before c.replies.after ended

-- the status of a run to the end, by whether none was refused
abbrev code : Bool → ℕ
code b = if b then 0 else 1

none-refused : (n : ℕ) (b : Bool) → (n == 0) ≡ b → 0 ≡ code b → n ≡ 0
none-refused n true is e = search rules
none-refused n false is e = let bad : 0 ≡ 1 = e in absurd (omega arith)

some-refused : (n : ℕ) (b : Bool) → (n == 0) ≡ b → 1 ≡ code b → n ≢ 0
some-refused n true is e = let bad : 1 ≡ 0 = e in absurd (omega arith)
some-refused n false is e = search rules

not-three : (b : Bool) → 3 ≡ code b → ⊥
not-three true e = let bad : 3 ≡ 0 = e in omega arith
not-three false e = let bad : 3 ≡ 1 = e in omega arith

zero-reports : (c : Course) (ended : Result Summary Fault) → RanSo c ended → 0 ≡ status_of ended → (summary : Summary) × AnsweredAll c summary × (summary.refused ≡ 0)
zero-reports c (Ok summary) ran e = (summary, ran, none-refused summary.refused (summary.refused == 0) refl e)
zero-reports c (Err fault) ran e = let bad : 0 ≡ 3 = e in absurd (omega arith)

one-reports : (c : Course) (ended : Result Summary Fault) → RanSo c ended → 1 ≡ status_of ended → (summary : Summary) × AnsweredAll c summary × (summary.refused ≢ 0)
one-reports c (Ok summary) ran e = (summary, ran, some-refused summary.refused (summary.refused == 0) refl e)
one-reports c (Err fault) ran e = let bad : 1 ≡ 3 = e in absurd (omega arith)

three-reports : (c : Course) (ended : Result Summary Fault) → RanSo c ended → 3 ≡ status_of ended
    → StoppedReading c.setting c.old c.script c.new c.replies.before c.replies.after ⊎ StoppedWriting c.setting c.old c.script c.new c.replies.before c.replies.after
three-reports c (Ok summary) ran e = absurd (not-three (summary.refused == 0) e)
three-reports c (Err Read) ran e = inl ran
three-reports c (Err Write) ran e = inr ran

by-count : (b : Bool) (status : ℕ) → status ≡ code b → (status ≡ 0) ⊎ ((status ≡ 1) ⊎ (status ≡ 3))
by-count true status e = inl e
by-count false status e = inr (inl e)

no-other : (ended : Result Summary Fault) (status : ℕ) → status ≡ status_of ended → (status ≡ 0) ⊎ ((status ≡ 1) ⊎ (status ≡ 3))
no-other (Ok summary) status e = by-count (summary.refused == 0) status e
no-other (Err fault) status e = inr (inr e)

plainly : {n : ℕ} (c : Course) (w : Ends c n) → RanSo c w.ended
plainly c w = ran_plainly c.setting c.old (Some c.script) c.new c.replies.before c.replies.after c.errors.before w.refusals w.ended w.ran

pub statuses-mean : StatusesMean
statuses-mean = record {
  zero = λ c w. zero-reports c w.ended (plainly c w) w.status_is;
  one = λ c w. one-reports c w.ended (plainly c w) w.status_is;
  three = λ c w. three-reports c w.ended (plainly c w) w.status_is;
  only = λ c status w. no-other w.ended status w.status_is;
}
