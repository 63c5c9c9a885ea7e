-- Legal runs where the run store neither failed nor lied.
use Rattle.std.proofs.Common.{◌≡◌, ◌+◌, ◌≤◌, ◌⊎◌, inl, inr, ℕ, Bool, true, false, cond, [], ◌∷◌, refl, sym, ap, ◌∙◌, arith}
use Rattle.std.specs.Prelude.{count_by}
use Rattle.gq_command.specs.declared.reader.Item.{Item}
use Rattle.gq_command.specs.Script.{Entry}
use Rattle.gq_reply.specs.declared.refusal.Refusal.TheVariants.{Memory}
use Rattle.gq_reply.specs.declared.reply.Reply.{Reply}
use Rattle.gq_engine.specs.Databases.{Database}
use Rattle.gq_reply.specs.Refusals.{refused}
use Rattle.gq_engine.specs.Steps.{step}
use Rattle.gq_engine.specs.Runs.{Setting, LegalAnswer, AsListsAnswer, WantsMemory, StoreFailed, StoreLied, LegalStep, PlainStep, is_store_fault, OnlyMemoryRefuses}
use Rattle.gq_engine.proofs.RunLemmas.{count_by-first}

-- an answer that reports no failure of an honest store
plain_answer : (setting : Setting) (old : Database) (it : Item) (answer : Reply) (new : Database) → setting.honest ≡ true → is_store_fault answer ≡ false → LegalAnswer setting old it answer new
    → ((new, answer) ≡ step setting.limits old it) ⊎ ((new ≡ old) × (answer ≡ refused Memory))
plain_answer setting old it answer new honest no_fault (AsListsAnswer said) = inl said
plain_answer setting old it answer new honest no_fault (WantsMemory kept memory) = inr (kept, memory)
plain_answer setting old it answer new honest no_fault (StoreFailed kept grouping fault) = let none : ⊥ = cc (sym (ap is_store_fault fault) ∙ no_fault) in absurd none
plain_answer setting old it answer new honest no_fault (StoreLied kept grouping lied) = let none : ⊥ = cc (sym lied ∙ honest) in absurd none

plain_step : (setting : Setting) (old : Database) (entry : Entry) (answer : Reply) (new : Database) → setting.honest ≡ true → is_store_fault answer ≡ false → LegalStep setting old entry answer new → PlainStep setting.limits old entry answer new
plain_step setting old entry answer new honest no_fault h =
    elim h as (λ _. PlainStep setting.limits old entry answer new) [
      | inr p ↦ inr p
      | inl p ↦
          elim (plain_answer setting old p.0 answer new honest no_fault p.2) as (λ _. PlainStep setting.limits old entry answer new) [ inl q ↦ inl (p.0, p.1, q) | inr q ↦ inr q ]
    ]

-- no failure was reported if the count didn't rise
none_told : (b : Bool) (n failures : ℕ) → failures + cond b (n + 1) n ≤ failures → (b ≡ false) × (failures + n ≤ failures)
none_told true n failures h = absurd (omega arith)
none_told false n failures h = (refl, h)

pub only_memory_refuses : OnlyMemoryRefuses
only_memory_refuses setting old [] [] new failures honest faults h = h
only_memory_refuses setting old [] (answer ∷ answers) new failures honest faults h = absurd h
only_memory_refuses setting old (entry ∷ entries) [] new failures honest faults h = absurd h
only_memory_refuses setting old (entry ∷ entries) (answer ∷ answers) new failures honest faults h =
    let told = none_told (is_store_fault answer) (count_by is_store_fault answers) failures (rw (count_by-first is_store_fault answers answer) at faults) in
    (h.0, plain_step setting old entry answer h.0 honest told.0 h.1, only_memory_refuses setting h.0 entries answers new failures honest told.1 h.2)
