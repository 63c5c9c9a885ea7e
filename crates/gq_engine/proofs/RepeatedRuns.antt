-- Two plain runs of one script in which no allocation fails.
use Rattle.std.proofs.Common.{◌≡◌, inl, inr, List, [], ◌∷◌, refl, sym, ap, subst, ◌∙◌, All}
use Rattle.std.proofs.lemmas.List.Elements.{All-head, All-tail}
use Rattle.gq_row.specs.declared.limits.Bounds.{Bounds}
use Rattle.gq_command.specs.declared.reader.Item.{Item}
use Rattle.gq_command.specs.Items.{ReadsAs}
use Rattle.gq_command.specs.Readings.{HasOneReading}
use Rattle.gq_command.specs.Script.{Entry, items}
use Rattle.gq_command.proofs.OneReading.{reads_once}
use Rattle.gq_reply.specs.declared.refusal.Refusal.TheVariants.{Memory}
use Rattle.gq_reply.specs.declared.reply.Reply.{Reply}
use Rattle.gq_engine.specs.Databases.{Database, IsKeyed}
use Rattle.gq_engine.specs.Orders.{StepsAlike}
use Rattle.gq_reply.specs.Refusals.{refused}
use Rattle.gq_engine.specs.Repeating.{NeverMemory, AnswersOnce}
use Rattle.gq_engine.specs.Runs.{PlainStep, PlainRun, SameTables}
use Rattle.gq_engine.specs.Steps.{step}
use Rattle.gq_engine.proofs.OrderLemmas.{steps_alike}

-- what was read, and answered as plain lists answer it
abbrev Stepped : Bounds → Database → Entry → Reply → Database → Type 0
Stepped limits old entry answer new = (it : Item) × ReadsAs limits entry it × ((new, answer) ≡ step limits old it)

stepped : (limits : Bounds) (old : Database) (entry : Entry) (answer : Reply) (new : Database) → (answer ≡ refused Memory → ⊥) → PlainStep limits old entry answer new → Stepped limits old entry answer new
stepped limits old entry answer new never (inl s) = s
stepped limits old entry answer new never (inr s) = absurd (never s.1)

-- one entry is answered alike
pub record SteppedAlike (x y : Reply) (a b : Database) : Type 0 where
  pub reply : x ≡ y
  pub same : SameTables a b
  pub keyed : IsKeyed a

alike : (limits : Bounds) (a b c d : Database) (entry : Entry) (x y : Reply) → HasOneReading limits entry → IsKeyed a → SameTables a b → Stepped limits a entry x c → Stepped limits b entry y d → SteppedAlike x y c d
alike limits a b c d entry x y one k same s t =
    let it : t.0 ≡ s.0 = one.only t.0 t.1 ∙ sym (one.only s.0 s.1) in
    let there : (d, y) ≡ step limits b s.0 = t.2 ∙ ap (step limits b) it in
    let h : StepsAlike limits a b s.0 = steps_alike limits a b s.0 k same in
    record {
      reply = ap (λ (p : Database × Reply). p.1) s.2 ∙ h.reply ∙ sym (ap (λ (p : Database × Reply). p.1) there);
      same = subst (λ (e : Database). SameTables e d) (sym (ap (λ (p : Database × Reply). p.0) s.2)) (subst (SameTables (step limits a s.0).0) (sym (ap (λ (p : Database × Reply). p.0) there)) h.same);
      keyed = subst IsKeyed (sym (ap (λ (p : Database × Reply). p.0) s.2)) h.keyed;
    }

runs_once : (limits : Bounds) (entries : List Entry) (a b last final : Database) (answers others : List Reply) → All (HasOneReading limits) entries → IsKeyed a → SameTables a b → NeverMemory answers → NeverMemory others
    → PlainRun limits a entries answers last → PlainRun limits b entries others final → (answers ≡ others) × SameTables last final
runs_once limits [] a b last final [] [] all k same n m p q = (refl, subst (λ (e : Database). SameTables e final) (sym p) (subst (SameTables a) (sym q) same))
runs_once limits [] a b last final [] (y ∷ ys) all k same n m p q = absurd q
runs_once limits [] a b last final (x ∷ xs) others all k same n m p q = absurd p
runs_once limits (entry ∷ entries) a b last final [] others all k same n m p q = absurd p
runs_once limits (entry ∷ entries) a b last final (x ∷ xs) [] all k same n m p q = absurd q
runs_once limits (entry ∷ entries) a b last final (x ∷ xs) (y ∷ ys) all k same n m p q =
    let first : SteppedAlike x y p.0 q.0 =
    alike limits a b p.0 q.0 entry x y (All-head (HasOneReading limits) entry entries all) k same (stepped limits a entry x p.0 n.0 p.1) (stepped limits b entry y q.0 m.0 q.1) in
    let rest = runs_once limits entries p.0 q.0 last final xs ys (All-tail (HasOneReading limits) entry entries all) first.keyed first.same n.1 m.1 p.2 q.2 in
    (λ i. first.reply i ∷ rest.0 i, rest.1)

pub answers_once : AnswersOnce
answers_once limits script a b last final answers others k same n m p q = runs_once limits (items limits script) a b last final answers others (reads_once limits script) k same n m p q
