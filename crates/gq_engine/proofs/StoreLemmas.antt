-- Commands over a run store.
use Rattle.std.proofs.Common.{◌≡◌, ◌⊎◌, inl, inr, ◌≤◌, ℕ, Bool, false, [], ◌∷◌, refl, ap, ◌∙◌, arith, cond}
use Rattle.std.specs.Prelude.{count_by, Result, Ok, Err}
use Rattle.gq_row.specs.declared.limits.Bounds.{Bounds}
use Rattle.gq_command.specs.declared.command.Command.{Command}
use Rattle.gq_command.specs.declared.reader.Item.TheVariants as item
use Rattle.gq_reply.specs.declared.refusal.Refusal.TheVariants.{Memory}
use Rattle.gq_reply.specs.declared.refusal.Refused.{Refused}
use Rattle.gq_reply.specs.declared.reply.Reply.{Reply}
use Rattle.gq_reply.specs.declared.reply.Reply.TheVariants as reply
use Rattle.gq_reply.specs.Refusals.{of_refused, unnumbered}
use Rattle.gq_engine.specs.Databases.{Database}
use Rattle.gq_engine.specs.Runs.{Setting, StoreFailed, StoreLied, SameTables, AnsweredAlike, KeptUnlessDone, FaultsHappened, is_grouping, is_store_fault}
use Rattle.gq_engine.specs.Serving.{Comes, ComesOver, Plainly, StoreFails, StoreLies, reply_of}
use Rattle.gq_engine.specs.Steps.{Outcome, outcome}
use Rattle.gq_engine.proofs.OrderLemmas.{answered_done, answered_refused}
use Rattle.gq_engine.proofs.PlainSteps.{done_tells, refused_tells}
use Rattle.gq_engine.proofs.RunLemmas.{count_by-first}

-- the result of a command over a run store is a legal answer to it
pub answered_over : (setting : Setting) (old : Database) (c : Command) (result : Result Reply Refused) (new : Database)
    → ComesOver (is_grouping c) setting.honest (outcome setting.limits old c) result old new → AnsweredAlike setting old (item.Command c) (reply_of result) new
answered_over setting old c (Ok answer) new (Plainly h) = answered_done setting old c answer new h
answered_over setting old c (Err why) new (Plainly h) = answered_refused setting old c why new h
answered_over setting old c result new (StoreFails groups reached same fault) =
    record { last = old; legal = StoreFailed refl (groups, reached) (ap reply_of fault); same = same }
answered_over setting old c result new (StoreLies groups reached same lied) =
    record { last = old; legal = StoreLied refl (groups, reached) lied; same = same }

kept_plainly : (steps : Outcome) (result : Result Reply Refused) (old new : Database) → Comes steps result old new → KeptUnlessDone (reply_of result) old new
kept_plainly steps (Ok answer) old new h = h.kept
kept_plainly steps (Err why) old new h = h.0

kept_same : (answer : Reply) (old new : Database) → SameTables old new → KeptUnlessDone answer old new
kept_same (reply.Done n) old new same = tt
kept_same (reply.Rows header rows) old new same = same
kept_same (reply.Refused why number) old new same = same

-- and it changes tables only where it was carried out
pub kept_over : (grouping honest : Bool) (steps : Outcome) (result : Result Reply Refused) (old new : Database)
    → ComesOver grouping honest steps result old new → KeptUnlessDone (reply_of result) old new
kept_over grouping honest steps result old new (Plainly h) = kept_plainly steps result old new h
kept_over grouping honest steps result old new (StoreFails groups reached same fault) = kept_same (reply_of result) old new same
kept_over grouping honest steps result old new (StoreLies groups reached same lied) = kept_same (reply_of result) old new same

-- a reply that reports no failure of the store needs none
pub no_fault : (answer : Reply) (before after : ℕ) → is_store_fault answer ≡ false → before ≤ after → FaultsHappened (answer ∷ []) before after
no_fault answer before after none h =
    let count : count_by is_store_fault (answer ∷ []) ≡ 0 = count_by-first is_store_fault [] answer ∙ ap (λ b. cond b 1 0) none in
    omega (arith, count)

-- the steps of a command report none
pub plain_faults : (limits : Bounds) (db : Database) (c : Command) (result : Result Reply Refused) (new : Database) (before after : ℕ)
    → Comes (outcome limits db c) result db new → after ≡ before → FaultsHappened (reply_of result ∷ []) before after
plain_faults limits db c (Ok answer) new before after h same = no_fault answer before after (done_tells limits db c h.last answer h.done) (omega (arith, same))
plain_faults limits db c (Err why) new before after h same = no_fault (of_refused why) before after (from h.1) (omega (arith, same))
  where
    from : (why ≡ unnumbered Memory) ⊎ (outcome limits db c ≡ Err why) → is_store_fault (of_refused why) ≡ false
    from (inl e) = ap (λ (w : Refused). is_store_fault (of_refused w)) e
    from (inr e) = refused_tells limits db c why e
