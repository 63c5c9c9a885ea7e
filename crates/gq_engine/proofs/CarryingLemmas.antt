-- What carrying out a command did, at each exit path.
use Rattle.std.proofs.Common.{◌≡◌, ◌⊎◌, inl, inr, ℕ, Bool, false, ◌∷◌, [], refl, sym, ap, subst, ◌∙◌}
use Rattle.std.specs.Prelude.{Result, Ok, Err, IsErrAnd}
use Rattle.gq_command.specs.declared.command.Command.{Command}
use Rattle.gq_spill.specs.Runs.{Runs}
use Rattle.gq_row.specs.declared.limits.Bounds.{Bounds}
use Rattle.gq_group.specs.declared.grouping.Spent.{Spent}
use Rattle.gq_reply.specs.declared.refusal.Refusal.TheVariants.{Memory}
use Rattle.gq_reply.specs.declared.refusal.Refused.{Refused}
use Rattle.gq_reply.specs.declared.reply.Reply.{Reply}
use Rattle.gq_reply.specs.declared.reply.Reply.TheVariants as reply
use Rattle.gq_reply.specs.Outcomes.{◌>>=◌}
use Rattle.gq_reply.specs.Refusals.{unnumbered}
use Rattle.gq_reply.proofs.StepLemmas.{gives, stops}
use Rattle.gq_engine.specs.declared.engine.Engine.{Engine}
use Rattle.gq_engine.specs.Carrying.{Carried}
use Rattle.gq_engine.specs.Databases.{Database}
use Rattle.gq_engine.specs.Engines.{budget_of, database, failures_of, setting_of, spent_of}
use Rattle.gq_engine.specs.Runs.{FaultsHappened, Setting, is_grouping, takes_no_memory}
use Rattle.gq_engine.specs.Serving.{Changes, Comes, ComesOver, ComesSurely, Plainly, Settles, reply_of}
use Rattle.gq_engine.specs.Spending.{Spends}
use Rattle.gq_engine.specs.Steps.{Outcome, outcome}
use Rattle.gq_engine.proofs.StoreLemmas.{plain_faults}

-- what came surely also came
plain_of : (steps : Outcome) (result : Result Reply Refused) (old new : Database) → ComesSurely steps result old new → Comes steps result old new
plain_of steps (Ok answer) old new h = h
plain_of steps (Err why) old new h = (h.0, inr h.1)

-- a change of tables whose reply is a number
abbrev pub told_as : ℕ → Result Database Refused → Outcome
told_as n steps = steps >>= λ last. let answer : Database × Reply = (last, reply.Done n) in Ok answer

pub change_done : {X : Type 0} (steps : Result Database Refused) (n : ℕ) (old new : Database) (x : X) → Changes steps (Ok x) old new → Comes (told_as n steps) (Ok (reply.Done n)) old new
change_done steps n old new x h = record { last = h.0; done = gives steps h.0 _ h.1; same = h.2; kept = tt }

pub change_refused : (X : Type 0) (steps : Result Database Refused) (n : ℕ) (old new : Database) (why : Refused) → Changes {X = X} steps (Err why) old new → Comes (told_as n steps) (Err why) old new
change_refused X steps n old new why h = (h.0, from h.1)
  where
    from : (why ≡ unnumbered Memory) ⊎ (steps ≡ Err why) → (why ≡ unnumbered Memory) ⊎ (told_as n steps ≡ Err why)
    from (inl e) = inl e
    from (inr e) = inr (stops steps why _ e)

-- a step that is settled
pub settled_done : {X : Type 0} (answer : X → Reply) (n : ℕ) (steps : Outcome) (old new : Database) (x : X) → answer x ≡ reply.Done n → Settles answer steps (Ok x) old new → ComesSurely steps (Ok (reply.Done n)) old new
settled_done answer n steps old new x e h = record { last = h.0; done = h.1 ∙ ap (λ (r : Reply). Ok (h.0, r)) e; same = h.2; kept = tt }

-- a setting of these limits
abbrev under_honesty : Bounds → Bool → Setting
under_honesty limits honest = record { limits = limits; honest = honest }

module _ {H S : Type 0} (runs : S → Runs) (command : Command) where
  -- as the function of the command carries it out
  pub carried_as : (said : Command) (result : Result Reply Refused) (old new : Engine H S) → command ≡ said → Carried runs said result old new → Carried runs command result old new
  carried_as said result old new is h = subst (λ (c : Command). Carried runs c result old new) (sym is) h

  -- a refusal that is passed on
  pub passed_on : (why : Refused) (old new : Engine H S) (result : Result Reply Refused) → IsErrAnd result (λ w. w ≡ why) → Carried runs command (Err why) old new → Carried runs command result old new
  passed_on why old new (Ok answer) is h = absurd is
  passed_on why old new (Err w) is h = subst (λ (w : Refused). Carried runs command (Err w) old new) (sym is) h

  module _ (result : Result Reply Refused) (old : Engine H S) where
    abbrev steps : Outcome
    steps = outcome (setting_of runs old).limits (database old) command

    -- over its run store
    pub carried_over : (store : S) (spent : Spent) → (runs store).honest ≡ (runs old.store).honest → takes_no_memory command ≡ false → ComesOver (is_grouping command) (setting_of runs old).honest steps result (database old) (database old)
        → FaultsHappened (reply_of result ∷ []) (failures_of runs old) (runs store).failures → Spends (setting_of runs old).honest (budget_of old) (database old) command (reply_of result) (spent_of old) spent
        → Carried runs command result old (record old { store = store; spent = spent })
    carried_over store spent honest takes comes faults spends = record {
      comes = comes;
      faults = faults;
      sure = λ none. let no : ⊥ = cc (sym none ∙ takes) in absurd no;
      setting = ap (under_honesty old.limits.bounds) honest;
      spent = spends;
      budget = refl;
    }

    module _ (tables : Database) (spent : Spends (setting_of runs old).honest (budget_of old) (database old) command (reply_of result) (spent_of old) (spent_of old)) where
      faultless : Comes steps result (database old) tables → FaultsHappened (reply_of result ∷ []) (failures_of runs old) (failures_of runs old)
      faultless comes = plain_faults (setting_of runs old).limits (database old) command result tables (failures_of runs old) (failures_of runs old) comes refl

      -- without it
      pub carried_plainly : takes_no_memory command ≡ false → Comes steps result (database old) tables → Carried runs command result old (record old { catalog = tables })
      carried_plainly takes comes = record {
        comes = Plainly comes;
        faults = faultless comes;
        sure = λ none. let no : ⊥ = cc (sym none ∙ takes) in absurd no;
        setting = refl;
        spent = spent;
        budget = refl;
      }

      -- and without memory
      pub carried_surely : ComesSurely steps result (database old) tables → Carried runs command result old (record old { catalog = tables })
      carried_surely comes = record {
        comes = Plainly (plain_of steps result (database old) tables comes);
        faults = faultless (plain_of steps result (database old) tables comes);
        sure = λ none. comes;
        setting = refl;
        spent = spent;
        budget = refl;
      }
