-- The steps of a command, one after the other.
use Rattle.std.proofs.Common.{◌≡◌, inl, inr, ℕ, true, false, not, List, [], ◌∷◌, ◌++◌, length, sym, ap, subst, ◌∙◌, Some, None}
use Rattle.std.specs.Prelude.{nat_lt, is_some, Ok, Err}
use Rattle.gq_row.specs.declared.schema.Column.{Column}
use Rattle.gq_row.specs.declared.limits.Bounds.{Bounds}
use Rattle.gq_row.specs.Schemas.{positions_of}
use Rattle.gq_reply.specs.declared.refusal.Refusal.{Refusal}
use Rattle.gq_reply.specs.declared.refusal.Refusal.TheVariants.{Limit, Memory, TableExists, NoColumn}
use Rattle.gq_reply.specs.declared.refusal.Refused.{Refused}
use Rattle.gq_reply.specs.declared.reply.Reply.{Reply}
use Rattle.gq_reply.specs.declared.reply.Reply.TheVariants as reply
use Rattle.gq_engine.specs.Databases.{Database, table_at}
use Rattle.gq_reply.specs.Refusals.{unnumbered}
use Rattle.gq_engine.specs.Runs.{KeptUnlessDone, SameTables}
use Rattle.gq_engine.specs.Serving.{Comes}
use Rattle.gq_engine.specs.Steps.{Outcome, create}
use Rattle.gq_engine.proofs.OrderLemmas.{same_tables}
use Rattle.gq_reply.proofs.StepLemmas.{passes, fails, finds, misses}

-- a command that is refused, or that memory fails, leaves the tables
pub no_memory : (steps : Outcome) (why : Refused) (old : Database) → why ≡ unnumbered Memory → Comes steps (Err why) old old
no_memory steps why old e = (same_tables old, inl e)

pub no_memory_at : (steps : Outcome) (why : Refused) (old new : Database) → new ≡ old → why ≡ unnumbered Memory → Comes steps (Err why) old new
no_memory_at steps why old new kept e = (subst (SameTables old) (sym kept) (same_tables old), inl e)

pub refuses : (steps : Outcome) (code : Refusal) (why : Refused) (old : Database) → why ≡ unnumbered code → steps ≡ Err (unnumbered code) → Comes steps (Err why) old old
refuses steps code why old e h = (same_tables old, inr (h ∙ ap (λ (w : Refused). Err w) (sym e)))

pub carries : (steps : Outcome) (answer : Reply) (old new : Database) → steps ≡ Ok (new, answer) → KeptUnlessDone answer old new → Comes steps (Ok answer) old new
carries steps answer old new h k = record { last = new; done = h; same = same_tables new; kept = k }

module _ (limits : Bounds) (db : Database) (name : List ℕ) (columns : List Column) (key : List (List ℕ)) where
  pub create_exists : is_some (table_at db name) ≡ true → create limits db name columns key ≡ Err (unnumbered TableExists)
  create_exists h = fails TableExists (not (is_some (table_at db name))) _ (ap not h)

  pub create_lacks : is_some (table_at db name) ≡ false → positions_of columns key ≡ None → create limits db name columns key ≡ Err (unnumbered NoColumn)
  create_lacks h p = passes TableExists (not (is_some (table_at db name))) _ (ap not h) ∙ misses NoColumn (positions_of columns key) _ p

  pub create_full : (positions : List ℕ) → is_some (table_at db name) ≡ false → positions_of columns key ≡ Some positions → nat_lt (length db) limits.tables ≡ false → create limits db name columns key ≡ Err (unnumbered Limit)
  create_full positions h p f = passes TableExists (not (is_some (table_at db name))) _ (ap not h) ∙ finds NoColumn (positions_of columns key) positions _ p ∙ fails Limit (nat_lt (length db) limits.tables) _ f

  pub create_adds : (positions : List ℕ) → is_some (table_at db name) ≡ false → positions_of columns key ≡ Some positions → nat_lt (length db) limits.tables ≡ true
      → create limits db name columns key ≡ Ok (db ++ (name, record { schema = record { columns = columns; key = positions }; rows = [] }) ∷ [], reply.Done 0)
  create_adds positions h p f = passes TableExists (not (is_some (table_at db name))) _ (ap not h) ∙ finds NoColumn (positions_of columns key) positions _ p ∙ passes Limit (nat_lt (length db) limits.tables) _ f
