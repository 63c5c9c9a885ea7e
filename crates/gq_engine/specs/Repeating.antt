-- A script has one answer where memory never wants.
use Rattle.std.specs.Prelude.{◌≡◌, List, [], ◌∷◌}
use Rattle.gq_row.specs.declared.limits.Bounds.{Bounds}
use Rattle.gq_command.specs.Commands.{Bytes}
use Rattle.gq_command.specs.Script.{items}
use Rattle.gq_reply.specs.declared.refusal.Refusal.TheVariants.{Memory}
use Rattle.gq_reply.specs.declared.reply.Reply.{Reply}
use Rattle.gq_engine.specs.Databases.{Database, IsKeyed}
use Rattle.gq_reply.specs.Refusals.{refused}
use Rattle.gq_engine.specs.Runs.{PlainRun, SameTables}

-- none of the replies is Memory
abbrev pub NeverMemory : List Reply → Type 0
NeverMemory [] = Unit {0}
NeverMemory (answer ∷ answers) = (answer ≡ refused Memory → ⊥) × NeverMemory answers

-- Two runs of one script, from tables that differ only in the order of rows, give the same replies, and leave tables that again differ only so.
abbrev pub AnswersOnce : Type 0
AnswersOnce = (limits : Bounds) (script : Bytes) (a b last final : Database) (answers others : List Reply) → IsKeyed a → SameTables a b → NeverMemory answers → NeverMemory others
    → PlainRun limits a (items limits script) answers last → PlainRun limits b (items limits script) others final → (answers ≡ others) × SameTables last final
