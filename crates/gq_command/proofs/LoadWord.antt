-- What a line says that begins with load.
use Rattle.std.proofs.Common.{◌≡◌, ◌≤◌, true, ◌∷◌, length, List, Some, None, sym, ap, ◌∙◌}
use Rattle.std.proofs.lemmas.List.{take_all}
use Rattle.std.proofs.lemmas.Slice.Eq.{bytes_eq-Decides}
use Rattle.std.specs.Prelude.{codes}
use Rattle.std.specs.Str.{bytes_eq}
use Rattle.gq_row.specs.declared.limits.Bounds.{Bounds}
use Rattle.gq_token.specs.declared.token.Terminal.TheVariants as terminal
use Rattle.gq_token.specs.declared.token.Token.{Token}
use Rattle.gq_token.specs.declared.token.Token.TheVariants.{Fixed, Name}
use Rattle.gq_token.specs.Lexing.{first_word, lower, word, lookup_word, reserved_words}
use Rattle.gq_token.proofs.Trimmed.{first_token}
use Rattle.gq_script.specs.Script.{takes_payload}
use Rattle.gq_script.proofs.LoadWord.{begins_load}
use Rattle.gq_command.specs.declared.command.Command.{Command}
use Rattle.gq_command.specs.declared.command.Command.TheVariants.{Create, Drop, Load, Upsert, Delete, Show, Group, Distinct}
use Rattle.gq_command.specs.declared.command.Payload.TheVariants as payload
use Rattle.gq_command.specs.Commands.{Bytes, phrase, grammatical, keeps_rules}
use Rattle.gq_command.specs.Lines.{Says}
use Rattle.gq_clause.proofs.Sound.{both_true}
use Rattle.gq_command.proofs.Again.{opened}

load_word : (w : Bytes) → lower w ≡ codes "load" → word w ≡ Fixed terminal.Load
unfolding word
load_word w e = ap (λ (l : Bytes). elim (lookup_word reserved_words l) [ Some t ↦ Fixed t | None ↦ Name w ]) e

load_phrase : (c : Command) (rest : List Token) → phrase c ≡ Fixed terminal.Load ∷ rest → keeps_rules c ≡ true → (table : Bytes) × (c ≡ Load table payload.Open)
unfolding phrase
load_phrase (Create t columns key) rest e k = absurd cc
load_phrase (Drop t) rest e k = absurd cc
load_phrase (Load t carried) rest e k = (t, ap (Load t) (opened carried k))
load_phrase (Upsert t values) rest e k = absurd cc
load_phrase (Delete t values) rest e k = absurd cc
load_phrase (Show t) rest e k = absurd cc
load_phrase (Group t by shown tests exists having) rest e k = absurd cc
load_phrase (Distinct t on tests) rest e k = absurd cc

-- a line that takes a payload says a load, or nothing
pub said_load : (b : Bounds) (line : Bytes) (c : Command) → takes_payload b line ≡ true → length line ≤ b.line → Says line c → (table : Bytes) × (c ≡ Load table payload.Open)
said_load b line c takes le s =
    let whole : bytes_eq (lower (first_word line)) (codes "load") ≡ true = ap (λ (l : Bytes). bytes_eq (lower (first_word l)) (codes "load")) (sym (take_all b.line line le)) ∙ takes in
    let begun = begins_load line whole in
    let given = first_token line begun.0 begun.1 (phrase c) begun.2 begun.3 s.written in
    let is : lower (first_word line) ≡ codes "load" = (bytes_eq-Decides (lower (first_word line)) (codes "load")).0 whole in
    load_phrase c given.0 (given.1 ∙ ap (λ (t : Token). t ∷ given.0) (load_word (first_word line) is)) (both_true (grammatical c) (keeps_rules c) s.command).1
