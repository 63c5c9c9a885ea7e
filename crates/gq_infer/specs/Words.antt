-- What the word after `-t` says: [NAME=]FILE.
use Rattle.std.specs.Prelude.{ℕ, ◌≡◌, ◌<◌, ◌⊎◌, ◌+◌, ◌%◌, ◌==◌, ◌&&◌, not, nat_le, nat_lt, Bool, true, false, List, ◌++◌, length, take, drop, count_by, slice_index, codes, if◌then◌else◌}
use Rattle.std.specs.List.{after_last, before_last, list_any, position_or_len, range_with_len}
use Rattle.gq_row.specs.declared.limits.Bounds.{Bounds}
use Rattle.gq_row.specs.declared.schema.Column.{Column}
use Rattle.gq_command.specs.declared.command.Command.{Command}
use Rattle.gq_command.specs.declared.command.Command.TheVariants.{Create}
use Rattle.gq_infer.specs.declared.bad_table.BadTable.{BadTable}
use Rattle.gq_infer.specs.declared.bad_table.BadTable.TheVariants.{Limit, Memory, NoName, NotColumns}
use Rattle.gq_command.specs.Commands.{fits}
use Rattle.gq_command.specs.Lines.{Says}

-- whether an = is at a place, with an even number of double quotes before it
abbrev pub is_cut : List ℕ → ℕ → Bool
is_cut word place = (slice_index word place == 61) && (count_by (λ b. b == 34) (take place word) % 2 == 0)

-- the first such place, or the word's length
unfoldable pub cut_of : List ℕ → ℕ
cut_of word = position_or_len (is_cut word) (range_with_len 0 (length word))

abbrev pub has_cut : List ℕ → Bool
has_cut word = nat_lt (cut_of word) (length word)

-- what comes before it
abbrev pub declaration_of : List ℕ → List ℕ
declaration_of word = take (cut_of word) word

-- the file: what comes after it, or the whole word
abbrev pub file_of : List ℕ → List ℕ
file_of word = if has_cut word then drop (cut_of word + 1) word else word

-- a path's last part
abbrev pub base_name : List ℕ → List ℕ
base_name path = after_last (λ b. b == 47) path

-- a name without its last extension; one that is nothing else stays as it is
abbrev pub without_extension : List ℕ → List ℕ
without_extension name = if length (before_last (λ b. b == 46) name) == 0 then name else before_last (λ b. b == 46) name

-- the name that a word gives its table
abbrev pub name_of : List ℕ → List ℕ
name_of word = if has_cut word then declaration_of word else without_extension (base_name word)

-- whether a name has from 1 to most bytes
abbrev pub is_name : ℕ → List ℕ → Bool
is_name most name = not (length name == 0) && nat_le (length name) most

-- whether a word has columns by hand: a parenthesis before its cut
abbrev pub has_columns : List ℕ → Bool
has_columns word = has_cut word && list_any (λ b. b == 40) (declaration_of word)

-- the line that then says them
abbrev pub create_line : List ℕ → List ℕ
create_line declaration = codes "create " ++ declaration

-- columns and a key by hand
pub record Given : Type 0 where
  pub columns : List Column
  pub key : List (List ℕ)

-- the part before `=` names a table with these columns and key, within the limits of a line
pub record SaysTable (bounds : Bounds) (declaration name : List ℕ) (columns : List Column) (key : List (List ℕ)) : Type 0 where
  pub said : Says (create_line declaration) (Create name columns key)
  pub within : fits bounds (Create name columns key) ≡ true

-- the part before `=` names no table
abbrev pub SaysNoTable : List ℕ → Type 0
SaysNoTable declaration = (name : List ℕ) (columns : List Column) (key : List (List ℕ)) → Says (create_line declaration) (Create name columns key) → ⊥

-- the part before `=` is longer than a line, or a command with it is past a limit
abbrev pub PassesLimit : Bounds → List ℕ → Type 0
PassesLimit bounds declaration = (bounds.line < length (create_line declaration)) ⊎ ((c : Command) × Says (create_line declaration) c × (fits bounds c ≡ false))

-- a command creates no table
abbrev pub CreatesNone : Command → Type 0
CreatesNone command = (name : List ℕ) (columns : List Column) (key : List (List ℕ)) → command ≡ Create name columns key → ⊥

-- why a part before `=` with a parenthesis is refused
abbrev pub IsRefusedDeclaration : Bounds → List ℕ → BadTable → Type 0
IsRefusedDeclaration bounds declaration Memory = Unit {0}
IsRefusedDeclaration bounds declaration NoName = ⊥
IsRefusedDeclaration bounds declaration NotColumns = SaysNoTable declaration
IsRefusedDeclaration bounds declaration Limit = PassesLimit bounds declaration
