-- Commands: the tokens that the grammar writes for them, their rules and their limits.
use Rattle.std.specs.Prelude.{◌≡◌, ℕ, ◌==◌, Bool, true, false, List, [], ◌∷◌, ◌++◌, map, length, Option, Some, None, ◌&&◌, nat_le, bytes_eq}
use Rattle.std.specs.List.{list_all, flat_map}
use Rattle.gq_row.specs.Repeats.{no_repeats}
use Rattle.gq_row.specs.declared.limits.Bounds.{Bounds}
use Rattle.gq_row.specs.declared.schema.Column.{Column}
use Rattle.gq_row.specs.declared.schema.Kind.{Kind}
use Rattle.gq_row.specs.declared.schema.Kind.TheVariants as kind
use Rattle.gq_token.specs.declared.token.Terminal.TheVariants as terminal
use Rattle.gq_token.specs.declared.token.Token.{Token}
use Rattle.gq_token.specs.declared.token.Token.TheVariants.{Fixed, Name}
pub use Rattle.gq_clause.specs.Words.{Bytes, some, separated, clause, parenthesized, name_words, names_words, literals_words, aggregates_words, tests_clause, is_test, are_literals, is_row_test}
pub use Rattle.gq_clause.specs.Within.{aggregate_names, literal_texts, test_names, test_texts, is_at_most, test_fits}
use Rattle.gq_command.specs.declared.command.By.{By}
use Rattle.gq_command.specs.declared.command.Exists.{Exists}
use Rattle.gq_command.specs.declared.command.Payload.{Payload}
use Rattle.gq_command.specs.declared.command.Payload.TheVariants as payload
use Rattle.gq_command.specs.declared.command.Command.{Command}
use Rattle.gq_command.specs.declared.command.Command.TheVariants.{Create, Drop, Load, Upsert, Delete, Show, Group, Distinct}

-- the tokens that the grammar writes

abbrev pub kind_words : Kind → List Token
kind_words kind.Int = Fixed terminal.Int ∷ []
kind_words kind.Text = Fixed terminal.Text ∷ []
kind_words kind.NoCase = Fixed terminal.Text ∷ Fixed terminal.NoCase ∷ []

abbrev pub column_words : Column → List Token
column_words c = Name c.name ∷ kind_words c.kind

abbrev pub not_words : Bool → List Token
not_words true = Fixed terminal.Not ∷ []
not_words false = []

abbrev pub exists_words : Option Exists → List Token
exists_words None = []
exists_words (Some e) = not_words e.negated ++ (Fixed terminal.Exists ∷ Name e.table ∷ parenthesized (names_words e.theirs) ++ (Fixed terminal.Equal ∷ parenthesized (names_words e.ours)))

-- the columns after `by`, with or without `rollup`
abbrev pub columns_words : Bool → List Bytes → List Token
columns_words false columns = clause terminal.By terminal.Comma name_words columns
columns_words true columns = Fixed terminal.By ∷ Fixed terminal.Rollup ∷ parenthesized (names_words columns)

abbrev pub by_words : By → List Token
by_words by = columns_words by.rollup by.columns

abbrev pub key_words : List Bytes → List Token
key_words [] = []
key_words (n ∷ ns) = Fixed terminal.Comma ∷ Fixed terminal.Key ∷ parenthesized (names_words (n ∷ ns))

-- the tokens of a command, if each list that must have an item has one
unfoldable pub phrase : Command → List Token
phrase (Create t columns key) = Fixed terminal.Create ∷ Name t ∷ parenthesized (separated terminal.Comma column_words columns ++ key_words key)
phrase (Drop t) = Fixed terminal.Drop ∷ Name t ∷ []
phrase (Load t carried) = Fixed terminal.Load ∷ Name t ∷ []
phrase (Upsert t values) = Fixed terminal.Upsert ∷ Name t ∷ parenthesized (literals_words values)
phrase (Delete t values) = Fixed terminal.Delete ∷ Name t ∷ parenthesized (literals_words values)
phrase (Show t) = Fixed terminal.Show ∷ Name t ∷ []
phrase (Group t by shown tests exists having) =
    Fixed terminal.Group ∷ Name t ∷ by_words by
    ++ (Fixed terminal.Show ∷ aggregates_words shown
    ++ (tests_clause terminal.Where tests
    ++ (exists_words exists
    ++ tests_clause terminal.Having having)))
phrase (Distinct t on tests) =
    Fixed terminal.Distinct ∷ Name t ∷ Fixed terminal.On ∷ names_words on
    ++ tests_clause terminal.Where tests

-- the commands of the grammar

-- whether both lists of an `exists` have a name
abbrev pub exists_filled : Option Exists → Bool
exists_filled None = true
exists_filled (Some e) = some e.theirs && some e.ours

-- whether a rollup has a column
abbrev pub columns_filled : Bool → List Bytes → Bool
columns_filled false columns = true
columns_filled true columns = some columns

-- whether the grammar writes a command: each list that must have an item has one, and no literal is a text without case
abbrev pub grammatical : Command → Bool
grammatical (Create t columns key) = some columns
grammatical (Drop t) = true
grammatical (Load t carried) = true
grammatical (Upsert t values) = are_literals values
grammatical (Delete t values) = are_literals values
grammatical (Show t) = true
grammatical (Group t by shown tests exists having) = columns_filled by.rollup by.columns && (some shown && (exists_filled exists && (list_all is_test tests && list_all is_test having)))
grammatical (Distinct t on tests) = some on && list_all is_test tests

abbrev pub column_names : List Column → List Bytes
column_names columns = map (λ (c : Column). c.name) columns

abbrev pub same_length : Option Exists → Bool
same_length None = true
same_length (Some e) = length e.theirs == length e.ours

abbrev pub is_open : Payload → Bool
is_open payload.Open = true
is_open (payload.Bytes bytes) = false
is_open payload.TooLong = false
is_open payload.NoMemory = false

-- whether a command keeps the rules that the grammar doesn't express: no list names a column twice, no aggregate is in a `where`, the two lists of an `exists` have the same length, and a load has no payload yet
abbrev pub keeps_rules : Command → Bool
keeps_rules (Create t columns key) = no_repeats bytes_eq (column_names columns) && no_repeats bytes_eq key
keeps_rules (Drop t) = true
keeps_rules (Load t carried) = is_open carried
keeps_rules (Upsert t values) = true
keeps_rules (Delete t values) = true
keeps_rules (Show t) = true
keeps_rules (Group t by shown tests exists having) = no_repeats bytes_eq by.columns && (list_all is_row_test tests && same_length exists)
keeps_rules (Distinct t on tests) = no_repeats bytes_eq on && list_all is_row_test tests

-- whether a line can say a command
abbrev pub is_command : Command → Bool
is_command c = grammatical c && keeps_rules c

-- the command as its line says it: a load without its payload
abbrev pub as_said : Command → Command
as_said (Create t columns key) = Create t columns key
as_said (Drop t) = Drop t
as_said (Load t carried) = Load t payload.Open
as_said (Upsert t values) = Upsert t values
as_said (Delete t values) = Delete t values
as_said (Show t) = Show t
as_said (Group t by shown tests exists having) = Group t by shown tests exists having
as_said (Distinct t on tests) = Distinct t on tests

-- these tokens say the command
pub record SaysTokens (tokens : Option (List Token)) (c : Command) : Type 0 where
  pub written : tokens ≡ Some (phrase c)
  pub command : is_command c ≡ true

-- the limits of a line

abbrev pub exists_names : Option Exists → List Bytes
exists_names None = []
exists_names (Some e) = e.table ∷ (e.theirs ++ e.ours)

-- the names in a command
abbrev pub names : Command → List Bytes
names (Create t columns key) = t ∷ (column_names columns ++ key)
names (Drop t) = t ∷ []
names (Load t carried) = t ∷ []
names (Upsert t values) = t ∷ []
names (Delete t values) = t ∷ []
names (Show t) = t ∷ []
names (Group t by shown tests exists having) = t ∷ (by.columns ++ (flat_map aggregate_names shown ++ (flat_map test_names tests ++ (exists_names exists ++ flat_map test_names having))))
names (Distinct t on tests) = t ∷ (on ++ flat_map test_names tests)

-- the texts among the literals of a command
abbrev pub texts : Command → List Bytes
texts (Create t columns key) = []
texts (Drop t) = []
texts (Load t carried) = []
texts (Upsert t values) = flat_map literal_texts values
texts (Delete t values) = flat_map literal_texts values
texts (Show t) = []
texts (Group t by shown tests exists having) = flat_map test_texts tests ++ flat_map test_texts having
texts (Distinct t on tests) = flat_map test_texts tests

-- how many columns a command creates
abbrev pub columns_made : Command → ℕ
columns_made (Create t columns key) = length columns
columns_made (Drop t) = 0
columns_made (Load t carried) = 0
columns_made (Upsert t values) = 0
columns_made (Delete t values) = 0
columns_made (Show t) = 0
columns_made (Group t by shown tests exists having) = 0
columns_made (Distinct t on tests) = 0

-- how many aggregates a command shows
abbrev pub aggregates_shown : Command → ℕ
aggregates_shown (Create t columns key) = 0
aggregates_shown (Drop t) = 0
aggregates_shown (Load t carried) = 0
aggregates_shown (Upsert t values) = 0
aggregates_shown (Delete t values) = 0
aggregates_shown (Show t) = 0
aggregates_shown (Group t by shown tests exists having) = length shown
aggregates_shown (Distinct t on tests) = 0

-- whether the names of an `exists` have at most `most` bytes
abbrev pub exists_fits : ℕ → Option Exists → Bool
exists_fits most None = true
exists_fits most (Some e) = is_at_most most e.table && (list_all (is_at_most most) e.theirs && list_all (is_at_most most) e.ours)

-- whether a command is within the limits of a line, apart from the line's own length
abbrev pub fits : Bounds → Command → Bool
fits b c = list_all (is_at_most b.name) (names c) && (list_all (is_at_most b.text) (texts c) && (nat_le (columns_made c) b.columns && nat_le (aggregates_shown c) b.aggregates))
