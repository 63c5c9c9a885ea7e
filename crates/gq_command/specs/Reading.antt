-- Parsing commands from tokens, from left to right.
use Rattle.std.specs.Prelude.{Bool, true, false, List, [], ◌∷◌, Option, Some, None, if◌then◌else◌}
use Rattle.gq_token.specs.declared.token.Terminal.{Terminal}
use Rattle.gq_token.specs.declared.token.Terminal.TheVariants as terminal
use Rattle.gq_row.specs.declared.schema.Kind.{Kind}
use Rattle.gq_row.specs.declared.schema.Kind.TheVariants as kind
use Rattle.gq_token.specs.Results.{◌>>=◌}
use Rattle.gq_token.specs.Queue.{skip, column_comma}
use Rattle.gq_token.specs.Tokens.{same}
use Rattle.gq_token.specs.declared.token.Token.{Token}
use Rattle.gq_token.specs.declared.token.Token.TheVariants.{Fixed, Name, Number, Text}
use Rattle.gq_clause.specs.Reading.{name_at, items_at, names_at, literals_at, in_parentheses, clause_at, aggregates_at, tests_at}
use Rattle.gq_clause.specs.declared.aggregate.Aggregate.{Aggregate}
use Rattle.gq_command.specs.Commands.{Bytes, keeps_rules}
use Rattle.gq_command.specs.declared.command.By.{By}
use Rattle.gq_command.specs.declared.command.Command.{Command}
use Rattle.gq_command.specs.declared.command.Command.TheVariants.{Create, Drop, Load, Upsert, Delete, Show, Group, Distinct}
use Rattle.gq_command.specs.declared.command.Exists.{Exists}
use Rattle.gq_command.specs.declared.command.Payload.TheVariants as payload
use Rattle.gq_row.specs.declared.value.Value.{Value}
use Rattle.gq_row.specs.declared.schema.Column.{Column}

-- the kind that begins with `text`, given the tokens after it
unfoldable pub text_after : List Token → Kind × List Token
text_after ts = elim (skip terminal.NoCase ts) [ None ↦ (kind.Text, ts) | Some after ↦ (kind.NoCase, after) ]

unfoldable pub kind_at : List Token → Option (Kind × List Token)
kind_at [] = None
kind_at (Fixed u ∷ rest) = if same u terminal.Int then Some (kind.Int, rest) else (if same u terminal.Text then Some (text_after rest) else None)
kind_at (Name n ∷ rest) = None
kind_at (Number z ∷ rest) = None
kind_at (Text s ∷ rest) = None

unfoldable pub column_at : List Token → Option (Column × List Token)
column_at ts = do
  name ← name_at ts
  kind ← kind_at name.1
  Some (record { name = name.0; kind = kind.0 }, kind.1)

abbrev pub columns_at : List Token → Option (List Column × List Token)
columns_at ts = items_at column_at column_comma ts

-- the key after a comma, or none
unfoldable pub key_at : List Token → Option (List Bytes × List Token)
key_at ts = elim (skip terminal.Comma ts) [ None ↦ Some ([], ts) | Some after ↦ skip terminal.Key after >>= λ rest. in_parentheses names_at rest ]

-- a table's name, and the literals of a row
unfoldable pub row_at : List Token → Option ((Bytes × List Value) × List Token)
row_at ts = do
  table ← name_at ts
  values ← in_parentheses literals_at table.1
  Some ((table.0, values.0), values.1)

-- the forms, given the tokens after their first words
unfoldable pub create_at : List Token → Option (Command × List Token)
create_at ts = do
  table ← name_at ts
  opened ← skip terminal.Open table.1
  columns ← columns_at opened
  key ← key_at columns.1
  closed ← skip terminal.Close key.1
  Some (Create table.0 columns.0 key.0, closed)

-- what follows `exists`
unfoldable pub exists_after : Bool → List Token → Option (Exists × List Token)
exists_after negated ts = do
  table ← name_at ts
  theirs ← in_parentheses names_at table.1
  equal ← skip terminal.Equal theirs.1
  ours ← in_parentheses names_at equal
  Some (record { negated = negated; table = table.0; theirs = theirs.0; ours = ours.0 }, ours.1)

abbrev pub with_exists : Option (Exists × List Token) → Option (Option Exists × List Token)
with_exists read = read >>= λ e. Some (Some e.0, e.1)

-- `exists` or `not exists`, or none if neither comes first
unfoldable pub exists_at : List Token → Option (Option Exists × List Token)
exists_at ts = elim (skip terminal.Not ts) [
  | None ↦ elim (skip terminal.Exists ts) [ None ↦ Some (None, ts) | Some after ↦ with_exists (exists_after false after) ]
  | Some after ↦ skip terminal.Exists after >>= λ rest. with_exists (exists_after true rest)
]

-- the columns after `by`, with or without `rollup`
unfoldable pub by_after : List Token → Option (By × List Token)
by_after ts = elim (skip terminal.Rollup ts) [
  | None ↦ names_at ts >>= λ names. Some (record { columns = names.0; rollup = false }, names.1)
  | Some after ↦ in_parentheses names_at after >>= λ names. Some (record { columns = names.0; rollup = true }, names.1)
]

-- `by` and its columns, or none if `by` doesn't come first
unfoldable pub by_at : List Token → Option (By × List Token)
by_at ts = elim (skip terminal.By ts) [ None ↦ Some (record { columns = []; rollup = false }, ts) | Some after ↦ by_after after ]

-- the conditions after the aggregates, and with them the whole grouping
unfoldable pub conditions_after : Bytes → By → List Aggregate → List Token → Option (Command × List Token)
conditions_after table by shown ts = do
  tests ← clause_at terminal.Where tests_at ts
  exists ← exists_at tests.1
  having ← clause_at terminal.Having tests_at exists.1
  Some (Group table by shown tests.0 exists.0 having.0, having.1)

unfoldable pub group_at : List Token → Option (Command × List Token)
group_at ts = do
  table ← name_at ts
  by ← by_at table.1
  show ← skip terminal.Show by.1
  shown ← aggregates_at show
  conditions_after table.0 by.0 shown.0 shown.1

unfoldable pub distinct_at : List Token → Option (Command × List Token)
distinct_at ts = do
  table ← name_at ts
  on ← skip terminal.On table.1
  names ← names_at on
  tests ← clause_at terminal.Where tests_at names.1
  Some (Distinct table.0 names.0 tests.0, tests.1)

-- the form that begins with this word, given the tokens after it
unfoldable pub form_after : Terminal → List Token → Option (Command × List Token)
form_after terminal.Create ts = create_at ts
form_after terminal.Drop ts = do
  table ← name_at ts
  Some (Drop table.0, table.1)
form_after terminal.Load ts = do
  table ← name_at ts
  Some (Load table.0 payload.Open, table.1)
form_after terminal.Upsert ts = do
  row ← row_at ts
  Some (Upsert row.0.0 row.0.1, row.1)
form_after terminal.Delete ts = do
  row ← row_at ts
  Some (Delete row.0.0 row.0.1, row.1)
form_after terminal.Show ts = do
  table ← name_at ts
  Some (Show table.0, table.1)
form_after terminal.Group ts = group_at ts
form_after terminal.Distinct ts = distinct_at ts
form_after _ ts = None

unfoldable pub form_at : List Token → Option (Command × List Token)
form_at [] = None
form_at (Fixed first ∷ rest) = form_after first rest
form_at (Name n ∷ rest) = None
form_at (Number z ∷ rest) = None
form_at (Text s ∷ rest) = None

-- what was read, if no token is left
unfoldable pub ended : {A : Type 0} → A × List Token → Option A
ended (x, []) = Some x
ended (x, t ∷ ts) = None

-- the command that all of the tokens say, if they say one
unfoldable pub command_of : List Token → Option Command
command_of ts = do
  form ← form_at ts
  command ← ended form
  if keeps_rules command then Some command else None
