-- Parsing clauses from tokens, from left to right.
use Rattle.std.specs.Prelude.{ℕ, zero, suc, List, [], ◌∷◌, length, Option, Some, None, if◌then◌else◌}
use Rattle.gq_token.specs.declared.token.Terminal.{Terminal}
use Rattle.gq_token.specs.declared.token.Terminal.TheVariants as terminal
use Rattle.gq_token.specs.Results.{◌>>=◌}
use Rattle.gq_token.specs.Queue.{skip}
use Rattle.gq_token.specs.Tokens.{same}
use Rattle.gq_token.specs.declared.token.Token.{Token}
use Rattle.gq_token.specs.declared.token.Token.TheVariants.{Fixed, Name, Number, Text}
use Rattle.gq_row.specs.declared.value.Value.{Value}
use Rattle.gq_row.specs.declared.value.Value.TheVariants as value
use Rattle.gq_clause.specs.declared.aggregate.Aggregate.{Aggregate}
use Rattle.gq_clause.specs.declared.aggregate.Aggregate.TheVariants.{CountAll, Count, CountDistinct, Sum, Min, Max}
use Rattle.gq_clause.specs.declared.condition.Operand.{Operand}
use Rattle.gq_clause.specs.declared.condition.Operand.TheVariants as operand
use Rattle.gq_row.specs.declared.comparison.Comparison.{Comparison}
use Rattle.gq_row.specs.declared.comparison.Comparison.TheVariants as comparison
use Rattle.gq_clause.specs.declared.condition.Test.{Test}
use Rattle.gq_clause.specs.declared.condition.Test.TheVariants.{Compare, IsNull, IsNotNull}
use Rattle.gq_clause.specs.Words.{Bytes}

unfoldable pub name_at : List Token → Option (Bytes × List Token)
name_at [] = None
name_at (Fixed u ∷ rest) = None
name_at (Name n ∷ rest) = Some (n, rest)
name_at (Number z ∷ rest) = None
name_at (Text s ∷ rest) = None

unfoldable pub literal_at : List Token → Option (Value × List Token)
literal_at [] = None
literal_at (Fixed u ∷ rest) = if same u terminal.Null then Some (value.Null, rest) else None
literal_at (Name n ∷ rest) = None
literal_at (Number z ∷ rest) = Some (value.Int z, rest)
literal_at (Text s ∷ rest) = Some (value.Text s, rest)

-- at most `n` items with separators between them, until no separator follows
unfoldable pub items_within : {A : Type 0} → (List Token → Option (A × List Token)) → (List Token → Option (List Token)) → ℕ → List Token → Option (List A × List Token)
items_within item next zero ts = None
items_within item next (suc n) ts = item ts >>= λ x. elim (next x.1) [ None ↦ Some (x.0 ∷ [], x.1) | Some after ↦ items_within item next n after >>= λ y. Some (x.0 ∷ y.0, y.1) ]

abbrev pub items_at : {A : Type 0} → (List Token → Option (A × List Token)) → (List Token → Option (List Token)) → List Token → Option (List A × List Token)
items_at item next ts = items_within item next (length ts) ts

abbrev pub names_at : List Token → Option (List Bytes × List Token)
names_at ts = items_at name_at (skip terminal.Comma) ts

abbrev pub literals_at : List Token → Option (List Value × List Token)
literals_at ts = items_at literal_at (skip terminal.Comma) ts

unfoldable pub in_parentheses : {A : Type 0} → (List Token → Option (A × List Token)) → List Token → Option (A × List Token)
in_parentheses inner ts = do
  opened ← skip terminal.Open ts
  x ← inner opened
  closed ← skip terminal.Close x.1
  Some (x.0, closed)

-- the items after a word, or none if it doesn't come first
unfoldable pub clause_at : {A : Type 0} → Terminal → (List Token → Option (List A × List Token)) → List Token → Option (List A × List Token)
clause_at starter items ts = elim (skip starter ts) [ None ↦ Some ([], ts) | Some after ↦ items after ]

-- what is in the parentheses after `count`
unfoldable pub counted_at : List Token → Option (Aggregate × List Token)
counted_at (Fixed terminal.Star ∷ rest) = Some (CountAll, rest)
counted_at (Fixed terminal.Distinct ∷ rest) = do
  column ← name_at rest
  Some (CountDistinct column.0, column.1)
counted_at (Name n ∷ rest) = Some (Count n, rest)
counted_at _ = None

-- what is in the parentheses after the word of an aggregate
unfoldable pub aggregate_within : Terminal → List Token → Option (Aggregate × List Token)
aggregate_within terminal.Count ts = counted_at ts
aggregate_within terminal.Sum ts = do
  column ← name_at ts
  Some (Sum column.0, column.1)
aggregate_within terminal.Min ts = do
  column ← name_at ts
  Some (Min column.0, column.1)
aggregate_within terminal.Max ts = do
  column ← name_at ts
  Some (Max column.0, column.1)
aggregate_within _ ts = None

-- the aggregate that begins with the word, given the tokens after it
unfoldable pub aggregate_after : Terminal → List Token → Option (Aggregate × List Token)
aggregate_after word ts = in_parentheses (aggregate_within word) ts

unfoldable pub aggregate_at : List Token → Option (Aggregate × List Token)
aggregate_at [] = None
aggregate_at (Fixed word ∷ rest) = aggregate_after word rest
aggregate_at (Name n ∷ rest) = None
aggregate_at (Number z ∷ rest) = None
aggregate_at (Text s ∷ rest) = None

abbrev pub aggregates_at : List Token → Option (List Aggregate × List Token)
aggregates_at ts = items_at aggregate_at (skip terminal.Comma) ts

unfoldable pub operand_at : List Token → Option (Operand × List Token)
operand_at [] = None
operand_at (Fixed word ∷ rest) = if same word terminal.Null then Some (operand.Literal value.Null, rest) else (aggregate_after word rest >>= λ a. Some (operand.Aggregate a.0, a.1))
operand_at (Name n ∷ rest) = Some (operand.Column n, rest)
operand_at (Number z ∷ rest) = Some (operand.Literal (value.Int z), rest)
operand_at (Text s ∷ rest) = Some (operand.Literal (value.Text s), rest)

unfoldable pub comparison_at : List Token → Option (Comparison × List Token)
comparison_at (Fixed terminal.Equal ∷ rest) = Some (comparison.Equal, rest)
comparison_at (Fixed terminal.NotEqual ∷ rest) = Some (comparison.NotEqual, rest)
comparison_at (Fixed terminal.Less ∷ rest) = Some (comparison.Less, rest)
comparison_at (Fixed terminal.LessEqual ∷ rest) = Some (comparison.LessEqual, rest)
comparison_at (Fixed terminal.Greater ∷ rest) = Some (comparison.Greater, rest)
comparison_at (Fixed terminal.GreaterEqual ∷ rest) = Some (comparison.GreaterEqual, rest)
comparison_at _ = None

-- the test that begins with the operand and `is`, given the tokens after them
unfoldable pub null_test_after : Operand → List Token → Option (Test × List Token)
null_test_after a ts = elim (skip terminal.Not ts) [
  | None ↦ skip terminal.Null ts >>= λ rest. Some (IsNull a, rest)
  | Some after ↦ skip terminal.Null after >>= λ rest. Some (IsNotNull a, rest)
]

-- a sign, and the operand to its right
abbrev pub right_at : List Token → Option ((Comparison × Operand) × List Token)
right_at ts = comparison_at ts >>= λ sign. operand_at sign.1 >>= λ b. Some ((sign.0, b.0), b.1)

-- the test that begins with the operand and a sign, given the tokens after the operand
abbrev pub compared_at : Operand → List Token → Option (Test × List Token)
compared_at a ts = right_at ts >>= λ right. Some (Compare a right.0.0 right.0.1, right.1)

unfoldable pub test_at : List Token → Option (Test × List Token)
test_at ts = operand_at ts >>= λ a. elim (skip terminal.Is a.1) [ None ↦ compared_at a.0 a.1 | Some after ↦ null_test_after a.0 after ]

abbrev pub tests_at : List Token → Option (List Test × List Token)
tests_at ts = items_at test_at (skip terminal.And) ts
