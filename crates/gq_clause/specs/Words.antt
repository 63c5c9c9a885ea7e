-- The tokens that the grammar writes for clauses.
use Rattle.std.specs.Prelude.{Bool, true, false, List, [], ◌∷◌, ◌++◌, ◌&&◌}
use Rattle.std.specs.List.{list_all}
use Rattle.gq_row.specs.declared.value.Value.{Value}
use Rattle.gq_row.specs.declared.value.Value.TheVariants as value
pub use Rattle.gq_token.specs.Texts.{Bytes, some}
use Rattle.gq_token.specs.declared.token.Terminal.{Terminal}
use Rattle.gq_token.specs.declared.token.Terminal.TheVariants as terminal
use Rattle.gq_token.specs.declared.token.Token.{Token}
use Rattle.gq_token.specs.declared.token.Token.TheVariants.{Fixed, Name, Number, Text}
use Rattle.gq_clause.specs.declared.aggregate.Aggregate.{Aggregate}
use Rattle.gq_clause.specs.declared.aggregate.Aggregate.TheVariants.{CountAll, Count, CountDistinct, Sum, Min, Max}
use Rattle.gq_clause.specs.declared.condition.Operand.{Operand}
use Rattle.gq_clause.specs.declared.condition.Operand.TheVariants as operand
use Rattle.gq_row.specs.declared.comparison.Comparison.{Comparison}
use Rattle.gq_row.specs.declared.comparison.Comparison.TheVariants as comparison
use Rattle.gq_clause.specs.declared.condition.Test.{Test}
use Rattle.gq_clause.specs.declared.condition.Test.TheVariants.{Compare, IsNull, IsNotNull}

-- the items with a separator between each two
abbrev pub separated : {A : Type 0} → Terminal → (A → List Token) → List A → List Token
separated separator write [] = []
separated separator write (x ∷ []) = write x
separated separator write (x ∷ y ∷ rest) = write x ++ (Fixed separator ∷ separated separator write (y ∷ rest))

-- the items after a word, or nothing if there are none
abbrev pub clause : {A : Type 0} → Terminal → Terminal → (A → List Token) → List A → List Token
clause starter separator write [] = []
clause starter separator write (x ∷ rest) = Fixed starter ∷ separated separator write (x ∷ rest)

abbrev pub parenthesized : List Token → List Token
parenthesized inner = Fixed terminal.Open ∷ inner ++ (Fixed terminal.Close ∷ [])

abbrev pub name_words : Bytes → List Token
name_words n = Name n ∷ []

abbrev pub names_words : List Bytes → List Token
names_words ns = separated terminal.Comma name_words ns

abbrev pub literal_words : Value → List Token
literal_words value.Null = Fixed terminal.Null ∷ []
literal_words (value.Int z) = Number z ∷ []
literal_words (value.Text t) = Text t ∷ []
literal_words (value.NoCase t) = Text t ∷ []

abbrev pub literals_words : List Value → List Token
literals_words vs = separated terminal.Comma literal_words vs

abbrev pub aggregate_words : Aggregate → List Token
aggregate_words CountAll = Fixed terminal.Count ∷ parenthesized (Fixed terminal.Star ∷ [])
aggregate_words (Count n) = Fixed terminal.Count ∷ parenthesized (Name n ∷ [])
aggregate_words (CountDistinct n) = Fixed terminal.Count ∷ parenthesized (Fixed terminal.Distinct ∷ Name n ∷ [])
aggregate_words (Sum n) = Fixed terminal.Sum ∷ parenthesized (Name n ∷ [])
aggregate_words (Min n) = Fixed terminal.Min ∷ parenthesized (Name n ∷ [])
aggregate_words (Max n) = Fixed terminal.Max ∷ parenthesized (Name n ∷ [])

abbrev pub aggregates_words : List Aggregate → List Token
aggregates_words shown = separated terminal.Comma aggregate_words shown

abbrev pub operand_words : Operand → List Token
operand_words (operand.Column n) = Name n ∷ []
operand_words (operand.Literal v) = literal_words v
operand_words (operand.Aggregate a) = aggregate_words a

abbrev pub comparison_word : Comparison → Terminal
comparison_word comparison.Equal = terminal.Equal
comparison_word comparison.NotEqual = terminal.NotEqual
comparison_word comparison.Less = terminal.Less
comparison_word comparison.LessEqual = terminal.LessEqual
comparison_word comparison.Greater = terminal.Greater
comparison_word comparison.GreaterEqual = terminal.GreaterEqual

abbrev pub test_words : Test → List Token
test_words (Compare a o b) = operand_words a ++ (Fixed (comparison_word o) ∷ operand_words b)
test_words (IsNull a) = operand_words a ++ (Fixed terminal.Is ∷ Fixed terminal.Null ∷ [])
test_words (IsNotNull a) = operand_words a ++ (Fixed terminal.Is ∷ Fixed terminal.Not ∷ Fixed terminal.Null ∷ [])

abbrev pub tests_words : List Test → List Token
tests_words tests = separated terminal.And test_words tests

-- the tests after a word, or nothing if there are none
abbrev pub tests_clause : Terminal → List Test → List Token
tests_clause starter tests = clause starter terminal.And test_words tests

-- the valid literals, operands and tests: a string is a text, so a text without case isn't a literal

abbrev pub is_literal : Value → Bool
is_literal value.Null = true
is_literal (value.Int z) = true
is_literal (value.Text t) = true
is_literal (value.NoCase t) = false

abbrev pub is_operand : Operand → Bool
is_operand (operand.Column n) = true
is_operand (operand.Literal v) = is_literal v
is_operand (operand.Aggregate a) = true

abbrev pub is_test : Test → Bool
is_test (Compare a o b) = is_operand a && is_operand b
is_test (IsNull a) = is_operand a
is_test (IsNotNull a) = is_operand a

-- whether there is at least one, and each is a literal
abbrev pub are_literals : List Value → Bool
are_literals vs = some vs && list_all is_literal vs

-- whether there is at least one, and each is a test
abbrev pub are_tests : List Test → Bool
are_tests tests = some tests && list_all is_test tests

-- whether a row of a table has the operand: it isn't an aggregate
abbrev pub is_of_row : Operand → Bool
is_of_row (operand.Column n) = true
is_of_row (operand.Literal v) = true
is_of_row (operand.Aggregate a) = false

-- whether the test contains no aggregate
abbrev pub is_row_test : Test → Bool
is_row_test (Compare a o b) = is_of_row a && is_of_row b
is_row_test (IsNull a) = is_of_row a
is_row_test (IsNotNull a) = is_of_row a
