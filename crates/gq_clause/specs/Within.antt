-- The limits on names and texts in clauses.
use Rattle.std.specs.Prelude.{ℕ, Bool, List, [], ◌∷◌, ◌++◌, length, ◌&&◌, nat_le}
use Rattle.std.specs.List.{list_all}
use Rattle.gq_row.specs.declared.limits.Bounds.{Bounds}
use Rattle.gq_row.specs.declared.value.Value.{Value}
use Rattle.gq_row.specs.declared.value.Value.TheVariants as value
use Rattle.gq_clause.specs.declared.aggregate.Aggregate.{Aggregate}
use Rattle.gq_clause.specs.declared.aggregate.Aggregate.TheVariants.{CountAll, Count, CountDistinct, Sum, Min, Max}
use Rattle.gq_clause.specs.declared.condition.Operand.{Operand}
use Rattle.gq_clause.specs.declared.condition.Operand.TheVariants as operand
use Rattle.gq_clause.specs.declared.condition.Test.{Test}
use Rattle.gq_clause.specs.declared.condition.Test.TheVariants.{Compare, IsNull, IsNotNull}
use Rattle.gq_clause.specs.Words.{Bytes}

-- the names in an aggregate, an operand, a test
abbrev pub aggregate_names : Aggregate → List Bytes
aggregate_names CountAll = []
aggregate_names (Count n) = n ∷ []
aggregate_names (CountDistinct n) = n ∷ []
aggregate_names (Sum n) = n ∷ []
aggregate_names (Min n) = n ∷ []
aggregate_names (Max n) = n ∷ []

abbrev pub operand_names : Operand → List Bytes
operand_names (operand.Column n) = n ∷ []
operand_names (operand.Literal v) = []
operand_names (operand.Aggregate a) = aggregate_names a

abbrev pub test_names : Test → List Bytes
test_names (Compare a o b) = operand_names a ++ operand_names b
test_names (IsNull a) = operand_names a
test_names (IsNotNull a) = operand_names a

-- the texts in a literal, an operand, a test
abbrev pub literal_texts : Value → List Bytes
literal_texts value.Null = []
literal_texts (value.Int z) = []
literal_texts (value.Text t) = t ∷ []
literal_texts (value.NoCase t) = t ∷ []

abbrev pub operand_texts : Operand → List Bytes
operand_texts (operand.Column n) = []
operand_texts (operand.Literal v) = literal_texts v
operand_texts (operand.Aggregate a) = []

abbrev pub test_texts : Test → List Bytes
test_texts (Compare a o b) = operand_texts a ++ operand_texts b
test_texts (IsNull a) = operand_texts a
test_texts (IsNotNull a) = operand_texts a

abbrev pub is_at_most : ℕ → Bytes → Bool
is_at_most most bytes = nat_le (length bytes) most

-- whether the names and the texts are within their limits
abbrev pub operand_fits : Bounds → Operand → Bool
operand_fits b a = list_all (is_at_most b.name) (operand_names a) && list_all (is_at_most b.text) (operand_texts a)

abbrev pub test_fits : Bounds → Test → Bool
test_fits b t = list_all (is_at_most b.name) (test_names t) && list_all (is_at_most b.text) (test_texts t)
