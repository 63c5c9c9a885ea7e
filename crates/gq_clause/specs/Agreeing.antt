-- Parsing and writing agree.
use Rattle.std.specs.Prelude.{◌≡◌, Bool, true, List, ◌++◌, Option, Some, None}
use Rattle.gq_token.specs.declared.token.Terminal.{Terminal}
use Rattle.gq_token.specs.declared.token.Terminal.TheVariants as terminal
use Rattle.gq_token.specs.declared.token.Token.{Token}
use Rattle.gq_token.specs.Queue.{skip}
use Rattle.gq_row.specs.declared.value.Value.{Value}
use Rattle.gq_clause.specs.declared.aggregate.Aggregate.{Aggregate}
use Rattle.gq_clause.specs.declared.condition.Test.{Test}
use Rattle.gq_clause.specs.Words.{Bytes, some, are_literals, are_tests, names_words, literals_words, aggregates_words, tests_words}
use Rattle.gq_clause.specs.Reading.{names_at, literals_at, aggregates_at, tests_at}

-- a list that is read is valid, and was written so; a valid list that is written is read again, whatever follows it but a separator
pub record Agree (A : Type 0) (valid : List A → Bool) (read : List Token → Option (List A × List Token)) (write : List A → List Token) (separator : Terminal) : Type 0 where
  pub written : (ts : List Token) (xs : List A) (rest : List Token) → read ts ≡ Some (xs, rest) → (ts ≡ write xs ++ rest) × (valid xs ≡ true)
  pub again : (xs : List A) (rest : List Token) → valid xs ≡ true → skip separator rest ≡ None → read (write xs ++ rest) ≡ Some (xs, rest)

abbrev pub NamesAgree : Type 0
NamesAgree = Agree Bytes some names_at names_words terminal.Comma

abbrev pub LiteralsAgree : Type 0
LiteralsAgree = Agree Value are_literals literals_at literals_words terminal.Comma

abbrev pub AggregatesAgree : Type 0
AggregatesAgree = Agree Aggregate some aggregates_at aggregates_words terminal.Comma

abbrev pub TestsAgree : Type 0
TestsAgree = Agree Test are_tests tests_at tests_words terminal.And
