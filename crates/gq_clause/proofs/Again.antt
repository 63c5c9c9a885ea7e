-- What is written of clauses is read again, where it is valid.
use Rattle.std.proofs.Common.{◌≡◌, ℕ, zero, suc, ◌≤◌, ◌<◌, Bool, true, false, cond, List, [], ◌∷◌, ◌++◌, Option, Some, None, length, refl, sym, ap, ◌∙◌, append_assoc, arith, length-append}
use Rattle.std.proofs.lemmas.List.{append-nil}
use Rattle.std.specs.List.{list_all}
use Rattle.gq_token.specs.declared.token.Terminal.{Terminal}
use Rattle.gq_token.specs.declared.token.Terminal.TheVariants as terminal
use Rattle.gq_token.specs.declared.token.Token.{Token}
use Rattle.gq_token.specs.declared.token.Token.TheVariants.{Fixed}
use Rattle.gq_token.specs.Queue.{skip}
use Rattle.gq_token.specs.Tokens.{same}
use Rattle.gq_row.specs.declared.value.Value.{Value}
use Rattle.gq_row.specs.declared.value.Value.TheVariants as value
use Rattle.gq_clause.specs.declared.aggregate.Aggregate.{Aggregate}
use Rattle.gq_clause.specs.declared.aggregate.Aggregate.TheVariants.{CountAll, Count, CountDistinct, Sum, Min, Max}
use Rattle.gq_clause.specs.declared.condition.Operand.{Operand}
use Rattle.gq_clause.specs.declared.condition.Operand.TheVariants as operand
use Rattle.gq_row.specs.declared.comparison.Comparison.{Comparison}
use Rattle.gq_row.specs.declared.comparison.Comparison.TheVariants as comparison
use Rattle.gq_clause.specs.declared.condition.Test.{Test}
use Rattle.gq_clause.specs.declared.condition.Test.TheVariants.{Compare, IsNull, IsNotNull}
use Rattle.gq_clause.specs.Words.{Bytes, some, separated, clause, parenthesized, name_words, names_words, literal_words, literals_words, aggregate_words, aggregates_words, operand_words, comparison_word, test_words, tests_words, tests_clause, is_literal, is_operand, is_test, are_literals, are_tests}
use Rattle.gq_clause.specs.Reading.{name_at, literal_at, items_within, items_at, names_at, literals_at, in_parentheses, clause_at, counted_at, aggregate_within, aggregate_after, aggregate_at, aggregates_at, operand_at, comparison_at, null_test_after, test_at, tests_at}
use Rattle.gq_clause.proofs.Sound.{same_self, both, both_true}

-- a valid item that is written is read, before all that may follow it
abbrev pub AgainWhere : {A : Type 0} → (A → Bool) → (List Token → Type 0) → (List Token → Option (A × List Token)) → (A → List Token) → Type 0
AgainWhere {A} valid Follows item write = (x : A) (rest : List Token) → valid x ≡ true → Follows rest → item (write x ++ rest) ≡ Some (x, rest)

-- a valid item that is written is read, whatever follows it
abbrev pub AgainIf : {A : Type 0} → (A → Bool) → (List Token → Option (A × List Token)) → (A → List Token) → Type 0
AgainIf {A} valid item write = (x : A) (rest : List Token) → valid x ≡ true → item (write x ++ rest) ≡ Some (x, rest)

-- each item that is written is read, whatever follows it
abbrev pub Again : {A : Type 0} → (List Token → Option (A × List Token)) → (A → List Token) → Type 0
Again {A} item write = (x : A) (rest : List Token) → item (write x ++ rest) ≡ Some (x, rest)

pub name_again : Again name_at name_words
unfolding name_at
name_again x rest = refl

literal_again : AgainIf is_literal literal_at literal_words
unfolding literal_at
literal_again value.Null rest valid = refl
literal_again (value.Int z) rest valid = refl
literal_again (value.Text t) rest valid = refl
literal_again (value.NoCase t) rest valid = absurd cc

-- each item takes a token
abbrev pub Takes : {A : Type 0} → (A → List Token) → Type 0
Takes {A} write = (x : A) → 0 < length (write x)

module _ {A : Type 0} (item : List Token → Option (A × List Token)) (next : List Token → Option (List Token)) (write : A → List Token) (separator : Terminal) (valid : A → Bool) (Follows : List Token → Type 0)
    (again : AgainWhere valid Follows item write) (takes : Takes write) (parts : (rest : List Token) → Follows (Fixed separator ∷ rest))
    (goes_on : (x : A) (rest : List Token) → next (Fixed separator ∷ (write x ++ rest)) ≡ Some (write x ++ rest)) where
  -- the items after a separator
  goes_on_list : (y : A) (ys : List A) (rest : List Token) → next (Fixed separator ∷ (separated separator write (y ∷ ys) ++ rest)) ≡ Some (separated separator write (y ∷ ys) ++ rest)
  goes_on_list y [] rest = goes_on y rest
  goes_on_list y (z ∷ zs) rest =
      let e = append_assoc (write y) (Fixed separator ∷ separated separator write (z ∷ zs)) rest in
      ap (λ (l : List Token). next (Fixed separator ∷ l)) e ∙ goes_on y (Fixed separator ∷ separated separator write (z ∷ zs) ++ rest) ∙ ap Some (sym e)

  items_again : (n : ℕ) (x : A) (xs : List A) (rest : List Token) → length (x ∷ xs) ≤ n → list_all valid (x ∷ xs) ≡ true → Follows rest → next rest ≡ None → items_within item next n (separated separator write (x ∷ xs) ++ rest) ≡ Some (x ∷ xs, rest)
  unfolding items_within
  items_again zero x xs rest enough fine follows ends = absurd (omega arith)
  items_again (suc n) x [] rest enough fine follows ends = rw (again x rest (both_true (valid x) true fine).0 follows, ends) refl
  items_again (suc n) x (y ∷ ys) rest enough fine follows ends =
      let each = both_true (valid x) (list_all valid (y ∷ ys)) fine in
      let behind : List Token = separated separator write (y ∷ ys) ++ rest in
      let e : separated separator write (x ∷ y ∷ ys) ++ rest ≡ write x ++ (Fixed separator ∷ behind) = append_assoc (write x) (Fixed separator ∷ separated separator write (y ∷ ys)) rest in
      rw (e, again x (Fixed separator ∷ behind) each.0 (parts behind), goes_on_list y ys rest, items_again n y ys rest (omega arith) each.1 follows ends) refl

  enough_tokens : (x : A) (xs : List A) → length (x ∷ xs) ≤ length (separated separator write (x ∷ xs))
  enough_tokens x [] = omega (arith, takes x)
  enough_tokens x (y ∷ ys) = omega (arith, takes x, enough_tokens y ys, length-append (write x) (Fixed separator ∷ separated separator write (y ∷ ys)))

  pub list_again : (xs : List A) (rest : List Token) → some xs ≡ true → list_all valid xs ≡ true → Follows rest → next rest ≡ None → items_at item next (separated separator write xs ++ rest) ≡ Some (xs, rest)
  list_again [] rest filled fine follows ends = absurd cc
  list_again (x ∷ xs) rest filled fine follows ends =
      let enough : length (x ∷ xs) ≤ length (separated separator write (x ∷ xs) ++ rest) = omega (arith, enough_tokens x xs, length-append (separated separator write (x ∷ xs)) rest) in
      items_again (length (separated separator write (x ∷ xs) ++ rest)) x xs rest enough fine follows ends

-- where each item is valid

pub always : {A : Type 0} → A → Bool
always x = true

pub all_always : {A : Type 0} (xs : List A) → list_all always xs ≡ true
unfolding always
all_always [] = refl
all_always (x ∷ xs) = all_always xs

pub names_again : (xs : List Bytes) (rest : List Token) → some xs ≡ true → skip terminal.Comma rest ≡ None → names_at (names_words xs ++ rest) ≡ Some (xs, rest)
names_again xs rest filled ends =
    list_again name_at (skip terminal.Comma) name_words terminal.Comma always (λ l. Unit {0}) (λ x l v f. name_again x l) (λ x. omega arith) (λ l. tt) (λ x l. refl) xs rest filled (all_always xs) tt ends

literal_takes : Takes literal_words
literal_takes value.Null = omega arith
literal_takes (value.Int z) = omega arith
literal_takes (value.Text t) = omega arith
literal_takes (value.NoCase t) = omega arith

pub literals_again : (xs : List Value) (rest : List Token) → are_literals xs ≡ true → skip terminal.Comma rest ≡ None → literals_at (literals_words xs ++ rest) ≡ Some (xs, rest)
literals_again xs rest valid ends =
    let p = both_true (some xs) (list_all is_literal xs) valid in
    list_again literal_at (skip terminal.Comma) literal_words terminal.Comma is_literal (λ l. Unit {0}) (λ x l v f. literal_again x l v) literal_takes (λ l. tt) (λ x l. refl) xs rest p.0 p.1 tt ends

pub in_parentheses_again : {A : Type 0} (inner : List Token → Option (A × List Token)) (text : List Token) (x : A) (rest : List Token)
    → inner (text ++ (Fixed terminal.Close ∷ rest)) ≡ Some (x, Fixed terminal.Close ∷ rest) → in_parentheses inner (parenthesized text ++ rest) ≡ Some (x, rest)
unfolding in_parentheses
in_parentheses_again inner text x rest h = rw (append_assoc text (Fixed terminal.Close ∷ []) rest, h) refl

-- the items after a word, or none if it doesn't follow
pub clause_again : {A : Type 0} (starter separator : Terminal) (items : List Token → Option (List A × List Token)) (write : A → List Token) (xs : List A) (rest : List Token)
    → (some xs ≡ true → skip separator rest ≡ None → items (separated separator write xs ++ rest) ≡ Some (xs, rest))
    → skip starter rest ≡ None → skip separator rest ≡ None → clause_at starter items (clause starter separator write xs ++ rest) ≡ Some (xs, rest)
unfolding clause_at
clause_again starter separator items write [] rest again starts ends = rw starts refl
clause_again {A} starter separator items write (x ∷ xs) rest again starts ends =
    let behind : List Token = separated separator write (x ∷ xs) ++ rest in
    let f : Option (List Token) → Option (List A × List Token) = λ o. elim o [ None ↦ Some ([], Fixed starter ∷ behind) | Some after ↦ items after ] in
    ap (λ (b : Bool). f (cond b (Some behind) None)) (same_self starter) ∙ again refl ends

aggregate_again : Again aggregate_at aggregate_words
unfolding aggregate_at aggregate_after aggregate_within counted_at in_parentheses name_at
aggregate_again CountAll rest = refl
aggregate_again (Count n) rest = refl
aggregate_again (CountDistinct n) rest = refl
aggregate_again (Sum n) rest = refl
aggregate_again (Min n) rest = refl
aggregate_again (Max n) rest = refl

aggregate_takes : Takes aggregate_words
aggregate_takes CountAll = omega arith
aggregate_takes (Count n) = omega arith
aggregate_takes (CountDistinct n) = omega arith
aggregate_takes (Sum n) = omega arith
aggregate_takes (Min n) = omega arith
aggregate_takes (Max n) = omega arith

pub aggregates_again : (xs : List Aggregate) (rest : List Token) → some xs ≡ true → skip terminal.Comma rest ≡ None → aggregates_at (aggregates_words xs ++ rest) ≡ Some (xs, rest)
aggregates_again xs rest filled ends =
    list_again aggregate_at (skip terminal.Comma) aggregate_words terminal.Comma always (λ l. Unit {0}) (λ x l v f. aggregate_again x l) aggregate_takes (λ l. tt) (λ x l. refl) xs rest filled (all_always xs) tt ends

operand_again : AgainIf is_operand operand_at operand_words
unfolding operand_at aggregate_after aggregate_within counted_at in_parentheses name_at
operand_again (operand.Column n) rest valid = refl
operand_again (operand.Literal value.Null) rest valid = refl
operand_again (operand.Literal (value.Int z)) rest valid = refl
operand_again (operand.Literal (value.Text t)) rest valid = refl
operand_again (operand.Literal (value.NoCase t)) rest valid = absurd cc
operand_again (operand.Aggregate CountAll) rest valid = refl
operand_again (operand.Aggregate (Count n)) rest valid = refl
operand_again (operand.Aggregate (CountDistinct n)) rest valid = refl
operand_again (operand.Aggregate (Sum n)) rest valid = refl
operand_again (operand.Aggregate (Min n)) rest valid = refl
operand_again (operand.Aggregate (Max n)) rest valid = refl

compare_again : (a : Operand) (o : Comparison) (b : Operand) (rest : List Token) → is_operand a ≡ true → is_operand b ≡ true → test_at (operand_words a ++ (Fixed (comparison_word o) ∷ (operand_words b ++ rest))) ≡ Some (Compare a o b, rest)
unfolding test_at comparison_at
compare_again a comparison.Equal b rest va vb = rw (operand_again a (Fixed terminal.Equal ∷ (operand_words b ++ rest)) va, operand_again b rest vb) refl
compare_again a comparison.NotEqual b rest va vb = rw (operand_again a (Fixed terminal.NotEqual ∷ (operand_words b ++ rest)) va, operand_again b rest vb) refl
compare_again a comparison.Less b rest va vb = rw (operand_again a (Fixed terminal.Less ∷ (operand_words b ++ rest)) va, operand_again b rest vb) refl
compare_again a comparison.LessEqual b rest va vb = rw (operand_again a (Fixed terminal.LessEqual ∷ (operand_words b ++ rest)) va, operand_again b rest vb) refl
compare_again a comparison.Greater b rest va vb = rw (operand_again a (Fixed terminal.Greater ∷ (operand_words b ++ rest)) va, operand_again b rest vb) refl
compare_again a comparison.GreaterEqual b rest va vb = rw (operand_again a (Fixed terminal.GreaterEqual ∷ (operand_words b ++ rest)) va, operand_again b rest vb) refl

is_null_again : (a : Operand) (rest : List Token) → is_operand a ≡ true → test_at (operand_words a ++ (Fixed terminal.Is ∷ Fixed terminal.Null ∷ rest)) ≡ Some (IsNull a, rest)
unfolding test_at null_test_after
is_null_again a rest valid = rw (operand_again a (Fixed terminal.Is ∷ Fixed terminal.Null ∷ rest) valid) refl

is_not_null_again : (a : Operand) (rest : List Token) → is_operand a ≡ true → test_at (operand_words a ++ (Fixed terminal.Is ∷ Fixed terminal.Not ∷ Fixed terminal.Null ∷ rest)) ≡ Some (IsNotNull a, rest)
unfolding test_at null_test_after
is_not_null_again a rest valid = rw (operand_again a (Fixed terminal.Is ∷ Fixed terminal.Not ∷ Fixed terminal.Null ∷ rest) valid) refl

test_again : AgainIf is_test test_at test_words
test_again (Compare a o b) rest valid =
    let p = both_true (is_operand a) (is_operand b) valid in
    ap test_at (append_assoc (operand_words a) (Fixed (comparison_word o) ∷ operand_words b) rest) ∙ compare_again a o b rest p.0 p.1
test_again (IsNull a) rest valid = ap test_at (append_assoc (operand_words a) (Fixed terminal.Is ∷ Fixed terminal.Null ∷ []) rest) ∙ is_null_again a rest valid
test_again (IsNotNull a) rest valid = ap test_at (append_assoc (operand_words a) (Fixed terminal.Is ∷ Fixed terminal.Not ∷ Fixed terminal.Null ∷ []) rest) ∙ is_not_null_again a rest valid

operand_takes : Takes operand_words
operand_takes (operand.Column n) = omega arith
operand_takes (operand.Literal v) = literal_takes v
operand_takes (operand.Aggregate a) = aggregate_takes a

test_takes : Takes test_words
test_takes (Compare a o b) = omega (arith, operand_takes a, length-append (operand_words a) (Fixed (comparison_word o) ∷ operand_words b))
test_takes (IsNull a) = omega (arith, operand_takes a, length-append (operand_words a) (Fixed terminal.Is ∷ Fixed terminal.Null ∷ []))
test_takes (IsNotNull a) = omega (arith, operand_takes a, length-append (operand_words a) (Fixed terminal.Is ∷ Fixed terminal.Not ∷ Fixed terminal.Null ∷ []))

pub tests_again : (xs : List Test) (rest : List Token) → are_tests xs ≡ true → skip terminal.And rest ≡ None → tests_at (tests_words xs ++ rest) ≡ Some (xs, rest)
tests_again xs rest valid ends =
    let p = both_true (some xs) (list_all is_test xs) valid in
    list_again test_at (skip terminal.And) test_words terminal.And is_test (λ l. Unit {0}) (λ x l v f. test_again x l v) test_takes (λ l. tt) (λ x l. refl) xs rest p.0 p.1 tt ends

-- a word that begins neither the clause nor what follows it
pub not_led : {A : Type 0} (word starter separator : Terminal) (write : A → List Token) (xs : List A) (rest : List Token) → same starter word ≡ false → skip word rest ≡ None → skip word (clause starter separator write xs ++ rest) ≡ None
not_led word starter separator write [] rest other none = none
not_led word starter separator write (x ∷ xs) rest other none = ap (λ (b : Bool). cond b (Some (separated separator write (x ∷ xs) ++ rest)) None) other

-- tests after a word, before other clauses, and at the end
pub tests_clause_again : (starter : Terminal) (tests : List Test) (rest : List Token) → list_all is_test tests ≡ true → skip starter rest ≡ None → skip terminal.And rest ≡ None → clause_at starter tests_at (tests_clause starter tests ++ rest) ≡ Some (tests, rest)
tests_clause_again starter tests rest valid starts ends =
    clause_again starter terminal.And tests_at test_words tests rest (λ filled ends. tests_again tests rest (both (some tests) (list_all is_test tests) filled valid) ends) starts ends

pub tests_at_end : (starter : Terminal) (tests : List Test) → list_all is_test tests ≡ true → clause_at starter tests_at (tests_clause starter tests) ≡ Some (tests, [])
tests_at_end starter tests valid = ap (clause_at starter tests_at) (sym (append-nil (tests_clause starter tests))) ∙ tests_clause_again starter tests [] valid refl refl
