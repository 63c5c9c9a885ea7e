-- What is read of clauses is valid.
use Rattle.std.proofs.Common.{◌≡◌, ℕ, zero, suc, Bool, true, List, [], ◌∷◌, ◌++◌, Option, Some, None, length, refl, sym, ap, ◌∙◌, ⊎_elim}
use Rattle.std.specs.List.{list_all}
use Rattle.gq_token.specs.declared.token.Terminal.{Terminal}
use Rattle.gq_token.specs.declared.token.Terminal.TheVariants as terminal
use Rattle.gq_token.specs.declared.token.Token.{Token}
use Rattle.gq_token.specs.declared.token.Token.TheVariants.{Fixed, Name, Number, Text}
use Rattle.gq_token.specs.Results.{◌>>=◌}
use Rattle.gq_token.specs.Queue.{skip}
use Rattle.gq_token.specs.Tokens.{same}
use Rattle.gq_row.specs.declared.value.Value.{Value}
use Rattle.gq_row.specs.declared.value.Value.TheVariants as value
use Rattle.gq_clause.specs.declared.condition.Operand.{Operand}
use Rattle.gq_clause.specs.declared.condition.Operand.TheVariants as operand
use Rattle.gq_clause.specs.declared.condition.Test.{Test}
use Rattle.gq_row.specs.declared.comparison.Comparison.{Comparison}
use Rattle.gq_clause.specs.declared.condition.Test.TheVariants.{Compare, IsNull, IsNotNull}
use Rattle.gq_clause.specs.Words.{some, literals_words, tests_words, test_words, tests_clause, is_literal, is_operand, is_test, are_literals, are_tests}
use Rattle.gq_clause.specs.Reading.{literal_at, items_within, literals_at, clause_at, aggregate_after, operand_at, comparison_at, null_test_after, right_at, compared_at, test_at, tests_at}
use Rattle.gq_clause.proofs.Sound.{both, bind_some, guard_some, pair_is, chosen, literals_sound, tests_sound, clause_sound}

-- what is read is valid
abbrev pub Valid : {A : Type 0} → (A → Bool) → (List Token → Option (A × List Token)) → Type 0
Valid {A} valid item = (ts : List Token) (x : A) (rest : List Token) → item ts ≡ Some (x, rest) → valid x ≡ true

valid_is : {A : Type 0} (valid : A → Bool) (x y : A) (ts rest : List Token) → ◌≡◌ {A = Option (A × List Token)} (Some (x, ts)) (Some (y, rest)) → valid x ≡ true → valid y ≡ true
valid_is valid x y ts rest e h = ap valid (sym (pair_is x y ts rest e).0) ∙ h

items_valid : {A : Type 0} (item : List Token → Option (A × List Token)) (next : List Token → Option (List Token)) (valid : A → Bool) → Valid valid item
    → (n : ℕ) (ts : List Token) (xs : List A) (rest : List Token) → items_within item next n ts ≡ Some (xs, rest) → list_all valid xs ≡ true
unfolding items_within
items_valid item next valid each zero ts xs rest e = absurd cc
items_valid {A} item next valid each (suc n) ts xs rest e =
    let f : List Token → A → Option (List Token) → Option (List A × List Token) = λ after x o. elim o [ None ↦ Some (x ∷ [], after) | Some more ↦ items_within item next n more >>= λ y. Some (x ∷ y.0, y.1) ] in
    let a = bind_some (item ts) (λ x. f x.1 x.0 (next x.1)) (xs, rest) e in
    let first = each ts a.0.0 a.0.1 a.1 in
    let P : Option (List Token) → Type 0 = λ o. f a.0.1 a.0.0 o ≡ Some (xs, rest) → list_all valid xs ≡ true in
    let by_cases : (o : Option (List Token)) → P o = λ o. elim o as P [
      | None ↦ λ g. valid_is (list_all valid) (a.0.0 ∷ []) xs a.0.1 rest g (both (valid a.0.0) true first refl)
      | Some more ↦ λ g.
          let b = bind_some (items_within item next n more) (λ y. Some (a.0.0 ∷ y.0, y.1)) (xs, rest) g in
          let others = items_valid item next valid each n more b.0.0 b.0.1 b.1 in
          valid_is (list_all valid) (a.0.0 ∷ b.0.0) xs b.0.1 rest b.2 (both (valid a.0.0) (list_all valid b.0.0) first others)
    ] in
    by_cases (next a.0.1) a.2

-- items after a word, or none
clause_valid : {A : Type 0} (starter : Terminal) (items : List Token → Option (List A × List Token)) (valid : A → Bool) → Valid (list_all valid) items → Valid (list_all valid) (clause_at starter items)
unfolding clause_at
clause_valid {A} starter items valid each ts x rest e =
    let f : Option (List Token) → Option (List A × List Token) = λ o. elim o [ None ↦ Some ([], ts) | Some after ↦ items after ] in
    let P : Option (List Token) → Type 0 = λ o. f o ≡ Some (x, rest) → list_all valid x ≡ true in
    let by_cases : (o : Option (List Token)) → P o = λ o. elim o as P [
      | None ↦ λ g. valid_is (list_all valid) [] x ts rest g refl
      | Some after ↦ λ g. each after x rest g
    ] in
    by_cases (skip starter ts) e

literal_valid : Valid is_literal literal_at
unfolding literal_at
literal_valid [] x rest e = absurd cc
literal_valid (Fixed u ∷ ts) x rest e = let g = guard_some (same u terminal.Null) (value.Null, ts) (x, rest) e in valid_is is_literal value.Null x ts rest (ap Some g.1) refl
literal_valid (Name n ∷ ts) x rest e = absurd cc
literal_valid (Number z ∷ ts) x rest e = valid_is is_literal (value.Int z) x ts rest e refl
literal_valid (Text t ∷ ts) x rest e = valid_is is_literal (value.Text t) x ts rest e refl

operand_valid : Valid is_operand operand_at
unfolding operand_at
operand_valid [] x rest e = absurd cc
operand_valid (Fixed u ∷ ts) x rest e =
    let other : Option (Operand × List Token) = aggregate_after u ts >>= λ a. Some (operand.Aggregate a.0, a.1) in
    ⊎_elim
    (λ g. valid_is is_operand (operand.Literal value.Null) x ts rest g.1 refl)
    (λ g. let a = bind_some (aggregate_after u ts) (λ a. Some (operand.Aggregate a.0, a.1)) (x, rest) g.1 in valid_is is_operand (operand.Aggregate a.0.0) x a.0.1 rest a.2 refl)
    (chosen (same u terminal.Null) (Some (operand.Literal value.Null, ts)) other (Some (x, rest)) e)
operand_valid (Name n ∷ ts) x rest e = valid_is is_operand (operand.Column n) x ts rest e refl
operand_valid (Number z ∷ ts) x rest e = valid_is is_operand (operand.Literal (value.Int z)) x ts rest e refl
operand_valid (Text t ∷ ts) x rest e = valid_is is_operand (operand.Literal (value.Text t)) x ts rest e refl

null_valid : (a : Operand) → is_operand a ≡ true → Valid is_test (null_test_after a)
unfolding null_test_after
null_valid a h ts x rest e =
    let f : Option (List Token) → Option (Test × List Token) = λ o. elim o [ None ↦ skip terminal.Null ts >>= λ rest. Some (IsNull a, rest) | Some after ↦ skip terminal.Null after >>= λ rest. Some (IsNotNull a, rest) ] in
    let P : Option (List Token) → Type 0 = λ o. f o ≡ Some (x, rest) → is_test x ≡ true in
    let by_cases : (o : Option (List Token)) → P o = λ o. elim o as P [
      | None ↦ λ g. let n = bind_some (skip terminal.Null ts) (λ rest. Some (IsNull a, rest)) (x, rest) g in valid_is is_test (IsNull a) x n.0 rest n.2 h
      | Some after ↦ λ g. let n = bind_some (skip terminal.Null after) (λ rest. Some (IsNotNull a, rest)) (x, rest) g in valid_is is_test (IsNotNull a) x n.0 rest n.2 h
    ] in
    by_cases (skip terminal.Not ts) e

compared_valid : (a : Operand) → is_operand a ≡ true → Valid is_test (compared_at a)
compared_valid a h ts x rest e =
    let f : (Comparison × Operand) × List Token → Option (Test × List Token) = λ right. Some (Compare a right.0.0 right.0.1, right.1) in
    let r = bind_some (right_at ts) f (x, rest) e in
    let o = bind_some (comparison_at ts) (λ sign. operand_at sign.1 >>= λ b. Some ((sign.0, b.0), b.1)) r.0 r.1 in
    let b = bind_some (operand_at o.0.1) (λ b. Some ((o.0.0, b.0), b.1)) r.0 o.2 in
    let last : Some (Compare a o.0.0 b.0.0, b.0.1) ≡ Some (x, rest) = ap (λ found. found >>= f) b.2 ∙ r.2 in
    valid_is is_test (Compare a o.0.0 b.0.0) x b.0.1 rest last (both (is_operand a) (is_operand b.0.0) h (operand_valid o.0.1 b.0.0 b.0.1 b.1))

test_valid : Valid is_test test_at
unfolding test_at
test_valid ts x rest e =
    let f : Operand → List Token → Option (List Token) → Option (Test × List Token) = λ a behind o. elim o [ None ↦ compared_at a behind | Some after ↦ null_test_after a after ] in
    let a = bind_some (operand_at ts) (λ a. f a.0 a.1 (skip terminal.Is a.1)) (x, rest) e in
    let h = operand_valid ts a.0.0 a.0.1 a.1 in
    let P : Option (List Token) → Type 0 = λ o. f a.0.0 a.0.1 o ≡ Some (x, rest) → is_test x ≡ true in
    let by_cases : (o : Option (List Token)) → P o = λ o. elim o as P [
      | None ↦ λ g. compared_valid a.0.0 h a.0.1 x rest g
      | Some after ↦ λ g. null_valid a.0.0 h after x rest g
    ] in
    by_cases (skip terminal.Is a.0.1) a.2

-- literals, and tests, that are read were written so, and are valid

pub literals_said : (ts : List Token) (xs : List Value) (rest : List Token) → literals_at ts ≡ Some (xs, rest) → (ts ≡ literals_words xs ++ rest) × (are_literals xs ≡ true)
literals_said ts xs rest e =
    let s = literals_sound ts xs rest e in
    (s.0, both (some xs) (list_all is_literal xs) s.1 (items_valid literal_at (skip terminal.Comma) is_literal literal_valid (length ts) ts xs rest e))

tests_valid : Valid (list_all is_test) tests_at
tests_valid ts xs rest e = items_valid test_at (skip terminal.And) is_test test_valid (length ts) ts xs rest e

pub tests_said : (ts : List Token) (xs : List Test) (rest : List Token) → tests_at ts ≡ Some (xs, rest) → (ts ≡ tests_words xs ++ rest) × (are_tests xs ≡ true)
tests_said ts xs rest e =
    let s = tests_sound ts xs rest e in
    (s.0, both (some xs) (list_all is_test xs) s.1 (tests_valid ts xs rest e))

pub tests_clause_said : (starter : Terminal) (ts : List Token) (xs : List Test) (rest : List Token) → clause_at starter tests_at ts ≡ Some (xs, rest) → (ts ≡ tests_clause starter xs ++ rest) × (list_all is_test xs ≡ true)
tests_clause_said starter ts xs rest e = (clause_sound starter terminal.And tests_at test_words tests_sound ts xs rest e, clause_valid starter tests_at is_test tests_valid ts xs rest e)
