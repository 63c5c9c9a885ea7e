-- What is read of clauses is written so.
use Rattle.std.proofs.Common.{◌≡◌, ℕ, zero, suc, Bool, true, false, cond, eqb, List, [], ◌∷◌, ◌++◌, Option, Some, None, length, refl, sym, ap, subst, ◌∙◌, append_assoc, eq-eqb, ⊎_elim, inl, inr, ◌⊎◌}
use Rattle.std.proofs.lemmas.Bool.{eqb-true}
use Rattle.std.specs.Prelude.{◌&&◌}
use Rattle.gq_token.specs.declared.token.Terminal.{Terminal}
use Rattle.gq_token.specs.declared.token.Terminal.TheVariants as terminal
use Rattle.gq_token.specs.Tokens.{place_of, same}
use Rattle.gq_token.specs.declared.token.Token.{Token}
use Rattle.gq_token.specs.declared.token.Token.TheVariants.{Fixed, Name, Number, Text}
use Rattle.gq_token.specs.Results.{◌>>=◌}
use Rattle.gq_token.specs.Queue.{skip}
use Rattle.gq_row.specs.declared.value.Value.{Value}
use Rattle.gq_row.specs.declared.value.Value.TheVariants as value
use Rattle.gq_clause.specs.declared.aggregate.Aggregate.{Aggregate}
use Rattle.gq_clause.specs.declared.aggregate.Aggregate.TheVariants.{CountAll, Count, CountDistinct, Sum, Min, Max}
use Rattle.gq_clause.specs.declared.condition.Operand.{Operand}
use Rattle.gq_clause.specs.declared.condition.Operand.TheVariants as operand
use Rattle.gq_row.specs.declared.comparison.Comparison.{Comparison}
use Rattle.gq_row.specs.declared.comparison.Comparison.TheVariants as comparison
use Rattle.gq_clause.specs.declared.condition.Test.{Test}
use Rattle.gq_clause.specs.declared.condition.Test.TheVariants.{Compare, IsNull, IsNotNull}
use Rattle.gq_clause.specs.Words.{Bytes, some, separated, clause, parenthesized, name_words, names_words, literal_words, literals_words, aggregate_words, aggregates_words, operand_words, comparison_word, test_words, tests_words}
use Rattle.gq_clause.specs.Reading.{name_at, literal_at, items_within, names_at, literals_at, in_parentheses, clause_at, counted_at, aggregate_within, aggregate_after, aggregate_at, aggregates_at, operand_at, comparison_at, null_test_after, right_at, compared_at, test_at, tests_at}

-- a terminal by its number
terminal_at : ℕ → Terminal
terminal_at n = cond (eqb n 0) terminal.Create (cond (eqb n 1) terminal.Drop (cond (eqb n 2) terminal.Load (cond (eqb n 3) terminal.Upsert (cond (eqb n 4) terminal.Delete (cond (eqb n 5) terminal.Show (cond (eqb n 6) terminal.Group (cond (eqb n 7) terminal.Distinct (cond (eqb n 8) terminal.By (cond (eqb n 9) terminal.On (cond (eqb n 10) terminal.Where (cond (eqb n 11) terminal.Not (cond (eqb n 12) terminal.Exists (cond (eqb n 13) terminal.Having (cond (eqb n 14) terminal.And (cond (eqb n 15) terminal.Is (cond (eqb n 16) terminal.Null (cond (eqb n 17) terminal.Key (cond (eqb n 18) terminal.Int (cond (eqb n 19) terminal.Text (cond (eqb n 20) terminal.Count (cond (eqb n 21) terminal.Sum (cond (eqb n 22) terminal.Min (cond (eqb n 23) terminal.Max (cond (eqb n 24) terminal.NoCase (cond (eqb n 25) terminal.Rollup (cond (eqb n 26) terminal.Open (cond (eqb n 27) terminal.Close (cond (eqb n 28) terminal.Comma (cond (eqb n 29) terminal.Star (cond (eqb n 30) terminal.Equal (cond (eqb n 31) terminal.NotEqual (cond (eqb n 32) terminal.Less (cond (eqb n 33) terminal.LessEqual (cond (eqb n 34) terminal.Greater (terminal.GreaterEqual)))))))))))))))))))))))))))))))))))

terminal_back : (t : Terminal) → terminal_at (place_of t) ≡ t
unfolding terminal_at
terminal_back terminal.Create = refl
terminal_back terminal.Drop = refl
terminal_back terminal.Load = refl
terminal_back terminal.Upsert = refl
terminal_back terminal.Delete = refl
terminal_back terminal.Show = refl
terminal_back terminal.Group = refl
terminal_back terminal.Distinct = refl
terminal_back terminal.By = refl
terminal_back terminal.On = refl
terminal_back terminal.Where = refl
terminal_back terminal.Not = refl
terminal_back terminal.Exists = refl
terminal_back terminal.Having = refl
terminal_back terminal.And = refl
terminal_back terminal.Is = refl
terminal_back terminal.Null = refl
terminal_back terminal.Key = refl
terminal_back terminal.Int = refl
terminal_back terminal.Text = refl
terminal_back terminal.Count = refl
terminal_back terminal.Sum = refl
terminal_back terminal.Min = refl
terminal_back terminal.Max = refl
terminal_back terminal.NoCase = refl
terminal_back terminal.Rollup = refl
terminal_back terminal.Open = refl
terminal_back terminal.Close = refl
terminal_back terminal.Comma = refl
terminal_back terminal.Star = refl
terminal_back terminal.Equal = refl
terminal_back terminal.NotEqual = refl
terminal_back terminal.Less = refl
terminal_back terminal.LessEqual = refl
terminal_back terminal.Greater = refl
terminal_back terminal.GreaterEqual = refl

pub same_is : (a b : Terminal) → same a b ≡ true → a ≡ b
same_is a b h = sym (terminal_back a) ∙ ap terminal_at (eqb-true (place_of a) (place_of b) h) ∙ terminal_back b

pub same_self : (a : Terminal) → same a a ≡ true
same_self a = eq-eqb (place_of a) (place_of a) refl

pub both : (a b : Bool) → a ≡ true → b ≡ true → a && b ≡ true
both true b p q = q
both false b p q = absurd cc

pub both_true : (a b : Bool) → a && b ≡ true → (a ≡ true) × (b ≡ true)
both_true true b h = (refl, h)
both_true false b h = absurd cc

pub some_is : {A : Type 0} (x y : A) → Some x ≡ Some y → x ≡ y
some_is x y e = cc

pub bind_some : {A B : Type 0} (r : Option A) (f : A → Option B) (y : B) → (r >>= f) ≡ Some y → (x : A) × (r ≡ Some x) × (f x ≡ Some y)
bind_some (Some x) f y e = (x, refl, e)
bind_some None f y e = absurd cc

pub guard_some : {A : Type 0} (b : Bool) (x y : A) → cond b (Some x) None ≡ Some y → (b ≡ true) × (x ≡ y)
guard_some true x y e = (refl, cc)
guard_some false x y e = absurd cc

pub pair_is : {A B : Type 0} (a c : A) (b d : B) → ◌≡◌ {A = Option (A × B)} (Some (a, b)) (Some (c, d)) → (a ≡ c) × (b ≡ d)
pair_is {A} {B} a c b d e = let f : ◌≡◌ {A = A × B} (a, b) (c, d) = some_is (a, b) (c, d) e in (ap (λ (p : A × B). p.0) f, ap (λ (p : A × B). p.1) f)

pub read_is : {A : Type 0} (write : A → List Token) (x y : A) (ts rest : List Token) → ◌≡◌ {A = Option (A × List Token)} (Some (x, ts)) (Some (y, rest)) → write x ++ ts ≡ write y ++ rest
read_is write x y ts rest e = let p = pair_is x y ts rest e in ap (λ v. write v ++ ts) p.0 ∙ ap (λ (l : List Token). write y ++ l) p.1

-- what is read is written so

abbrev pub Sound : {A : Type 0} → (List Token → Option (A × List Token)) → (A → List Token) → Type 0
Sound {A} item write = (ts : List Token) (x : A) (rest : List Token) → item ts ≡ Some (x, rest) → ts ≡ write x ++ rest

pub skip_sound : (t : Terminal) (ts rest : List Token) → skip t ts ≡ Some rest → ts ≡ Fixed t ∷ rest
skip_sound t [] rest e = absurd cc
skip_sound t (Fixed u ∷ ts) rest e = let g = guard_some (same u t) ts rest e in let h : u ≡ t = same_is u t g.0 in let i : ts ≡ rest = g.1 in cc
skip_sound t (Name n ∷ ts) rest e = absurd cc
skip_sound t (Number n ∷ ts) rest e = absurd cc
skip_sound t (Text n ∷ ts) rest e = absurd cc

pub name_sound : Sound name_at name_words
unfolding name_at
name_sound [] x rest e = absurd cc
name_sound (Fixed u ∷ ts) x rest e = absurd cc
name_sound (Name n ∷ ts) x rest e = read_is (λ n. Name n ∷ []) n x ts rest e
name_sound (Number n ∷ ts) x rest e = absurd cc
name_sound (Text n ∷ ts) x rest e = absurd cc

literal_sound : Sound literal_at literal_words
unfolding literal_at
literal_sound [] x rest e = absurd cc
literal_sound (Fixed u ∷ ts) x rest e = let g = guard_some (same u terminal.Null) (value.Null, ts) (x, rest) e in let h : u ≡ terminal.Null = same_is u terminal.Null g.0 in
    ap (λ (v : Terminal). Fixed v ∷ ts) h ∙ read_is literal_words value.Null x ts rest (ap Some g.1)
literal_sound (Name n ∷ ts) x rest e = absurd cc
literal_sound (Number z ∷ ts) x rest e = read_is literal_words (value.Int z) x ts rest e
literal_sound (Text n ∷ ts) x rest e = read_is literal_words (value.Text n) x ts rest e

pub chosen : {A : Type 0} (b : Bool) (x y z : A) → cond b x y ≡ z → ((b ≡ true) × (x ≡ z)) ⊎ ((b ≡ false) × (y ≡ z))
chosen true x y z e = inl (refl, e)
chosen false x y z e = inr (refl, e)

module _ {A : Type 0} (item : List Token → Option (A × List Token)) (next : List Token → Option (List Token)) (write : A → List Token) (separator : Terminal) where
  -- an item before others
  before : (x : A) (xs : List A) (ts after rest : List Token) → some xs ≡ true → ts ≡ write x ++ (Fixed separator ∷ after) → after ≡ separated separator write xs ++ rest → ts ≡ separated separator write (x ∷ xs) ++ rest
  before x [] ts after rest filled first others = absurd cc
  before x (y ∷ ys) ts after rest filled first others =
      first ∙ ap (λ (l : List Token). write x ++ (Fixed separator ∷ l)) others ∙ sym (append_assoc (write x) (Fixed separator ∷ separated separator write (y ∷ ys)) rest)

  pub items_sound : Sound item write → ((ts after : List Token) → next ts ≡ Some after → ts ≡ Fixed separator ∷ after) → (n : ℕ) (ts : List Token) (xs : List A) (rest : List Token)
      → items_within item next n ts ≡ Some (xs, rest) → (ts ≡ separated separator write xs ++ rest) × (some xs ≡ true)
  unfolding items_within
  items_sound sound commas zero ts xs rest e = absurd cc
  items_sound sound commas (suc n) ts xs rest e =
      let f : List Token → A → Option (List Token) → Option (List A × List Token) = λ after x o. elim o [ None ↦ Some (x ∷ [], after) | Some more ↦ items_within item next n more >>= λ y. Some (x ∷ y.0, y.1) ] in
      let a = bind_some (item ts) (λ x. f x.1 x.0 (next x.1)) (xs, rest) e in
      let first = sound ts a.0.0 a.0.1 a.1 in
      let P : Option (List Token) → Type 0 = λ o. next a.0.1 ≡ o → f a.0.1 a.0.0 o ≡ Some (xs, rest) → (ts ≡ separated separator write xs ++ rest) × (some xs ≡ true) in
      let by_cases : (o : Option (List Token)) → P o = λ o. elim o as P [
        | None ↦ λ is g. let p = pair_is (a.0.0 ∷ []) xs a.0.1 rest g in (first ∙ ap (λ (l : List Token). write a.0.0 ++ l) p.1 ∙ ap (λ (l : List A). separated separator write l ++ rest) p.0, ap some (sym p.0))
        | Some more ↦ λ is g.
            let b = bind_some (items_within item next n more) (λ y. Some (a.0.0 ∷ y.0, y.1)) (xs, rest) g in
            let others = items_sound sound commas n more b.0.0 b.0.1 b.1 in
            let p = pair_is (a.0.0 ∷ b.0.0) xs b.0.1 rest b.2 in
            (before a.0.0 b.0.0 ts more b.0.1 others.1 (first ∙ ap (λ (l : List Token). write a.0.0 ++ l) (commas a.0.1 more is)) others.0 ∙ ap (λ (l : List A). separated separator write l ++ b.0.1) p.0 ∙ ap (λ (l : List Token). separated separator write xs ++ l) p.1, ap some (sym p.0))
      ] in
      by_cases (next a.0.1) refl a.2

pub names_sound : (ts : List Token) (xs : List Bytes) (rest : List Token) → names_at ts ≡ Some (xs, rest) → (ts ≡ names_words xs ++ rest) × (some xs ≡ true)
names_sound ts xs rest e = items_sound name_at (skip terminal.Comma) name_words terminal.Comma name_sound (skip_sound terminal.Comma) (length ts) ts xs rest e

pub literals_sound : (ts : List Token) (xs : List Value) (rest : List Token) → literals_at ts ≡ Some (xs, rest) → (ts ≡ literals_words xs ++ rest) × (some xs ≡ true)
literals_sound ts xs rest e = items_sound literal_at (skip terminal.Comma) literal_words terminal.Comma literal_sound (skip_sound terminal.Comma) (length ts) ts xs rest e

-- the items between parentheses
pub enclosed : (inner ts opened closed rest : List Token) → ts ≡ Fixed terminal.Open ∷ opened → opened ≡ inner ++ closed → closed ≡ Fixed terminal.Close ∷ rest → ts ≡ parenthesized inner ++ rest
enclosed inner ts opened closed rest a b c = a ∙ ap (λ (l : List Token). Fixed terminal.Open ∷ l) (b ∙ ap (λ (l : List Token). inner ++ l) c ∙ sym (append_assoc inner (Fixed terminal.Close ∷ []) rest))

pub in_parentheses_sound : {A : Type 0} (inner : List Token → Option (A × List Token)) (write : A → List Token) (Filled : A → Type 0)
    → ((ts : List Token) (x : A) (rest : List Token) → inner ts ≡ Some (x, rest) → (ts ≡ write x ++ rest) × Filled x)
    → (ts : List Token) (x : A) (rest : List Token) → in_parentheses inner ts ≡ Some (x, rest) → (ts ≡ parenthesized (write x) ++ rest) × Filled x
unfolding in_parentheses
in_parentheses_sound inner write Filled sound ts x rest e =
    let a = bind_some (skip terminal.Open ts) (λ opened. inner opened >>= λ x. skip terminal.Close x.1 >>= λ closed. Some (x.0, closed)) (x, rest) e in
    let b = bind_some (inner a.0) (λ x. skip terminal.Close x.1 >>= λ closed. Some (x.0, closed)) (x, rest) a.2 in
    let c = bind_some (skip terminal.Close b.0.1) (λ closed. Some (b.0.0, closed)) (x, rest) b.2 in
    let p = pair_is b.0.0 x c.0 rest c.2 in
    let s = sound a.0 b.0.0 b.0.1 b.1 in
    let whole = enclosed (write b.0.0) ts a.0 b.0.1 c.0 (skip_sound terminal.Open ts a.0 a.1) s.0 (skip_sound terminal.Close b.0.1 c.0 c.1) in
    (whole ∙ ap (λ v. parenthesized (write v) ++ c.0) p.0 ∙ ap (λ (l : List Token). parenthesized (write x) ++ l) p.1, subst Filled p.0 s.1)

-- the items after a word, or none
filled_clause : {A : Type 0} (starter separator : Terminal) (write : A → List Token) (xs : List A) → some xs ≡ true → clause starter separator write xs ≡ Fixed starter ∷ separated separator write xs
filled_clause starter separator write [] h = absurd cc
filled_clause starter separator write (x ∷ xs) h = refl

pub clause_sound : {A : Type 0} (starter separator : Terminal) (items : List Token → Option (List A × List Token)) (write : A → List Token)
    → ((ts : List Token) (xs : List A) (rest : List Token) → items ts ≡ Some (xs, rest) → (ts ≡ separated separator write xs ++ rest) × (some xs ≡ true))
    → Sound (clause_at starter items) (clause starter separator write)
unfolding clause_at
clause_sound {A} starter separator items write sound ts x rest e =
    let f : Option (List Token) → Option (List A × List Token) = λ o. elim o [ None ↦ Some ([], ts) | Some after ↦ items after ] in
    let P : Option (List Token) → Type 0 = λ o. skip starter ts ≡ o → f o ≡ Some (x, rest) → ts ≡ clause starter separator write x ++ rest in
    let by_cases : (o : Option (List Token)) → P o = λ o. elim o as P [
      | None ↦ λ is g. read_is (clause starter separator write) [] x ts rest g
      | Some after ↦ λ is g.
          let b = sound after x rest g in
          skip_sound starter ts after is ∙ ap (λ (l : List Token). Fixed starter ∷ l) b.0 ∙ ap (λ (l : List Token). l ++ rest) (sym (filled_clause starter separator write x b.1))
    ] in
    by_cases (skip starter ts) refl e

-- an aggregate by its word and its parentheses
aggregate_word : Aggregate → Terminal
aggregate_word CountAll = terminal.Count
aggregate_word (Count n) = terminal.Count
aggregate_word (CountDistinct n) = terminal.Count
aggregate_word (Sum n) = terminal.Sum
aggregate_word (Min n) = terminal.Min
aggregate_word (Max n) = terminal.Max

within_words : Aggregate → List Token
within_words CountAll = Fixed terminal.Star ∷ []
within_words (Count n) = Name n ∷ []
within_words (CountDistinct n) = Fixed terminal.Distinct ∷ Name n ∷ []
within_words (Sum n) = Name n ∷ []
within_words (Min n) = Name n ∷ []
within_words (Max n) = Name n ∷ []

aggregate_parts : (a : Aggregate) → aggregate_words a ≡ Fixed (aggregate_word a) ∷ parenthesized (within_words a)
unfolding aggregate_word within_words
aggregate_parts CountAll = refl
aggregate_parts (Count n) = refl
aggregate_parts (CountDistinct n) = refl
aggregate_parts (Sum n) = refl
aggregate_parts (Min n) = refl
aggregate_parts (Max n) = refl

-- an aggregate of a column, whose name is read
of_column_sound : (form : Bytes → Aggregate) (word : Terminal) → ((n : Bytes) → within_words (form n) ≡ Name n ∷ []) → ((n : Bytes) → aggregate_word (form n) ≡ word)
    → (ts : List Token) (a : Aggregate) (rest : List Token) → ◌>>=◌ {B = Aggregate × List Token} (name_at ts) (λ column. Some (form column.0, column.1)) ≡ Some (a, rest) → (ts ≡ within_words a ++ rest) × (aggregate_word a ≡ word)
of_column_sound form word words is ts a rest e =
    let n = bind_some (name_at ts) (λ column. Some (form column.0, column.1)) (a, rest) e in
    let p = pair_is (form n.0.0) a n.0.1 rest n.2 in
    (name_sound ts n.0.0 n.0.1 n.1 ∙ ap (λ (l : List Token). l ++ n.0.1) (sym (words n.0.0)) ∙ read_is within_words (form n.0.0) a n.0.1 rest n.2, ap aggregate_word (sym p.0) ∙ is n.0.0)

counted_sound : (ts : List Token) (a : Aggregate) (rest : List Token) → counted_at ts ≡ Some (a, rest) → (ts ≡ within_words a ++ rest) × (aggregate_word a ≡ terminal.Count)
unfolding counted_at aggregate_word within_words
counted_sound (Fixed terminal.Star ∷ ts) a rest e = (read_is within_words CountAll a ts rest e, ap aggregate_word (sym (pair_is CountAll a ts rest e).0))
counted_sound (Fixed terminal.Distinct ∷ ts) a rest e =
    let n = bind_some (name_at ts) (λ column. Some (CountDistinct column.0, column.1)) (a, rest) e in
    let p = pair_is (CountDistinct n.0.0) a n.0.1 rest n.2 in
    (ap (λ (l : List Token). Fixed terminal.Distinct ∷ l) (name_sound ts n.0.0 n.0.1 n.1) ∙ read_is within_words (CountDistinct n.0.0) a n.0.1 rest n.2, ap aggregate_word (sym p.0))
counted_sound (Name n ∷ ts) a rest e = (read_is within_words (Count n) a ts rest e, ap aggregate_word (sym (pair_is (Count n) a ts rest e).0))
counted_sound _ a rest e = absurd cc

within_sound : (word : Terminal) (ts : List Token) (a : Aggregate) (rest : List Token) → aggregate_within word ts ≡ Some (a, rest) → (ts ≡ within_words a ++ rest) × (aggregate_word a ≡ word)
unfolding aggregate_within aggregate_word within_words
within_sound terminal.Count ts a rest e = counted_sound ts a rest e
within_sound terminal.Sum ts a rest e = of_column_sound Sum terminal.Sum (λ n. refl) (λ n. refl) ts a rest e
within_sound terminal.Min ts a rest e = of_column_sound Min terminal.Min (λ n. refl) (λ n. refl) ts a rest e
within_sound terminal.Max ts a rest e = of_column_sound Max terminal.Max (λ n. refl) (λ n. refl) ts a rest e
within_sound _ ts a rest e = absurd cc

behind_sound : (word : Terminal) (ts : List Token) (a : Aggregate) (rest : List Token) → aggregate_after word ts ≡ Some (a, rest) → Fixed word ∷ ts ≡ aggregate_words a ++ rest
unfolding aggregate_after
behind_sound word ts a rest e =
    let b = in_parentheses_sound (aggregate_within word) within_words (λ a. aggregate_word a ≡ word) (within_sound word) ts a rest e in
    ap (λ (l : List Token). Fixed word ∷ l) b.0 ∙ ap (λ (w : Terminal). Fixed w ∷ (parenthesized (within_words a) ++ rest)) (sym b.1) ∙ ap (λ (l : List Token). l ++ rest) (sym (aggregate_parts a))

aggregate_sound : Sound aggregate_at aggregate_words
unfolding aggregate_at
aggregate_sound [] x rest e = absurd cc
aggregate_sound (Fixed word ∷ ts) x rest e = behind_sound word ts x rest e
aggregate_sound (Name n ∷ ts) x rest e = absurd cc
aggregate_sound (Number z ∷ ts) x rest e = absurd cc
aggregate_sound (Text s ∷ ts) x rest e = absurd cc

pub aggregates_sound : (ts : List Token) (xs : List Aggregate) (rest : List Token) → aggregates_at ts ≡ Some (xs, rest) → (ts ≡ aggregates_words xs ++ rest) × (some xs ≡ true)
aggregates_sound ts xs rest e = items_sound aggregate_at (skip terminal.Comma) aggregate_words terminal.Comma aggregate_sound (skip_sound terminal.Comma) (length ts) ts xs rest e

operand_sound : Sound operand_at operand_words
unfolding operand_at
operand_sound [] x rest e = absurd cc
operand_sound (Fixed u ∷ ts) x rest e =
    let other : Option (Operand × List Token) = aggregate_after u ts >>= λ a. Some (operand.Aggregate a.0, a.1) in
    ⊎_elim
    (λ g. ap (λ (v : Terminal). Fixed v ∷ ts) (same_is u terminal.Null g.0) ∙ read_is operand_words (operand.Literal value.Null) x ts rest g.1)
    (λ g. let a = bind_some (aggregate_after u ts) (λ a. Some (operand.Aggregate a.0, a.1)) (x, rest) g.1 in behind_sound u ts a.0.0 a.0.1 a.1 ∙ read_is operand_words (operand.Aggregate a.0.0) x a.0.1 rest a.2)
    (chosen (same u terminal.Null) (Some (operand.Literal value.Null, ts)) other (Some (x, rest)) e)
operand_sound (Name n ∷ ts) x rest e = read_is operand_words (operand.Column n) x ts rest e
operand_sound (Number z ∷ ts) x rest e = read_is operand_words (operand.Literal (value.Int z)) x ts rest e
operand_sound (Text s ∷ ts) x rest e = read_is operand_words (operand.Literal (value.Text s)) x ts rest e

sign_words : Comparison → List Token
sign_words o = Fixed (comparison_word o) ∷ []

comparison_sound : Sound comparison_at sign_words
unfolding comparison_at sign_words
comparison_sound (Fixed terminal.Equal ∷ ts) x rest e = read_is sign_words comparison.Equal x ts rest e
comparison_sound (Fixed terminal.NotEqual ∷ ts) x rest e = read_is sign_words comparison.NotEqual x ts rest e
comparison_sound (Fixed terminal.Less ∷ ts) x rest e = read_is sign_words comparison.Less x ts rest e
comparison_sound (Fixed terminal.LessEqual ∷ ts) x rest e = read_is sign_words comparison.LessEqual x ts rest e
comparison_sound (Fixed terminal.Greater ∷ ts) x rest e = read_is sign_words comparison.Greater x ts rest e
comparison_sound (Fixed terminal.GreaterEqual ∷ ts) x rest e = read_is sign_words comparison.GreaterEqual x ts rest e
comparison_sound _ x rest e = absurd cc

-- one piece after another
pub joined : (front back ts after rest : List Token) → ts ≡ front ++ after → after ≡ back ++ rest → ts ≡ (front ++ back) ++ rest
joined front back ts after rest a b = a ∙ ap (λ (l : List Token). front ++ l) b ∙ sym (append_assoc front back rest)

null_sound : (a : Operand) (before ts : List Token) (x : Test) (rest : List Token) → before ≡ operand_words a ++ (Fixed terminal.Is ∷ ts) → null_test_after a ts ≡ Some (x, rest) → before ≡ test_words x ++ rest
unfolding null_test_after
null_sound a before ts x rest is e =
    let f : Option (List Token) → Option (Test × List Token) = λ o. elim o [ None ↦ skip terminal.Null ts >>= λ rest. Some (IsNull a, rest) | Some after ↦ skip terminal.Null after >>= λ rest. Some (IsNotNull a, rest) ] in
    let P : Option (List Token) → Type 0 = λ o. skip terminal.Not ts ≡ o → f o ≡ Some (x, rest) → before ≡ test_words x ++ rest in
    let by_cases : (o : Option (List Token)) → P o = λ o. elim o as P [
      | None ↦ λ found g.
          let n = bind_some (skip terminal.Null ts) (λ rest. Some (IsNull a, rest)) (x, rest) g in
          let tail : Fixed terminal.Is ∷ ts ≡ (Fixed terminal.Is ∷ Fixed terminal.Null ∷ []) ++ n.0 = ap (λ (l : List Token). Fixed terminal.Is ∷ l) (skip_sound terminal.Null ts n.0 n.1) in
          joined (operand_words a) (Fixed terminal.Is ∷ Fixed terminal.Null ∷ []) before (Fixed terminal.Is ∷ ts) n.0 is tail ∙ read_is test_words (IsNull a) x n.0 rest n.2
      | Some after ↦ λ found g.
          let n = bind_some (skip terminal.Null after) (λ rest. Some (IsNotNull a, rest)) (x, rest) g in
          let tail : Fixed terminal.Is ∷ ts ≡ (Fixed terminal.Is ∷ Fixed terminal.Not ∷ Fixed terminal.Null ∷ []) ++ n.0 =
          ap (λ (l : List Token). Fixed terminal.Is ∷ l) (skip_sound terminal.Not ts after found ∙ ap (λ (l : List Token). Fixed terminal.Not ∷ l) (skip_sound terminal.Null after n.0 n.1)) in
          joined (operand_words a) (Fixed terminal.Is ∷ Fixed terminal.Not ∷ Fixed terminal.Null ∷ []) before (Fixed terminal.Is ∷ ts) n.0 is tail ∙ read_is test_words (IsNotNull a) x n.0 rest n.2
    ] in
    by_cases (skip terminal.Not ts) refl e

compared_sound : (a : Operand) (before ts : List Token) (x : Test) (rest : List Token) → before ≡ operand_words a ++ ts → compared_at a ts ≡ Some (x, rest) → before ≡ test_words x ++ rest
unfolding sign_words
compared_sound a before ts x rest is e =
    let f : (Comparison × Operand) × List Token → Option (Test × List Token) = λ right. Some (Compare a right.0.0 right.0.1, right.1) in
    let r = bind_some (right_at ts) f (x, rest) e in
    let o = bind_some (comparison_at ts) (λ sign. operand_at sign.1 >>= λ b. Some ((sign.0, b.0), b.1)) r.0 r.1 in
    let b = bind_some (operand_at o.0.1) (λ b. Some ((o.0.0, b.0), b.1)) r.0 o.2 in
    let last : Some (Compare a o.0.0 b.0.0, b.0.1) ≡ Some (x, rest) = ap (λ found. found >>= f) b.2 ∙ r.2 in
    let back : List Token = Fixed (comparison_word o.0.0) ∷ operand_words b.0.0 in
    let tail : ts ≡ back ++ b.0.1 = comparison_sound ts o.0.0 o.0.1 o.1 ∙ ap (λ (l : List Token). Fixed (comparison_word o.0.0) ∷ l) (operand_sound o.0.1 b.0.0 b.0.1 b.1) in
    joined (operand_words a) back before ts b.0.1 is tail ∙ read_is test_words (Compare a o.0.0 b.0.0) x b.0.1 rest last

test_sound : Sound test_at test_words
unfolding test_at
test_sound ts x rest e =
    let f : Operand → List Token → Option (List Token) → Option (Test × List Token) = λ a behind o. elim o [ None ↦ compared_at a behind | Some after ↦ null_test_after a after ] in
    let a = bind_some (operand_at ts) (λ a. f a.0 a.1 (skip terminal.Is a.1)) (x, rest) e in
    let first = operand_sound ts a.0.0 a.0.1 a.1 in
    let P : Option (List Token) → Type 0 = λ o. skip terminal.Is a.0.1 ≡ o → f a.0.0 a.0.1 o ≡ Some (x, rest) → ts ≡ test_words x ++ rest in
    let by_cases : (o : Option (List Token)) → P o = λ o. elim o as P [
      | None ↦ λ found g. compared_sound a.0.0 ts a.0.1 x rest first g
      | Some after ↦ λ found g. null_sound a.0.0 ts after x rest (first ∙ ap (λ (l : List Token). operand_words a.0.0 ++ l) (skip_sound terminal.Is a.0.1 after found)) g
    ] in
    by_cases (skip terminal.Is a.0.1) refl a.2

pub tests_sound : (ts : List Token) (xs : List Test) (rest : List Token) → tests_at ts ≡ Some (xs, rest) → (ts ≡ tests_words xs ++ rest) × (some xs ≡ true)
tests_sound ts xs rest e = items_sound test_at (skip terminal.And) test_words terminal.And test_sound (skip_sound terminal.And) (length ts) ts xs rest e
