-- What is read is written so.
use Rattle.std.proofs.Common.{◌≡◌, Bool, true, false, cond, List, [], ◌∷◌, ◌++◌, Option, Some, None, length, refl, sym, ap, ◌∙◌, append_assoc, ⊎_elim}
use Rattle.std.specs.Prelude.{if◌then◌else◌}
use Rattle.std.specs.List.{list_all}
use Rattle.std.proofs.lemmas.List.{append-nil}
use Rattle.gq_token.specs.declared.token.Terminal.{Terminal}
use Rattle.gq_token.specs.declared.token.Terminal.TheVariants as terminal
use Rattle.gq_row.specs.declared.schema.Kind.{Kind}
use Rattle.gq_row.specs.declared.schema.Kind.TheVariants as kind
use Rattle.gq_token.specs.Tokens.{same}
use Rattle.gq_token.specs.declared.token.Token.{Token}
use Rattle.gq_token.specs.declared.token.Token.TheVariants.{Fixed, Name, Number, Text}
use Rattle.gq_token.specs.Results.{◌>>=◌}
use Rattle.gq_token.specs.Queue.{skip, column_comma}
use Rattle.gq_row.specs.declared.value.Value.{Value}
use Rattle.gq_row.specs.declared.schema.Column.{Column}
use Rattle.gq_clause.specs.declared.aggregate.Aggregate.{Aggregate}
use Rattle.gq_clause.specs.declared.condition.Test.{Test}
use Rattle.gq_clause.specs.Reading.{name_at, names_at, literals_at, in_parentheses, clause_at, aggregates_at, tests_at}
use Rattle.gq_clause.proofs.Sound.{both, same_is, some_is, bind_some, guard_some, pair_is, read_is, Sound, skip_sound, name_sound, chosen, items_sound, names_sound, enclosed, in_parentheses_sound, joined, aggregates_sound}
use Rattle.gq_clause.proofs.Valid.{literals_said, tests_clause_said}
use Rattle.gq_command.specs.Commands.{Bytes, some, separated, parenthesized, name_words, names_words, kind_words, column_words, literals_words, aggregates_words, clause, tests_clause, is_test, are_literals, key_words, not_words, exists_words, by_words, phrase, exists_filled, columns_filled, grammatical, keeps_rules, SaysTokens}
use Rattle.gq_command.specs.declared.command.By.{By}
use Rattle.gq_command.specs.declared.command.Command.{Command}
use Rattle.gq_command.specs.declared.command.Command.TheVariants.{Create, Drop, Load, Upsert, Delete, Show, Group, Distinct}
use Rattle.gq_command.specs.declared.command.Exists.{Exists}
use Rattle.gq_command.specs.declared.command.Payload.TheVariants as payload
use Rattle.gq_command.specs.Reading.{text_after, kind_at, column_at, columns_at, key_at, row_at, create_at, exists_after, with_exists, exists_at, by_after, by_at, conditions_after, group_at, distinct_at, ended, form_after, form_at, command_of}

-- the kind that begins with `text`
text_sound : (ts : List Token) (x : Kind) (rest : List Token) → Some (text_after ts) ≡ Some (x, rest) → Fixed terminal.Text ∷ ts ≡ kind_words x ++ rest
unfolding text_after
text_sound ts x rest e =
    let f : Option (List Token) → Kind × List Token = λ o. elim o [ None ↦ (kind.Text, ts) | Some after ↦ (kind.NoCase, after) ] in
    let P : Option (List Token) → Type 0 = λ o. skip terminal.NoCase ts ≡ o → Some (f o) ≡ Some (x, rest) → Fixed terminal.Text ∷ ts ≡ kind_words x ++ rest in
    let by_cases : (o : Option (List Token)) → P o = λ o. elim o as P [
      | None ↦ λ is g. read_is kind_words kind.Text x ts rest g
      | Some after ↦ λ is g. ap (λ (l : List Token). Fixed terminal.Text ∷ l) (skip_sound terminal.NoCase ts after is) ∙ read_is kind_words kind.NoCase x after rest g
    ] in
    by_cases (skip terminal.NoCase ts) refl e

kind_sound : Sound kind_at kind_words
unfolding kind_at
kind_sound [] x rest e = absurd cc
kind_sound (Fixed u ∷ ts) x rest e =
    ⊎_elim
    (λ g. ap (λ (v : Terminal). Fixed v ∷ ts) (same_is u terminal.Int g.0) ∙ read_is kind_words kind.Int x ts rest g.1)
    (λ g. let h = guard_some (same u terminal.Text) (text_after ts) (x, rest) g.1 in ap (λ (v : Terminal). Fixed v ∷ ts) (same_is u terminal.Text h.0) ∙ text_sound ts x rest (ap Some h.1))
    (chosen (same u terminal.Int) (Some (kind.Int, ts)) (cond (same u terminal.Text) (Some (text_after ts)) None) (Some (x, rest)) e)
kind_sound (Name n ∷ ts) x rest e = absurd cc
kind_sound (Number n ∷ ts) x rest e = absurd cc
kind_sound (Text n ∷ ts) x rest e = absurd cc

column_sound : Sound column_at column_words
unfolding column_at
column_sound ts x rest e =
    let a = bind_some (name_at ts) (λ name. kind_at name.1 >>= λ kind. Some (record { name = name.0; kind = kind.0 }, kind.1)) (x, rest) e in
    let b = bind_some (kind_at a.0.1) (λ kind. Some (record { name = a.0.0; kind = kind.0 }, kind.1)) (x, rest) a.2 in
    name_sound ts a.0.0 a.0.1 a.1 ∙ ap (λ (l : List Token). Name a.0.0 ∷ l) (kind_sound a.0.1 b.0.0 b.0.1 b.1) ∙ read_is column_words (record { name = a.0.0; kind = b.0.0 }) x b.0.1 rest b.2

column_comma_sound : (ts after : List Token) → column_comma ts ≡ Some after → ts ≡ Fixed terminal.Comma ∷ after
unfolding column_comma
column_comma_sound ts after e =
    let f : List Token → Option (List Token) → Option (List Token) = λ a o. elim o [ None ↦ Some a | Some rest ↦ None ] in
    let a = bind_some (skip terminal.Comma ts) (λ a. f a (skip terminal.Key a)) after e in
    let by_cases : (o : Option (List Token)) → f a.0 o ≡ Some after → a.0 ≡ after = λ o. elim o as (λ o. f a.0 o ≡ Some after → a.0 ≡ after) [ None ↦ λ g. some_is a.0 after g | Some rest ↦ λ g. absurd cc ] in
    skip_sound terminal.Comma ts a.0 a.1 ∙ ap (λ (l : List Token). Fixed terminal.Comma ∷ l) (by_cases (skip terminal.Key a.0) a.2)

columns_sound : (ts : List Token) (xs : List Column) (rest : List Token) → columns_at ts ≡ Some (xs, rest) → (ts ≡ separated terminal.Comma column_words xs ++ rest) × (some xs ≡ true)
columns_sound ts xs rest e = items_sound column_at column_comma column_words terminal.Comma column_sound column_comma_sound (length ts) ts xs rest e

filled_key : (key : List Bytes) → some key ≡ true → key_words key ≡ Fixed terminal.Comma ∷ Fixed terminal.Key ∷ parenthesized (names_words key)
filled_key [] h = absurd cc
filled_key (n ∷ ns) h = refl

key_sound : Sound key_at key_words
unfolding key_at
key_sound ts x rest e =
    let f : Option (List Token) → Option (List Bytes × List Token) = λ o. elim o [ None ↦ Some ([], ts) | Some after ↦ skip terminal.Key after >>= λ rest. in_parentheses names_at rest ] in
    let P : Option (List Token) → Type 0 = λ o. skip terminal.Comma ts ≡ o → f o ≡ Some (x, rest) → ts ≡ key_words x ++ rest in
    let by_cases : (o : Option (List Token)) → P o = λ o. elim o as P [
      | None ↦ λ is g. read_is key_words [] x ts rest g
      | Some after ↦ λ is g.
          let a = bind_some (skip terminal.Key after) (λ r. in_parentheses names_at r) (x, rest) g in
          let b = in_parentheses_sound names_at names_words (λ xs. some xs ≡ true) names_sound a.0 x rest a.2 in
          skip_sound terminal.Comma ts after is ∙ ap (λ (l : List Token). Fixed terminal.Comma ∷ l) (skip_sound terminal.Key after a.0 a.1 ∙ ap (λ (l : List Token). Fixed terminal.Key ∷ l) b.0)
          ∙ ap (λ (l : List Token). l ++ rest) (sym (filled_key x b.1))
    ] in
    by_cases (skip terminal.Comma ts) refl e

-- a form after its first word
SoundForm : Terminal → (List Token → Option (Command × List Token)) → Type 0
SoundForm first form = (ts : List Token) (c : Command) (rest : List Token) → form ts ≡ Some (c, rest) → (Fixed first ∷ ts ≡ phrase c ++ rest) × (grammatical c ≡ true)

create_sound : SoundForm terminal.Create create_at
unfolding create_at SoundForm phrase
create_sound ts c rest e =
    let a = bind_some (name_at ts) (λ table. skip terminal.Open table.1 >>= λ opened. columns_at opened >>= λ columns. key_at columns.1 >>= λ key. skip terminal.Close key.1 >>= λ closed. Some (Create table.0 columns.0 key.0, closed)) (c, rest) e in
    let b = bind_some (skip terminal.Open a.0.1) (λ opened. columns_at opened >>= λ columns. key_at columns.1 >>= λ key. skip terminal.Close key.1 >>= λ closed. Some (Create a.0.0 columns.0 key.0, closed)) (c, rest) a.2 in
    let d = bind_some (columns_at b.0) (λ columns. key_at columns.1 >>= λ key. skip terminal.Close key.1 >>= λ closed. Some (Create a.0.0 columns.0 key.0, closed)) (c, rest) b.2 in
    let k = bind_some (key_at d.0.1) (λ key. skip terminal.Close key.1 >>= λ closed. Some (Create a.0.0 d.0.0 key.0, closed)) (c, rest) d.2 in
    let f = bind_some (skip terminal.Close k.0.1) (λ closed. Some (Create a.0.0 d.0.0 k.0.0, closed)) (c, rest) k.2 in
    let p = pair_is (Create a.0.0 d.0.0 k.0.0) c f.0 rest f.2 in
    let cols = columns_sound b.0 d.0.0 d.0.1 d.1 in
    let inner : b.0 ≡ (separated terminal.Comma column_words d.0.0 ++ key_words k.0.0) ++ k.0.1 = cols.0 ∙ ap (λ (l : List Token). separated terminal.Comma column_words d.0.0 ++ l) (key_sound d.0.1 k.0.0 k.0.1 k.1) ∙ sym (append_assoc (separated terminal.Comma column_words d.0.0) (key_words k.0.0) k.0.1) in
    let whole = enclosed (separated terminal.Comma column_words d.0.0 ++ key_words k.0.0) a.0.1 b.0 k.0.1 f.0 (skip_sound terminal.Open a.0.1 b.0 b.1) inner (skip_sound terminal.Close k.0.1 f.0 f.1) in
    let worded : Fixed terminal.Create ∷ ts ≡ phrase (Create a.0.0 d.0.0 k.0.0) ++ f.0 = ap (λ (l : List Token). Fixed terminal.Create ∷ l) (name_sound ts a.0.0 a.0.1 a.1 ∙ ap (λ (l : List Token). Name a.0.0 ∷ l) whole) in
    (worded ∙ ap (λ (v : Command). phrase v ++ f.0) p.0 ∙ ap (λ (l : List Token). phrase c ++ l) p.1, ap grammatical (sym p.0) ∙ cols.1)

-- a form with a table's name alone
named_sound : (first : Terminal) (form : Bytes → Command) → ((t : Bytes) → phrase (form t) ≡ Fixed first ∷ Name t ∷ []) → ((t : Bytes) → grammatical (form t) ≡ true)
    → SoundForm first (λ ts. name_at ts >>= λ table. Some (form table.0, table.1))
unfolding SoundForm
named_sound first form words always ts c rest e =
    let a = bind_some (name_at ts) (λ table. Some (form table.0, table.1)) (c, rest) e in
    let p = pair_is (form a.0.0) c a.0.1 rest a.2 in
    let worded : Fixed first ∷ ts ≡ phrase (form a.0.0) ++ a.0.1 = ap (λ (l : List Token). Fixed first ∷ l) (name_sound ts a.0.0 a.0.1 a.1) ∙ ap (λ (l : List Token). l ++ a.0.1) (sym (words a.0.0)) in
    (worded ∙ ap (λ (v : Command). phrase v ++ a.0.1) p.0 ∙ ap (λ (l : List Token). phrase c ++ l) p.1, ap grammatical (sym p.0) ∙ always a.0.0)

row_words : Bytes × List Value → List Token
row_words row = Name row.0 ∷ parenthesized (literals_words row.1)

row_sound : (ts : List Token) (row : Bytes × List Value) (rest : List Token) → row_at ts ≡ Some (row, rest) → (ts ≡ row_words row ++ rest) × (are_literals row.1 ≡ true)
unfolding row_at row_words
row_sound ts row rest e =
    let a = bind_some (name_at ts) (λ table. in_parentheses literals_at table.1 >>= λ values. Some ((table.0, values.0), values.1)) (row, rest) e in
    let b = bind_some (in_parentheses literals_at a.0.1) (λ values. Some ((a.0.0, values.0), values.1)) (row, rest) a.2 in
    let p = pair_is (a.0.0, b.0.0) row b.0.1 rest b.2 in
    let values = in_parentheses_sound literals_at literals_words (λ xs. are_literals xs ≡ true) literals_said a.0.1 b.0.0 b.0.1 b.1 in
    (name_sound ts a.0.0 a.0.1 a.1 ∙ ap (λ (l : List Token). Name a.0.0 ∷ l) values.0 ∙ read_is row_words (a.0.0, b.0.0) row b.0.1 rest b.2, ap (λ (row : Bytes × List Value). are_literals row.1) (sym p.0) ∙ values.1)

-- a form with the literals of a row after a table's name
valued_sound : (first : Terminal) (form : Bytes → List Value → Command) → ((t : Bytes) (values : List Value) → phrase (form t values) ≡ Fixed first ∷ row_words (t, values)) → ((t : Bytes) (values : List Value) → grammatical (form t values) ≡ are_literals values)
    → SoundForm first (λ ts. row_at ts >>= λ row. Some (form row.0.0 row.0.1, row.1))
unfolding SoundForm
valued_sound first form words filled ts c rest e =
    let a = bind_some (row_at ts) (λ row. Some (form row.0.0 row.0.1, row.1)) (c, rest) e in
    let p = pair_is (form a.0.0.0 a.0.0.1) c a.0.1 rest a.2 in
    let row = row_sound ts a.0.0 a.0.1 a.1 in
    let worded : Fixed first ∷ ts ≡ phrase (form a.0.0.0 a.0.0.1) ++ a.0.1 = ap (λ (l : List Token). Fixed first ∷ l) row.0 ∙ ap (λ (l : List Token). l ++ a.0.1) (sym (words a.0.0.0 a.0.0.1)) in
    (worded ∙ ap (λ (v : Command). phrase v ++ a.0.1) p.0 ∙ ap (λ (l : List Token). phrase c ++ l) p.1, ap grammatical (sym p.0) ∙ filled a.0.0.0 a.0.0.1 ∙ row.1)

-- what follows the word `exists`
exists_tail : Exists → List Token
exists_tail e = Name e.table ∷ (parenthesized (names_words e.theirs) ++ (Fixed terminal.Equal ∷ parenthesized (names_words e.ours)))

exists_parts : (e : Exists) → exists_words (Some e) ≡ not_words e.negated ++ (Fixed terminal.Exists ∷ exists_tail e)
unfolding exists_tail
exists_parts e = refl

exists_behind_sound : (negated : Bool) (ts : List Token) (e : Exists) (rest : List Token) → exists_after negated ts ≡ Some (e, rest) → (ts ≡ exists_tail e ++ rest) × (e.negated ≡ negated) × (exists_filled (Some e) ≡ true)
unfolding exists_after exists_tail
exists_behind_sound negated ts c rest e =
    let named = bind_some (name_at ts) (λ t. in_parentheses names_at t.1 >>= λ f. skip terminal.Equal f.1 >>= λ q. in_parentheses names_at q >>= λ o. Some (record { negated = negated; table = t.0; theirs = f.0; ours = o.0 }, o.1)) (c, rest) e in
    let theirs_read = bind_some (in_parentheses names_at named.0.1) (λ f. skip terminal.Equal f.1 >>= λ q. in_parentheses names_at q >>= λ o. Some (record { negated = negated; table = named.0.0; theirs = f.0; ours = o.0 }, o.1)) (c, rest) named.2 in
    let equal = bind_some (skip terminal.Equal theirs_read.0.1) (λ q. in_parentheses names_at q >>= λ o. Some (record { negated = negated; table = named.0.0; theirs = theirs_read.0.0; ours = o.0 }, o.1)) (c, rest) theirs_read.2 in
    let ours_read = bind_some (in_parentheses names_at equal.0) (λ o. Some (record { negated = negated; table = named.0.0; theirs = theirs_read.0.0; ours = o.0 }, o.1)) (c, rest) equal.2 in
    let made : Exists = record { negated = negated; table = named.0.0; theirs = theirs_read.0.0; ours = ours_read.0.0 } in
    let p = pair_is made c ours_read.0.1 rest ours_read.2 in
    let theirs = in_parentheses_sound names_at names_words (λ xs. some xs ≡ true) names_sound named.0.1 theirs_read.0.0 theirs_read.0.1 theirs_read.1 in
    let ours = in_parentheses_sound names_at names_words (λ xs. some xs ≡ true) names_sound equal.0 ours_read.0.0 ours_read.0.1 ours_read.1 in
    let front : List Token = parenthesized (names_words theirs_read.0.0) in
    let back : List Token = Fixed terminal.Equal ∷ parenthesized (names_words ours_read.0.0) in
    let last : theirs_read.0.1 ≡ back ++ ours_read.0.1 = skip_sound terminal.Equal theirs_read.0.1 equal.0 equal.1 ∙ ap (λ (l : List Token). Fixed terminal.Equal ∷ l) ours.0 in
    let whole : ts ≡ exists_tail made ++ ours_read.0.1 = name_sound ts named.0.0 named.0.1 named.1 ∙ ap (λ (l : List Token). Name named.0.0 ∷ l) (joined front back named.0.1 theirs_read.0.1 ours_read.0.1 theirs.0 last) in
    let filled : exists_filled (Some made) ≡ true = both (some theirs_read.0.0) (some ours_read.0.0) theirs.1 ours.1 in
    (whole ∙ read_is exists_tail made c ours_read.0.1 rest ours_read.2, ap (λ (e : Exists). e.negated) (sym p.0), ap (λ (e : Exists). exists_filled (Some e)) (sym p.0) ∙ filled)

-- an exists that was read, after what precedes it
exists_made : (negated : Bool) (before ts : List Token) (x : Option Exists) (rest : List Token) → before ≡ not_words negated ++ (Fixed terminal.Exists ∷ ts) → with_exists (exists_after negated ts) ≡ Some (x, rest)
    → (before ≡ exists_words x ++ rest) × (exists_filled x ≡ true)
exists_made negated before ts x rest is e =
    let a = bind_some (exists_after negated ts) (λ e. Some (Some e.0, e.1)) (x, rest) e in
    let p = pair_is (Some a.0.0) x a.0.1 rest a.2 in
    let s = exists_behind_sound negated ts a.0.0 a.0.1 a.1 in
    let tail : Fixed terminal.Exists ∷ ts ≡ (Fixed terminal.Exists ∷ exists_tail a.0.0) ++ a.0.1 = ap (λ (l : List Token). Fixed terminal.Exists ∷ l) s.0 in
    let whole : before ≡ exists_words (Some a.0.0) ++ a.0.1 =
    joined (not_words negated) (Fixed terminal.Exists ∷ exists_tail a.0.0) before (Fixed terminal.Exists ∷ ts) a.0.1 is tail
    ∙ ap (λ (v : Bool). (not_words v ++ (Fixed terminal.Exists ∷ exists_tail a.0.0)) ++ a.0.1) (sym s.1) ∙ ap (λ (l : List Token). l ++ a.0.1) (sym (exists_parts a.0.0)) in
    (whole ∙ read_is exists_words (Some a.0.0) x a.0.1 rest a.2, ap exists_filled (sym p.0) ∙ s.2)

exists_sound : (ts : List Token) (x : Option Exists) (rest : List Token) → exists_at ts ≡ Some (x, rest) → (ts ≡ exists_words x ++ rest) × (exists_filled x ≡ true)
unfolding exists_at
exists_sound ts x rest e =
    let g : Option (List Token) → Option (Option Exists × List Token) = λ o. elim o [ None ↦ Some (None, ts) | Some after ↦ with_exists (exists_after false after) ] in
    let f : Option (List Token) → Option (Option Exists × List Token) = λ o. elim o [ None ↦ g (skip terminal.Exists ts) | Some after ↦ skip terminal.Exists after >>= λ behind. with_exists (exists_after true behind) ] in
    let Q : Option (List Token) → Type 0 = λ o. skip terminal.Exists ts ≡ o → g o ≡ Some (x, rest) → (ts ≡ exists_words x ++ rest) × (exists_filled x ≡ true) in
    let by_exists : (o : Option (List Token)) → Q o = λ o. elim o as Q [
      | None ↦ λ is h. (read_is exists_words None x ts rest h, ap exists_filled (sym (pair_is None x ts rest h).0))
      | Some after ↦ λ is h. exists_made false ts after x rest (skip_sound terminal.Exists ts after is) h
    ] in
    let P : Option (List Token) → Type 0 = λ o. skip terminal.Not ts ≡ o → f o ≡ Some (x, rest) → (ts ≡ exists_words x ++ rest) × (exists_filled x ≡ true) in
    let by_not : (o : Option (List Token)) → P o = λ o. elim o as P [
      | None ↦ λ is h. by_exists (skip terminal.Exists ts) refl h
      | Some after ↦ λ is h.
          let a = bind_some (skip terminal.Exists after) (λ behind. with_exists (exists_after true behind)) (x, rest) h in
          exists_made true ts a.0 x rest (skip_sound terminal.Not ts after is ∙ ap (λ (l : List Token). Fixed terminal.Not ∷ l) (skip_sound terminal.Exists after a.0 a.1)) a.2
    ] in
    by_not (skip terminal.Not ts) refl e

-- the columns of a `by` are written so
clause_written : (columns : List Bytes) → some columns ≡ true → clause terminal.By terminal.Comma name_words columns ≡ Fixed terminal.By ∷ names_words columns
clause_written [] h = absurd cc
clause_written (n ∷ ns) h = refl

-- a `by` that was read
ByRead : List Token → By → List Token → Type 0
ByRead before by rest = (before ≡ by_words by ++ rest) × (columns_filled by.rollup by.columns ≡ true)

by_is : (before : List Token) (made by : By) (after rest : List Token) → ◌≡◌ {A = Option (By × List Token)} (Some (made, after)) (Some (by, rest)) → ByRead before made after → ByRead before by rest
unfolding ByRead
by_is before made by after rest e h = (h.0 ∙ read_is by_words made by after rest e, ap (λ (b : By). columns_filled b.rollup b.columns) (sym (pair_is made by after rest e).0) ∙ h.1)

by_behind_sound : (ts : List Token) (by : By) (rest : List Token) → by_after ts ≡ Some (by, rest) → ByRead (Fixed terminal.By ∷ ts) by rest
unfolding by_after ByRead
by_behind_sound ts by rest e =
    let f : Option (List Token) → Option (By × List Token) = λ o. elim o [
      | None ↦ names_at ts >>= λ names. Some (record { columns = names.0; rollup = false }, names.1)
      | Some after ↦ in_parentheses names_at after >>= λ names. Some (record { columns = names.0; rollup = true }, names.1)
    ] in
    let P : Option (List Token) → Type 0 = λ o. skip terminal.Rollup ts ≡ o → f o ≡ Some (by, rest) → ByRead (Fixed terminal.By ∷ ts) by rest in
    let by_rollup : (o : Option (List Token)) → P o = λ o. elim o as P [
      | None ↦ λ is g.
          let a = bind_some (names_at ts) (λ names. Some (record { columns = names.0; rollup = false }, names.1)) (by, rest) g in
          let b = names_sound ts a.0.0 a.0.1 a.1 in
          let made : By = record { columns = a.0.0; rollup = false } in
          let written : Fixed terminal.By ∷ ts ≡ by_words made ++ a.0.1 = ap (λ (l : List Token). Fixed terminal.By ∷ l) b.0 ∙ ap (λ (l : List Token). l ++ a.0.1) (sym (clause_written a.0.0 b.1)) in
          by_is (Fixed terminal.By ∷ ts) made by a.0.1 rest a.2 (written, refl)
      | Some after ↦ λ is g.
          let a = bind_some (in_parentheses names_at after) (λ names. Some (record { columns = names.0; rollup = true }, names.1)) (by, rest) g in
          let b = in_parentheses_sound names_at names_words (λ xs. some xs ≡ true) names_sound after a.0.0 a.0.1 a.1 in
          let made : By = record { columns = a.0.0; rollup = true } in
          let written : Fixed terminal.By ∷ ts ≡ by_words made ++ a.0.1 = ap (λ (l : List Token). Fixed terminal.By ∷ l) (skip_sound terminal.Rollup ts after is ∙ ap (λ (l : List Token). Fixed terminal.Rollup ∷ l) b.0) in
          by_is (Fixed terminal.By ∷ ts) made by a.0.1 rest a.2 (written, b.1)
    ] in
    by_rollup (skip terminal.Rollup ts) refl e

by_sound : (ts : List Token) (by : By) (rest : List Token) → by_at ts ≡ Some (by, rest) → (ts ≡ by_words by ++ rest) × (columns_filled by.rollup by.columns ≡ true)
unfolding by_at ByRead
by_sound ts by rest e =
    let f : Option (List Token) → Option (By × List Token) = λ o. elim o [ None ↦ Some (record { columns = []; rollup = false }, ts) | Some after ↦ by_after after ] in
    let P : Option (List Token) → Type 0 = λ o. skip terminal.By ts ≡ o → f o ≡ Some (by, rest) → ByRead ts by rest in
    let by_led : (o : Option (List Token)) → P o = λ o. elim o as P [
      | None ↦ λ is g. by_is ts (record { columns = []; rollup = false }) by ts rest g (refl, refl)
      | Some after ↦ λ is g. let b = by_behind_sound after by rest g in (skip_sound terminal.By ts after is ∙ b.0, b.1)
    ] in
    by_led (skip terminal.By ts) refl e

-- several pieces, one after the other
pieces : (a b d f g rest : List Token) → a ++ (b ++ (d ++ (f ++ (g ++ rest)))) ≡ (a ++ (b ++ (d ++ (f ++ g)))) ++ rest
pieces a b d f g rest = simp append_assoc

-- the conditions that were read, and the grouping with them
record Conditions (table : Bytes) (by : By) (shown : List Aggregate) (ts : List Token) (c : Command) (rest : List Token) : Type 0 where
  tests : List Test
  exists : Option Exists
  having : List Test
  is : c ≡ Group table by shown tests exists having
  written : ts ≡ tests_clause terminal.Where tests ++ (exists_words exists ++ (tests_clause terminal.Having having ++ rest))
  filled : exists_filled exists ≡ true
  tested : list_all is_test tests ≡ true
  tested_having : list_all is_test having ≡ true

conditions_sound : (table : Bytes) (by : By) (shown : List Aggregate) (ts : List Token) (c : Command) (rest : List Token) → conditions_after table by shown ts ≡ Some (c, rest) → Conditions table by shown ts c rest
unfolding conditions_after
conditions_sound table by shown ts c rest e =
    let where_read = bind_some (clause_at terminal.Where tests_at ts) (λ w. exists_at w.1 >>= λ x. clause_at terminal.Having tests_at x.1 >>= λ h. Some (Group table by shown w.0 x.0 h.0, h.1)) (c, rest) e in
    let exists_read = bind_some (exists_at where_read.0.1) (λ x. clause_at terminal.Having tests_at x.1 >>= λ h. Some (Group table by shown where_read.0.0 x.0 h.0, h.1)) (c, rest) where_read.2 in
    let having_read = bind_some (clause_at terminal.Having tests_at exists_read.0.1) (λ h. Some (Group table by shown where_read.0.0 exists_read.0.0 h.0, h.1)) (c, rest) exists_read.2 in
    let p = pair_is (Group table by shown where_read.0.0 exists_read.0.0 having_read.0.0) c having_read.0.1 rest having_read.2 in
    let found = exists_sound where_read.0.1 exists_read.0.0 exists_read.0.1 exists_read.1 in
    let first = tests_clause_said terminal.Where ts where_read.0.0 where_read.0.1 where_read.1 in
    let said = tests_clause_said terminal.Having exists_read.0.1 having_read.0.0 having_read.0.1 having_read.1 in
    let last : exists_read.0.1 ≡ tests_clause terminal.Having having_read.0.0 ++ rest = said.0 ∙ ap (λ (l : List Token). tests_clause terminal.Having having_read.0.0 ++ l) p.1 in
    record {
      tests = where_read.0.0;
      exists = exists_read.0.0;
      having = having_read.0.0;
      is = sym p.0;
      written = one_after (tests_clause terminal.Where where_read.0.0) (exists_words exists_read.0.0) ts where_read.0.1 exists_read.0.1 (tests_clause terminal.Having having_read.0.0 ++ rest) first.0 found.0 last;
      filled = found.1;
      tested = first.1;
      tested_having = said.1;
    }
  where
    one_after : (front back ts middle after rest : List Token) → ts ≡ front ++ middle → middle ≡ back ++ after → after ≡ rest → ts ≡ front ++ (back ++ rest)
    one_after front back ts middle after rest a b d = a ∙ ap (λ (l : List Token). front ++ l) (b ∙ ap (λ (l : List Token). back ++ l) d)

group_written : (t : Bytes) (by : By) (shown : List Aggregate) (tests : List Test) (exists : Option Exists) (having : List Test) (ts named grouped showing given rest : List Token)
    → ts ≡ Name t ∷ named → named ≡ by_words by ++ grouped → grouped ≡ Fixed terminal.Show ∷ showing → showing ≡ aggregates_words shown ++ given
    → given ≡ tests_clause terminal.Where tests ++ (exists_words exists ++ (tests_clause terminal.Having having ++ rest)) → Fixed terminal.Group ∷ ts ≡ phrase (Group t by shown tests exists having) ++ rest
unfolding phrase
group_written t by shown tests exists having ts named grouped showing given rest a b d f g =
    let front : List Token = by_words by in
    let list : List Token = Fixed terminal.Show ∷ aggregates_words shown in
    let conditions : List Token = tests_clause terminal.Where tests ++ (exists_words exists ++ (tests_clause terminal.Having having ++ rest)) in
    let tail : grouped ≡ list ++ conditions = d ∙ ap (λ (l : List Token). Fixed terminal.Show ∷ l) (f ∙ ap (λ (l : List Token). aggregates_words shown ++ l) g) in
    ap (λ (l : List Token). Fixed terminal.Group ∷ l)
    (a ∙ ap (λ (l : List Token). Name t ∷ l) (b ∙ ap (λ (l : List Token). front ++ l) tail ∙ pieces front list (tests_clause terminal.Where tests) (exists_words exists) (tests_clause terminal.Having having) rest))

group_sound : SoundForm terminal.Group group_at
unfolding group_at SoundForm
group_sound ts c rest e =
    let named = bind_some (name_at ts) (λ t. by_at t.1 >>= λ b. skip terminal.Show b.1 >>= λ s. aggregates_at s >>= λ a. conditions_after t.0 b.0 a.0 a.1) (c, rest) e in
    let grouped = bind_some (by_at named.0.1) (λ b. skip terminal.Show b.1 >>= λ s. aggregates_at s >>= λ a. conditions_after named.0.0 b.0 a.0 a.1) (c, rest) named.2 in
    let showing = bind_some (skip terminal.Show grouped.0.1) (λ s. aggregates_at s >>= λ a. conditions_after named.0.0 grouped.0.0 a.0 a.1) (c, rest) grouped.2 in
    let given = bind_some (aggregates_at showing.0) (λ a. conditions_after named.0.0 grouped.0.0 a.0 a.1) (c, rest) showing.2 in
    let k = conditions_sound named.0.0 grouped.0.0 given.0.0 given.0.1 c rest given.2 in
    let shown = aggregates_sound showing.0 given.0.0 given.0.1 given.1 in
    let by = by_sound named.0.1 grouped.0.0 grouped.0.1 grouped.1 in
    group_told named.0.0 grouped.0.0 given.0.0 k.tests k.exists k.having c ts rest
    (group_written named.0.0 grouped.0.0 given.0.0 k.tests k.exists k.having ts named.0.1 grouped.0.1 showing.0 given.0.1 rest (name_sound ts named.0.0 named.0.1 named.1) by.0 (skip_sound terminal.Show grouped.0.1 showing.0 showing.1) shown.0 k.written)
    (both (columns_filled grouped.0.0.rollup grouped.0.0.columns) _ by.1 (both (some given.0.0) _ shown.1 (both (exists_filled k.exists) _ k.filled (both (list_all is_test k.tests) (list_all is_test k.having) k.tested k.tested_having)))) k.is
  where
    group_told : (t : Bytes) (by : By) (shown : List Aggregate) (tests : List Test) (exists : Option Exists) (having : List Test) (c : Command) (ts rest : List Token)
        → Fixed terminal.Group ∷ ts ≡ phrase (Group t by shown tests exists having) ++ rest → grammatical (Group t by shown tests exists having) ≡ true → c ≡ Group t by shown tests exists having
        → (Fixed terminal.Group ∷ ts ≡ phrase c ++ rest) × (grammatical c ≡ true)
    group_told t by shown tests exists having c ts rest written valid is = (written ∙ ap (λ (v : Command). phrase v ++ rest) (sym is), ap grammatical is ∙ valid)

distinct_sound : SoundForm terminal.Distinct distinct_at
unfolding distinct_at SoundForm phrase
distinct_sound ts c rest e =
    let named = bind_some (name_at ts) (λ t. skip terminal.On t.1 >>= λ o. names_at o >>= λ n. clause_at terminal.Where tests_at n.1 >>= λ w. Some (Distinct t.0 n.0 w.0, w.1)) (c, rest) e in
    let on_read = bind_some (skip terminal.On named.0.1) (λ o. names_at o >>= λ n. clause_at terminal.Where tests_at n.1 >>= λ w. Some (Distinct named.0.0 n.0 w.0, w.1)) (c, rest) named.2 in
    let listed = bind_some (names_at on_read.0) (λ n. clause_at terminal.Where tests_at n.1 >>= λ w. Some (Distinct named.0.0 n.0 w.0, w.1)) (c, rest) on_read.2 in
    let tested = bind_some (clause_at terminal.Where tests_at listed.0.1) (λ w. Some (Distinct named.0.0 listed.0.0 w.0, w.1)) (c, rest) listed.2 in
    let p = pair_is (Distinct named.0.0 listed.0.0 tested.0.0) c tested.0.1 rest tested.2 in
    let where_ : List Token = tests_clause terminal.Where tested.0.0 in
    let names = names_sound on_read.0 listed.0.0 listed.0.1 listed.1 in
    let tests = tests_clause_said terminal.Where listed.0.1 tested.0.0 tested.0.1 tested.1 in
    let inner : on_read.0 ≡ (names_words listed.0.0 ++ where_) ++ tested.0.1 = joined (names_words listed.0.0) where_ on_read.0 listed.0.1 tested.0.1 names.0 tests.0 in
    let worded : Fixed terminal.Distinct ∷ ts ≡ phrase (Distinct named.0.0 listed.0.0 tested.0.0) ++ tested.0.1 =
    ap (λ (l : List Token). Fixed terminal.Distinct ∷ l) (name_sound ts named.0.0 named.0.1 named.1 ∙ ap (λ (l : List Token). Name named.0.0 ∷ l) (skip_sound terminal.On named.0.1 on_read.0 on_read.1 ∙ ap (λ (l : List Token). Fixed terminal.On ∷ l) inner)) in
    (worded ∙ ap (λ (v : Command). phrase v ++ tested.0.1) p.0 ∙ ap (λ (l : List Token). phrase c ++ l) p.1, ap grammatical (sym p.0) ∙ both (some listed.0.0) (list_all is_test tested.0.0) names.1 tests.1)

behind_sound : (first : Terminal) → SoundForm first (form_after first)
unfolding form_after SoundForm phrase row_words
behind_sound terminal.Create ts c rest e = create_sound ts c rest e
behind_sound terminal.Drop ts c rest e = named_sound terminal.Drop Drop (λ t. refl) (λ t. refl) ts c rest e
behind_sound terminal.Load ts c rest e = named_sound terminal.Load (λ t. Load t payload.Open) (λ t. refl) (λ t. refl) ts c rest e
behind_sound terminal.Upsert ts c rest e = valued_sound terminal.Upsert Upsert (λ t values. refl) (λ t values. refl) ts c rest e
behind_sound terminal.Delete ts c rest e = valued_sound terminal.Delete Delete (λ t values. refl) (λ t values. refl) ts c rest e
behind_sound terminal.Show ts c rest e = named_sound terminal.Show Show (λ t. refl) (λ t. refl) ts c rest e
behind_sound terminal.Group ts c rest e = group_sound ts c rest e
behind_sound terminal.Distinct ts c rest e = distinct_sound ts c rest e
behind_sound _ ts c rest e = absurd cc

form_sound : (ts : List Token) (c : Command) (rest : List Token) → form_at ts ≡ Some (c, rest) → (ts ≡ phrase c ++ rest) × (grammatical c ≡ true)
unfolding form_at SoundForm
form_sound [] c rest e = absurd cc
form_sound (Fixed first ∷ ts) c rest e = behind_sound first ts c rest e
form_sound (Name n ∷ ts) c rest e = absurd cc
form_sound (Number z ∷ ts) c rest e = absurd cc
form_sound (Text s ∷ ts) c rest e = absurd cc

ended_sound : (c d : Command) (ts : List Token) → ended (c, ts) ≡ Some d → (c ≡ d) × (ts ≡ [])
unfolding ended
ended_sound c d [] e = (some_is c d e, refl)
ended_sound c d (t ∷ ts) e = absurd cc

-- what is read from all of the tokens is said by them
pub command_sound : (ts : List Token) (c : Command) → command_of ts ≡ Some c → SaysTokens (Some ts) c
unfolding command_of
command_sound ts c e =
    let a = bind_some (form_at ts) (λ form. ended form >>= λ command. if keeps_rules command then Some command else None) c e in
    let b = bind_some (ended a.0) (λ command. if keeps_rules command then Some command else None) c a.2 in
    let g = guard_some (keeps_rules b.0) b.0 c b.2 in
    let s = form_sound ts a.0.0 a.0.1 a.1 in
    let n = ended_sound a.0.0 b.0 a.0.1 b.1 in
    let same_command : a.0.0 ≡ c = n.0 ∙ g.1 in
    record {
      written = ap Some (s.0 ∙ ap (λ (l : List Token). phrase a.0.0 ++ l) n.1 ∙ append-nil (phrase a.0.0) ∙ ap phrase same_command);
      command = both (grammatical c) (keeps_rules c) (ap grammatical (sym same_command) ∙ s.1) (ap keeps_rules (sym g.1) ∙ g.0);
    }
