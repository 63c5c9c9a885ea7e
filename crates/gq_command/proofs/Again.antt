-- What is written so is read.
use Rattle.std.proofs.Common.{◌≡◌, Bool, true, false, cond, List, [], ◌∷◌, ◌++◌, Option, Some, None, refl, sym, ap, ◌∙◌, append_assoc, arith}
use Rattle.std.proofs.lemmas.List.{append-nil}
use Rattle.std.specs.List.{list_all}
use Rattle.gq_token.specs.declared.token.Terminal.{Terminal}
use Rattle.gq_token.specs.declared.token.Terminal.TheVariants as terminal
use Rattle.gq_token.specs.declared.token.Token.{Token}
use Rattle.gq_token.specs.declared.token.Token.TheVariants.{Fixed, Name}
use Rattle.gq_token.specs.Tokens.{same}
use Rattle.gq_token.specs.Queue.{skip, column_comma}
use Rattle.gq_row.specs.declared.schema.Kind.{Kind}
use Rattle.gq_row.specs.declared.schema.Kind.TheVariants as kind
use Rattle.gq_row.specs.declared.schema.Column.{Column}
use Rattle.gq_row.specs.declared.value.Value.{Value}
use Rattle.gq_clause.specs.declared.aggregate.Aggregate.{Aggregate}
use Rattle.gq_clause.specs.declared.condition.Test.{Test}
use Rattle.gq_clause.specs.Reading.{name_at, names_at, literals_at, in_parentheses}
use Rattle.gq_clause.proofs.Sound.{both_true}
use Rattle.gq_clause.proofs.Again.{AgainWhere, always, all_always, list_again, names_again, literals_again, in_parentheses_again, aggregates_again, tests_clause_again, tests_at_end, not_led}
use Rattle.gq_clause.specs.Words.{test_words}
use Rattle.gq_command.specs.Commands.{Bytes, some, separated, parenthesized, names_words, column_words, kind_words, literals_words, aggregates_words, tests_clause, is_test, are_literals, key_words, not_words, exists_words, columns_words, by_words, phrase, exists_filled, columns_filled, grammatical, is_open, keeps_rules, SaysTokens}
use Rattle.gq_command.specs.declared.command.By.{By}
use Rattle.gq_command.specs.declared.command.Command.{Command}
use Rattle.gq_command.specs.declared.command.Command.TheVariants.{Create, Drop, Load, Upsert, Delete, Show, Group, Distinct}
use Rattle.gq_command.specs.declared.command.Exists.{Exists}
use Rattle.gq_command.specs.declared.command.Payload.{Payload}
use Rattle.gq_command.specs.declared.command.Payload.TheVariants as payload
use Rattle.gq_command.specs.Reading.{text_after, kind_at, column_at, columns_at, key_at, ended, row_at, create_at, exists_after, exists_at, by_after, by_at, conditions_after, group_at, distinct_at, form_after, form_at, command_of}

-- a kind is read where no `nocase` follows it
kind_again : (k : Kind) (rest : List Token) → skip terminal.NoCase rest ≡ None → kind_at (kind_words k ++ rest) ≡ Some (k, rest)
unfolding kind_at text_after
kind_again kind.Int rest ends = refl
kind_again kind.Text rest ends =
    let f : Option (List Token) → Option (Kind × List Token) = λ o. Some (elim o [ None ↦ (kind.Text, rest) | Some after ↦ (kind.NoCase, after) ]) in
    ap f ends
kind_again kind.NoCase rest ends = refl

column_again : AgainWhere always (λ rest. skip terminal.NoCase rest ≡ None) column_at column_words
unfolding column_at name_at
column_again c rest valid ends = rw (kind_again c.kind rest ends) refl

column_goes_on : (x : Column) (rest : List Token) → column_comma (Fixed terminal.Comma ∷ (column_words x ++ rest)) ≡ Some (column_words x ++ rest)
unfolding column_comma
column_goes_on x rest = refl

columns_again : (xs : List Column) (rest : List Token) → some xs ≡ true → skip terminal.NoCase rest ≡ None → column_comma rest ≡ None → columns_at (separated terminal.Comma column_words xs ++ rest) ≡ Some (xs, rest)
columns_again xs rest filled follows ends =
    list_again column_at column_comma column_words terminal.Comma always (λ l. skip terminal.NoCase l ≡ None) column_again (λ x. omega arith) (λ l. refl) column_goes_on xs rest filled (all_always xs) follows ends

-- what closes a list of columns
columns_end : (key : List Bytes) (rest : List Token) → column_comma (key_words key ++ (Fixed terminal.Close ∷ rest)) ≡ None
unfolding column_comma
columns_end [] rest = refl
columns_end (n ∷ ns) rest = refl

columns_part : (key : List Bytes) (rest : List Token) → skip terminal.NoCase (key_words key ++ (Fixed terminal.Close ∷ rest)) ≡ None
columns_part [] rest = refl
columns_part (n ∷ ns) rest = refl

key_again : (key : List Bytes) (rest : List Token) → key_at (key_words key ++ (Fixed terminal.Close ∷ rest)) ≡ Some (key, Fixed terminal.Close ∷ rest)
unfolding key_at
key_again [] rest = refl
key_again (n ∷ ns) rest = in_parentheses_again names_at (names_words (n ∷ ns)) (n ∷ ns) (Fixed terminal.Close ∷ rest) (names_again (n ∷ ns) (Fixed terminal.Close ∷ (Fixed terminal.Close ∷ rest)) refl refl)

create_again : (t : Bytes) (columns : List Column) (key : List Bytes) → some columns ≡ true
    → create_at (Name t ∷ parenthesized (separated terminal.Comma column_words columns ++ key_words key)) ≡ Some (Create t columns key, [])
unfolding create_at name_at
create_again t columns key filled =
    let inner = separated terminal.Comma column_words columns in
    let e : (inner ++ key_words key) ++ (Fixed terminal.Close ∷ []) ≡ inner ++ (key_words key ++ (Fixed terminal.Close ∷ [])) = append_assoc inner (key_words key) (Fixed terminal.Close ∷ []) in
    rw (e, columns_again columns (key_words key ++ (Fixed terminal.Close ∷ [])) filled (columns_part key []) (columns_end key []), key_again key []) refl

row_again : (t : Bytes) (values : List Value) → are_literals values ≡ true → row_at (Name t ∷ parenthesized (literals_words values)) ≡ Some ((t, values), [])
unfolding row_at name_at
row_again t values valid =
    let text = literals_words values in
    let h : in_parentheses literals_at (parenthesized text) ≡ Some (values, []) = ap (in_parentheses literals_at) (sym (append-nil (parenthesized text))) ∙ in_parentheses_again literals_at text values [] (literals_again values (Fixed terminal.Close ∷ []) valid refl) in
    rw h refl

-- a word that begins neither exists nor what follows it
exists_not_led : (word : Terminal) (e : Option Exists) (rest : List Token) → same terminal.Not word ≡ false → same terminal.Exists word ≡ false → skip word rest ≡ None → skip word (exists_words e ++ rest) ≡ None
exists_not_led word None rest unlike other none = none
exists_not_led word (Some e) rest unlike other none = by_negated e.negated
  where
    by_negated : (negated : Bool) → skip word ((not_words negated ++ (Fixed terminal.Exists ∷ Name e.table ∷ (parenthesized (names_words e.theirs) ++ (Fixed terminal.Equal ∷ parenthesized (names_words e.ours))))) ++ rest) ≡ None
    by_negated true = ap (λ (b : Bool). cond b (Some ((Fixed terminal.Exists ∷ Name e.table ∷ (parenthesized (names_words e.theirs) ++ (Fixed terminal.Equal ∷ parenthesized (names_words e.ours)))) ++ rest)) None) unlike
    by_negated false = ap (λ (b : Bool). cond b (Some ((Name e.table ∷ (parenthesized (names_words e.theirs) ++ (Fixed terminal.Equal ∷ parenthesized (names_words e.ours)))) ++ rest)) None) other

-- what follows the word `exists` is read
exists_behind_again : (negated : Bool) (t : Bytes) (theirs ours : List Bytes) (rest : List Token) → some theirs ≡ true → some ours ≡ true
    → exists_after negated (Name t ∷ (parenthesized (names_words theirs) ++ (Fixed terminal.Equal ∷ (parenthesized (names_words ours) ++ rest)))) ≡ Some (record { negated = negated; table = t; theirs = theirs; ours = ours }, rest)
unfolding exists_after name_at
exists_behind_again negated t theirs ours rest h k =
    let behind : List Token = Fixed terminal.Equal ∷ (parenthesized (names_words ours) ++ rest) in
    let first : in_parentheses names_at (parenthesized (names_words theirs) ++ behind) ≡ Some (theirs, behind) = in_parentheses_again names_at (names_words theirs) theirs behind (names_again theirs (Fixed terminal.Close ∷ behind) h refl) in
    let second : in_parentheses names_at (parenthesized (names_words ours) ++ rest) ≡ Some (ours, rest) = in_parentheses_again names_at (names_words ours) ours rest (names_again ours (Fixed terminal.Close ∷ rest) k refl) in
    rw (first, second) refl

exists_again : (e : Option Exists) (rest : List Token) → exists_filled e ≡ true → skip terminal.Not rest ≡ None → skip terminal.Exists rest ≡ None → exists_at (exists_words e ++ rest) ≡ Some (e, rest)
unfolding exists_at
exists_again None rest filled unlike other = rw (unlike, other) refl
exists_again (Some e) rest filled unlike other =
    let front : List Token = parenthesized (names_words e.theirs) in
    let back : List Token = parenthesized (names_words e.ours) in
    let p = both_true (some e.theirs) (some e.ours) filled in
    let apart : (front ++ (Fixed terminal.Equal ∷ back)) ++ rest ≡ front ++ (Fixed terminal.Equal ∷ (back ++ rest)) = append_assoc front (Fixed terminal.Equal ∷ back) rest in
    let read : (negated : Bool) → exists_after negated (Name e.table ∷ ((front ++ (Fixed terminal.Equal ∷ back)) ++ rest)) ≡ Some (record { negated = negated; table = e.table; theirs = e.theirs; ours = e.ours }, rest)
    = λ negated. ap (λ (l : List Token). exists_after negated (Name e.table ∷ l)) apart ∙ exists_behind_again negated e.table e.theirs e.ours rest p.0 p.1 in
    let P : Bool → Type 0 = λ negated. exists_at ((not_words negated ++ (Fixed terminal.Exists ∷ Name e.table ∷ (front ++ (Fixed terminal.Equal ∷ back)))) ++ rest) ≡ Some (Some (record { negated = negated; table = e.table; theirs = e.theirs; ours = e.ours }), rest) in
    let by_negated : (negated : Bool) → P negated = λ negated. elim negated as P [ true ↦ rw (read true) refl | false ↦ rw (read false) refl ] in
    by_negated e.negated

by_again : (by : By) (rest : List Token) → columns_filled by.rollup by.columns ≡ true → by_at (by_words by ++ (Fixed terminal.Show ∷ rest)) ≡ Some (by, Fixed terminal.Show ∷ rest)
unfolding by_at by_after
by_again by rest filled = by_columns by.rollup by.columns filled
  where
    by_columns : (rollup : Bool) (columns : List Bytes) → columns_filled rollup columns ≡ true → by_at (columns_words rollup columns ++ (Fixed terminal.Show ∷ rest)) ≡ Some (record { columns = columns; rollup = rollup }, Fixed terminal.Show ∷ rest)
    by_columns false [] filled = refl
    by_columns false (n ∷ []) filled = rw (names_again (n ∷ []) (Fixed terminal.Show ∷ rest) refl refl) refl
    by_columns false (n ∷ m ∷ ns) filled = rw (names_again (n ∷ m ∷ ns) (Fixed terminal.Show ∷ rest) refl refl) refl
    by_columns true columns filled =
        rw (in_parentheses_again names_at (names_words columns) columns (Fixed terminal.Show ∷ rest) (names_again columns (Fixed terminal.Close ∷ (Fixed terminal.Show ∷ rest)) filled refl)) refl

group_again : (t : Bytes) (by : By) (shown : List Aggregate) (tests : List Test) (exists : Option Exists) (having : List Test)
    → columns_filled by.rollup by.columns ≡ true → some shown ≡ true → exists_filled exists ≡ true → list_all is_test tests ≡ true → list_all is_test having ≡ true → form_at (phrase (Group t by shown tests exists having)) ≡ Some (Group t by shown tests exists having, [])
unfolding group_at conditions_after name_at form_at form_after phrase
group_again t by shown tests exists having columned filled both tested tested_having =
    let end : List Token = tests_clause terminal.Having having in
    let last : List Token = exists_words exists ++ end in
    let conditions : List Token = tests_clause terminal.Where tests ++ last in
    let led : (word : Terminal) → same terminal.Having word ≡ false → skip word end ≡ None = λ word h. ap (skip word) (sym (append-nil end)) ∙ not_led word terminal.Having terminal.And test_words having [] h refl in
    let led_last : (word : Terminal) → same terminal.Not word ≡ false → same terminal.Exists word ≡ false → same terminal.Having word ≡ false → skip word last ≡ None = λ word n x h. exists_not_led word exists end n x (led word h) in
    let first = by_again by (aggregates_words shown ++ conditions) columned in
    let second = aggregates_again shown conditions filled (not_led terminal.Comma terminal.Where terminal.And test_words tests last refl (led_last terminal.Comma refl refl refl)) in
    let third = tests_clause_again terminal.Where tests last tested (led_last terminal.Where refl refl refl) (led_last terminal.And refl refl refl) in
    let fourth = exists_again exists end both (led terminal.Not refl) (led terminal.Exists refl) in
    let fifth = tests_at_end terminal.Having having tested_having in
    rw (first, second, third, fourth, fifth) refl

distinct_again : (t : Bytes) (on : List Bytes) (tests : List Test) → some on ≡ true → list_all is_test tests ≡ true → form_at (phrase (Distinct t on tests)) ≡ Some (Distinct t on tests, [])
unfolding distinct_at name_at form_at form_after phrase
distinct_again t on tests filled tested =
    let end : List Token = tests_clause terminal.Where tests in
    let led : skip terminal.Comma end ≡ None = ap (skip terminal.Comma) (sym (append-nil end)) ∙ not_led terminal.Comma terminal.Where terminal.And test_words tests [] refl refl in
    rw (names_again on end filled led, tests_at_end terminal.Where tests tested) refl

pub opened : (p : Payload) → is_open p ≡ true → p ≡ payload.Open
opened (payload.Bytes bytes) e = absurd cc
opened payload.Open e = refl
opened payload.TooLong e = absurd cc
opened payload.NoMemory e = absurd cc

-- a command's phrase is read as the command
form_again : (c : Command) → grammatical c ≡ true → keeps_rules c ≡ true → form_at (phrase c) ≡ Some (c, [])
unfolding form_at form_after name_at phrase
form_again (Create t columns key) h k = create_again t columns key h
form_again (Drop t) h k = refl
form_again (Load t carried) h k = ap (λ (p : Payload). Some (Load t p, [])) (sym (opened carried k))
form_again (Upsert t values) h k = rw (row_again t values h) refl
form_again (Delete t values) h k = rw (row_again t values h) refl
form_again (Show t) h k = refl
form_again (Group t by shown tests exists having) h k =
    let o = both_true (columns_filled by.rollup by.columns) _ h in
    let p = both_true (some shown) _ o.1 in
    let q = both_true (exists_filled exists) _ p.1 in
    let r = both_true (list_all is_test tests) (list_all is_test having) q.1 in
    group_again t by shown tests exists having o.0 p.0 q.0 r.0 r.1
form_again (Distinct t on tests) h k = let p = both_true (some on) (list_all is_test tests) h in distinct_again t on tests p.0 p.1

-- what the tokens say is read from them
pub command_again : (ts : List Token) (c : Command) → SaysTokens (Some ts) c → command_of ts ≡ Some c
unfolding command_of ended
command_again ts c s =
    let e : ts ≡ phrase c = cc (s.written) in
    let p = both_true (grammatical c) (keeps_rules c) s.command in
    ap command_of e ∙ rw (form_again c p.0 p.1) (rw p.1 refl)

-- no tokens say two commands
pub one_command : (ts : Option (List Token)) (c d : Command) → SaysTokens ts c → SaysTokens ts d → c ≡ d
one_command None c d a b = absurd (cc (a.written))
one_command (Some ts) c d a b = let e = sym (command_again ts c a) ∙ command_again ts d b in cc
