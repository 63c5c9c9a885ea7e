-- Worked lines and scripts, which the checker computes.
use Rattle.std.proofs.Common.{◌≡◌, ℕ, zero, suc, ◌<◌, Bool, true, false, cond, List, [], ◌∷◌, ◌++◌, Option, Some, None, refl, ap, ◌∙◌, arith}
use Rattle.std.proofs.lemmas.Bool.{ltb-true}
use Rattle.std.proofs.lemmas.Str.{IsUtf8-from_ascii, is_utf8-from_IsUtf8}
use Rattle.std.specs.Prelude.{codes, nat_lt, pos, replicate, neg_ℤ}
use Rattle.std.specs.List.{list_all, slice_index}
use Rattle.gq_row.specs.Limits.{GREATEST}
use Rattle.gq_row.specs.declared.schema.Kind.TheVariants as kind
use Rattle.gq_row.specs.declared.value.Value.TheVariants as value
use Rattle.gq_token.specs.declared.token.Terminal.TheVariants as terminal
use Rattle.gq_token.specs.declared.token.Token.{Token}
use Rattle.gq_token.specs.declared.token.Token.TheVariants.{Fixed, Name, Number, Text}
use Rattle.gq_clause.specs.declared.aggregate.Aggregate.TheVariants.{CountAll, Count, CountDistinct, Sum, Min, Max}
use Rattle.gq_clause.specs.declared.condition.Operand.TheVariants as operand
use Rattle.gq_row.specs.declared.comparison.Comparison.TheVariants as comparison
use Rattle.gq_clause.specs.declared.condition.Test.TheVariants.{Compare, IsNull, IsNotNull}
use Rattle.gq_clause.specs.Reading.{name_at, in_parentheses, items_within, literal_at, clause_at, aggregate_at, aggregate_after, aggregate_within, counted_at, operand_at, comparison_at, null_test_after, test_at}
use Rattle.gq_command.specs.declared.command.Command.{Command}
use Rattle.gq_command.specs.declared.command.Command.TheVariants.{Create, Drop, Load, Upsert, Delete, Show, Group, Distinct}
use Rattle.gq_command.specs.declared.command.Payload.TheVariants as payload
use Rattle.gq_command.specs.declared.reader.Item.TheVariants as item
use Rattle.gq_command.specs.Commands.{Bytes, phrase, is_command, fits}
use Rattle.gq_command.specs.Items.{ReadsAs}
use Rattle.gq_command.specs.Reading.{command_of, form_at, form_after, create_at, column_at, kind_at, text_after, key_at, by_after, by_at, group_at, conditions_after, distinct_at, exists_at, exists_after, row_at, ended}
use Rattle.gq_token.specs.Lexing.{tokens, lexed, tokens_within, token_at, word_at, word, sign_at, digits_at, name_in_quotes, text_in_quotes}
use Rattle.gq_command.specs.Lines.{Says}
use Rattle.gq_script.specs.Script.{Plain, Loading, items, entries_by}
use Rattle.gq_token.specs.Queue.{column_comma}
use Rattle.gq_token.specs.Results.{◌>>=◌}
use Rattle.gq_clause.proofs.Sound.{both_true}
use Rattle.gq_command.proofs.Line.{none_said}

-- a line of ASCII is text, so its tokens are computed

abbrev is_ascii : Bytes → Bool
is_ascii = list_all (λ b. nat_lt b 128)

ascii : (line : Bytes) → is_ascii line ≡ true → (i : ℕ) → slice_index line i < 128
ascii [] h i = omega arith
ascii (b ∷ bs) h zero = ltb-true b 128 (both_true (nat_lt b 128) (is_ascii bs) h).0
ascii (b ∷ bs) h (suc i) = ascii bs (both_true (nat_lt b 128) (is_ascii bs) h).1 i

cut : (line : Bytes) (ts : Option (List Token)) → is_ascii line ≡ true → lexed line ≡ ts → tokens line ≡ ts
unfolding tokens
cut line ts plain e = ap (λ (t : Bool). cond t (lexed line) None) (is_utf8-from_IsUtf8 line (IsUtf8-from_ascii line (ascii line plain))) ∙ e

said : (line : Bytes) (c : Command) → is_ascii line ≡ true → lexed line ≡ Some (phrase c) → is_command c ≡ true → Says line c
said line c plain e h = record { written = cut line (Some (phrase c)) plain e; command = h }

-- commands

create_line : Says (codes "create s (id int, city text, key (id))") (Create (codes "s") (record { name = codes "id"; kind = kind.Int } ∷ record { name = codes "city"; kind = kind.Text } ∷ []) (codes "id" ∷ []))
unfolding phrase lexed tokens_within token_at word_at word sign_at digits_at name_in_quotes text_in_quotes
create_line = said (codes "create s (id int, city text, key (id))") _ refl refl refl

no_key : Says (codes "Create l(a INT)") (Create (codes "l") (record { name = codes "a"; kind = kind.Int } ∷ []) [])
unfolding phrase lexed tokens_within token_at word_at word sign_at digits_at name_in_quotes text_in_quotes
no_key = said (codes "Create l(a INT)") _ refl refl refl

without_case : Says (codes "create p (c Text NoCase, d text, key (c))") (Create (codes "p") (record { name = codes "c"; kind = kind.NoCase } ∷ record { name = codes "d"; kind = kind.Text } ∷ []) (codes "c" ∷ []))
unfolding phrase lexed tokens_within token_at word_at word sign_at digits_at name_in_quotes text_in_quotes
without_case = said (codes "create p (c Text NoCase, d text, key (c))") _ refl refl refl

upsert_line : Says (codes "upsert s (1, 'Oslo')") (Upsert (codes "s") (value.Int (pos 1) ∷ value.Text (codes "Oslo") ∷ []))
unfolding phrase lexed tokens_within token_at word_at word sign_at digits_at name_in_quotes text_in_quotes
upsert_line = said (codes "upsert s (1, 'Oslo')") _ refl refl refl

null_line : Says (codes "upsert s (null, 'x')") (Upsert (codes "s") (value.Null ∷ value.Text (codes "x") ∷ []))
unfolding phrase lexed tokens_within token_at word_at word sign_at digits_at name_in_quotes text_in_quotes
null_line = said (codes "upsert s (null, 'x')") _ refl refl refl

empty_text : Says (codes "upsert t (4, '')") (Upsert (codes "t") (value.Int (pos 4) ∷ value.Text [] ∷ []))
unfolding phrase lexed tokens_within token_at word_at word sign_at digits_at name_in_quotes text_in_quotes
empty_text = said (codes "upsert t (4, '')") _ refl refl refl

group_line : Says (codes "group s by city show count(*)") (Group (codes "s") (record { columns = codes "city" ∷ []; rollup = false }) (CountAll ∷ []) [] None [])
unfolding phrase lexed tokens_within token_at word_at word sign_at digits_at name_in_quotes text_in_quotes
group_line = said (codes "group s by city show count(*)") _ refl refl refl

each_aggregate : Says (codes "group s by city show count(*), count(id), count(distinct id), sum(id), min(id), max(id)") (Group (codes "s") (record { columns = codes "city" ∷ []; rollup = false }) (CountAll ∷ Count (codes "id") ∷ CountDistinct (codes "id") ∷ Sum (codes "id") ∷ Min (codes "id") ∷ Max (codes "id") ∷ []) [] None [])
unfolding phrase lexed tokens_within token_at word_at word sign_at digits_at name_in_quotes text_in_quotes
each_aggregate = said (codes "group s by city show count(*), count(id), count(distinct id), sum(id), min(id), max(id)") _ refl refl refl

whole_table : Says (codes "group s show sum(id)") (Group (codes "s") (record { columns = []; rollup = false }) (Sum (codes "id") ∷ []) [] None [])
unfolding phrase lexed tokens_within token_at word_at word sign_at digits_at name_in_quotes text_in_quotes
whole_table = said (codes "group s show sum(id)") _ refl refl refl

repeated_aggregate : Says (codes "GROUP s SHOW Max(id), MAX(id)") (Group (codes "s") (record { columns = []; rollup = false }) (Max (codes "id") ∷ Max (codes "id") ∷ []) [] None [])
unfolding phrase lexed tokens_within token_at word_at word sign_at digits_at name_in_quotes text_in_quotes
repeated_aggregate = said (codes "GROUP s SHOW Max(id), MAX(id)") _ refl refl refl

rolled_up : Says (codes "group t by rollup (a, b) show count(*)") (Group (codes "t") (record { columns = codes "a" ∷ codes "b" ∷ []; rollup = true }) (CountAll ∷ []) [] None [])
unfolding phrase lexed tokens_within token_at word_at word sign_at digits_at name_in_quotes text_in_quotes
rolled_up = said (codes "group t by rollup (a, b) show count(*)") _ refl refl refl

conditions : Says (codes "group a by n show count(*) where x > 3 and city is not null not exists u (k) = (k) having sum(x) <= 0") (Group (codes "a") (record { columns = codes "n" ∷ []; rollup = false }) (CountAll ∷ []) (Compare (operand.Column (codes "x")) comparison.Greater (operand.Literal (value.Int (pos 3))) ∷ IsNotNull (operand.Column (codes "city")) ∷ []) (Some (record { negated = true; table = codes "u"; theirs = codes "k" ∷ []; ours = codes "k" ∷ [] })) (Compare (operand.Aggregate (Sum (codes "x"))) comparison.LessEqual (operand.Literal (value.Int (pos 0))) ∷ []))
unfolding phrase lexed tokens_within token_at word_at word sign_at digits_at name_in_quotes text_in_quotes
conditions = said (codes "group a by n show count(*) where x > 3 and city is not null not exists u (k) = (k) having sum(x) <= 0") _ refl refl refl

exists_alone : Says (codes "group a show count(*) exists u (c2, d2) = (c1, d1)") (Group (codes "a") (record { columns = []; rollup = false }) (CountAll ∷ []) [] (Some (record { negated = false; table = codes "u"; theirs = codes "c2" ∷ codes "d2" ∷ []; ours = codes "c1" ∷ codes "d1" ∷ [] })) [])
unfolding phrase lexed tokens_within token_at word_at word sign_at digits_at name_in_quotes text_in_quotes
exists_alone = said (codes "group a show count(*) exists u (c2, d2) = (c1, d1)") _ refl refl refl

distinct_line : Says (codes "distinct s on city where id <> 7") (Distinct (codes "s") (codes "city" ∷ []) (Compare (operand.Column (codes "id")) comparison.NotEqual (operand.Literal (value.Int (pos 7))) ∷ []))
unfolding phrase lexed tokens_within token_at word_at word sign_at digits_at name_in_quotes text_in_quotes
distinct_line = said (codes "distinct s on city where id <> 7") _ refl refl refl

two_literals : Says (codes "distinct s on a where 1 = 'a' and 2 is null and null is null") (Distinct (codes "s") (codes "a" ∷ []) (Compare (operand.Literal (value.Int (pos 1))) comparison.Equal (operand.Literal (value.Text (codes "a"))) ∷ IsNull (operand.Literal (value.Int (pos 2))) ∷ IsNull (operand.Literal value.Null) ∷ []))
unfolding phrase lexed tokens_within token_at word_at word sign_at digits_at name_in_quotes text_in_quotes
two_literals = said (codes "distinct s on a where 1 = 'a' and 2 is null and null is null") _ refl refl refl

drop_line : Says (codes "DROP " ++ (34 ∷ codes "s" ++ 34 ∷ [])) (Drop (codes "s"))
unfolding phrase lexed tokens_within token_at word_at word sign_at digits_at name_in_quotes text_in_quotes
drop_line = said (codes "DROP " ++ (34 ∷ codes "s" ++ 34 ∷ [])) _ refl refl refl

load_line : Says (codes "Load s") (Load (codes "s") payload.Open)
unfolding phrase lexed tokens_within token_at word_at word sign_at digits_at name_in_quotes text_in_quotes
load_line = said (codes "Load s") _ refl refl refl

delete_line : Says (codes "delete s (1, 'Oslo')") (Delete (codes "s") (value.Int (pos 1) ∷ value.Text (codes "Oslo") ∷ []))
unfolding phrase lexed tokens_within token_at word_at word sign_at digits_at name_in_quotes text_in_quotes
delete_line = said (codes "delete s (1, 'Oslo')") _ refl refl refl

show_line : Says (codes "show s") (Show (codes "s"))
unfolding phrase lexed tokens_within token_at word_at word sign_at digits_at name_in_quotes text_in_quotes
show_line = said (codes "show s") _ refl refl refl

-- lines that say nothing

unsaid : (line : Bytes) (ts : List Token) → is_ascii line ≡ true → lexed line ≡ Some ts → command_of ts ≡ None → (c : Command) → Says line c → ⊥
unsaid line ts plain e none = none_said line (ap (λ (o : Option (List Token)). o >>= command_of) (cut line (Some ts) plain e) ∙ none)

number_without_case : (c : Command) → Says (codes "create p (c int nocase)") c → ⊥
unfolding lexed tokens_within token_at word_at word sign_at digits_at name_in_quotes text_in_quotes command_of form_at form_after create_at column_at kind_at key_at name_at items_within column_comma ended
number_without_case = unsaid (codes "create p (c int nocase)") _ refl refl refl

kind_without_case_alone : (c : Command) → Says (codes "create p (c nocase)") c → ⊥
unfolding lexed tokens_within token_at word_at word sign_at digits_at name_in_quotes text_in_quotes command_of form_at form_after create_at column_at kind_at key_at name_at items_within column_comma ended
kind_without_case_alone = unsaid (codes "create p (c nocase)") _ refl refl refl

-- a column's kind is one of these words, and a name is none
text_of_a_name : (c : Command) → Says (codes "create p (c text folded)") c → ⊥
unfolding lexed tokens_within token_at word_at word sign_at digits_at name_in_quotes text_in_quotes command_of form_at form_after create_at column_at kind_at text_after key_at name_at items_within column_comma ended
text_of_a_name = unsaid (codes "create p (c text folded)") _ refl refl refl

no_name_shown : (c : Command) → Says (codes "show") c → ⊥
unfolding lexed tokens_within token_at word_at word sign_at digits_at name_in_quotes text_in_quotes command_of form_at form_after name_at row_at in_parentheses items_within literal_at ended
no_name_shown = unsaid (codes "show") _ refl refl refl

two_names_loaded : (c : Command) → Says (codes "load s extra") c → ⊥
unfolding lexed tokens_within token_at word_at word sign_at digits_at name_in_quotes text_in_quotes command_of form_at form_after name_at row_at in_parentheses items_within literal_at ended
two_names_loaded = unsaid (codes "load s extra") _ refl refl refl

two_names_dropped : (c : Command) → Says (codes "drop s, t") c → ⊥
unfolding lexed tokens_within token_at word_at word sign_at digits_at name_in_quotes text_in_quotes command_of form_at form_after name_at row_at in_parentheses items_within literal_at ended
two_names_dropped = unsaid (codes "drop s, t") _ refl refl refl

no_values_deleted : (c : Command) → Says (codes "delete s") c → ⊥
unfolding lexed tokens_within token_at word_at word sign_at digits_at name_in_quotes text_in_quotes command_of form_at form_after name_at row_at in_parentheses items_within literal_at ended
no_values_deleted = unsaid (codes "delete s") _ refl refl refl

empty_values_deleted : (c : Command) → Says (codes "delete s ()") c → ⊥
unfolding lexed tokens_within token_at word_at word sign_at digits_at name_in_quotes text_in_quotes command_of form_at form_after name_at row_at in_parentheses items_within literal_at ended
empty_values_deleted = unsaid (codes "delete s ()") _ refl refl refl

bare_value_deleted : (c : Command) → Says (codes "delete s 1") c → ⊥
unfolding lexed tokens_within token_at word_at word sign_at digits_at name_in_quotes text_in_quotes command_of form_at form_after name_at row_at in_parentheses items_within literal_at ended
bare_value_deleted = unsaid (codes "delete s 1") _ refl refl refl

values_shown : (c : Command) → Says (codes "show s (1)") c → ⊥
unfolding lexed tokens_within token_at word_at word sign_at digits_at name_in_quotes text_in_quotes command_of form_at form_after name_at row_at in_parentheses items_within literal_at ended
values_shown = unsaid (codes "show s (1)") _ refl refl refl

nothing_shown : (c : Command) → Says (codes "group s by a show") c → ⊥
unfolding lexed tokens_within token_at word_at word sign_at digits_at name_in_quotes text_in_quotes command_of form_at form_after group_at by_at by_after conditions_after exists_at clause_at aggregate_at aggregate_after aggregate_within counted_at name_at in_parentheses items_within ended
nothing_shown = unsaid (codes "group s by a show") _ refl refl refl

nothing_counted : (c : Command) → Says (codes "group s show count()") c → ⊥
unfolding lexed tokens_within token_at word_at word sign_at digits_at name_in_quotes text_in_quotes command_of form_at form_after group_at by_at by_after conditions_after exists_at clause_at aggregate_at aggregate_after aggregate_within counted_at name_at in_parentheses items_within ended
nothing_counted = unsaid (codes "group s show count()") _ refl refl refl

rows_summed : (c : Command) → Says (codes "group s show sum(*)") c → ⊥
unfolding lexed tokens_within token_at word_at word sign_at digits_at name_in_quotes text_in_quotes command_of form_at form_after group_at by_at by_after conditions_after exists_at clause_at aggregate_at aggregate_after aggregate_within counted_at name_at in_parentheses items_within ended
rows_summed = unsaid (codes "group s show sum(*)") _ refl refl refl

different_summed : (c : Command) → Says (codes "group s show sum(distinct a)") c → ⊥
unfolding lexed tokens_within token_at word_at word sign_at digits_at name_in_quotes text_in_quotes command_of form_at form_after group_at by_at by_after conditions_after exists_at clause_at aggregate_at aggregate_after aggregate_within counted_at name_at in_parentheses items_within ended
different_summed = unsaid (codes "group s show sum(distinct a)") _ refl refl refl

comma_at_the_end : (c : Command) → Says (codes "group s show count(*),") c → ⊥
unfolding lexed tokens_within token_at word_at word sign_at digits_at name_in_quotes text_in_quotes command_of form_at form_after group_at by_at by_after conditions_after exists_at clause_at aggregate_at aggregate_after aggregate_within counted_at name_at in_parentheses items_within ended
comma_at_the_end = unsaid (codes "group s show count(*),") _ refl refl refl

no_columns_behind_by : (c : Command) → Says (codes "group s by show count(*)") c → ⊥
unfolding lexed tokens_within token_at word_at word sign_at digits_at name_in_quotes text_in_quotes command_of form_at form_after group_at by_at by_after conditions_after exists_at clause_at aggregate_at aggregate_after aggregate_within counted_at name_at in_parentheses items_within ended
no_columns_behind_by = unsaid (codes "group s by show count(*)") _ refl refl refl

column_twice_behind_by : (c : Command) → Says (codes "group s by a, a show count(*)") c → ⊥
unfolding lexed tokens_within token_at word_at word sign_at digits_at name_in_quotes text_in_quotes command_of form_at form_after group_at by_at by_after conditions_after exists_at clause_at aggregate_at aggregate_after aggregate_within counted_at name_at in_parentheses items_within ended
column_twice_behind_by = unsaid (codes "group s by a, a show count(*)") _ refl refl refl

nothing_rolled_up : (c : Command) → Says (codes "group t by rollup () show count(*)") c → ⊥
unfolding lexed tokens_within token_at word_at word sign_at digits_at name_in_quotes text_in_quotes command_of form_at form_after group_at by_at by_after conditions_after exists_at clause_at aggregate_at aggregate_after aggregate_within counted_at name_at in_parentheses items_within ended
nothing_rolled_up = unsaid (codes "group t by rollup () show count(*)") _ refl refl refl

rollup_without_parentheses : (c : Command) → Says (codes "group t by rollup a show count(*)") c → ⊥
unfolding lexed tokens_within token_at word_at word sign_at digits_at name_in_quotes text_in_quotes command_of form_at form_after group_at by_at by_after conditions_after exists_at clause_at aggregate_at aggregate_after aggregate_within counted_at name_at in_parentheses items_within ended
rollup_without_parentheses = unsaid (codes "group t by rollup a show count(*)") _ refl refl refl

column_twice_in_a_rollup : (c : Command) → Says (codes "group t by rollup (a, a) show count(*)") c → ⊥
unfolding lexed tokens_within token_at word_at word sign_at digits_at name_in_quotes text_in_quotes command_of form_at form_after group_at by_at by_after conditions_after exists_at clause_at aggregate_at aggregate_after aggregate_within counted_at name_at in_parentheses items_within ended
column_twice_in_a_rollup = unsaid (codes "group t by rollup (a, a) show count(*)") _ refl refl refl

aggregate_where : (c : Command) → Says (codes "group s show count(*) where sum(a) > 0") c → ⊥
unfolding lexed tokens_within token_at word_at word sign_at digits_at name_in_quotes text_in_quotes command_of form_at form_after group_at by_at by_after conditions_after distinct_at exists_at exists_after clause_at aggregate_at aggregate_after aggregate_within counted_at operand_at comparison_at null_test_after test_at name_at in_parentheses items_within ended
aggregate_where = unsaid (codes "group s show count(*) where sum(a) > 0") _ refl refl refl

aggregate_in_distinct : (c : Command) → Says (codes "distinct s on a where count(*) = 1") c → ⊥
unfolding lexed tokens_within token_at word_at word sign_at digits_at name_in_quotes text_in_quotes command_of form_at form_after group_at by_at by_after conditions_after distinct_at exists_at exists_after clause_at aggregate_at aggregate_after aggregate_within counted_at operand_at comparison_at null_test_after test_at name_at in_parentheses items_within ended
aggregate_in_distinct = unsaid (codes "distinct s on a where count(*) = 1") _ refl refl refl

lists_of_two_lengths : (c : Command) → Says (codes "group s show count(*) exists u (a, b) = (c)") c → ⊥
unfolding lexed tokens_within token_at word_at word sign_at digits_at name_in_quotes text_in_quotes command_of form_at form_after group_at by_at by_after conditions_after distinct_at exists_at exists_after clause_at aggregate_at aggregate_after aggregate_within counted_at operand_at comparison_at null_test_after test_at name_at in_parentheses items_within ended
lists_of_two_lengths = unsaid (codes "group s show count(*) exists u (a, b) = (c)") _ refl refl refl

nothing_in_exists : (c : Command) → Says (codes "group s show count(*) exists u () = ()") c → ⊥
unfolding lexed tokens_within token_at word_at word sign_at digits_at name_in_quotes text_in_quotes command_of form_at form_after group_at by_at by_after conditions_after distinct_at exists_at exists_after clause_at aggregate_at aggregate_after aggregate_within counted_at operand_at comparison_at null_test_after test_at name_at in_parentheses items_within ended
nothing_in_exists = unsaid (codes "group s show count(*) exists u () = ()") _ refl refl refl

column_twice_behind_on : (c : Command) → Says (codes "distinct s on a, a") c → ⊥
unfolding lexed tokens_within token_at word_at word sign_at digits_at name_in_quotes text_in_quotes command_of form_at form_after group_at by_at by_after conditions_after distinct_at exists_at exists_after clause_at aggregate_at aggregate_after aggregate_within counted_at operand_at comparison_at null_test_after test_at name_at in_parentheses items_within ended
column_twice_behind_on = unsaid (codes "distinct s on a, a") _ refl refl refl

no_columns_behind_on : (c : Command) → Says (codes "distinct s") c → ⊥
unfolding lexed tokens_within token_at word_at word sign_at digits_at name_in_quotes text_in_quotes command_of form_at form_after group_at by_at by_after conditions_after distinct_at exists_at exists_after clause_at aggregate_at aggregate_after aggregate_within counted_at operand_at comparison_at null_test_after test_at name_at in_parentheses items_within ended
no_columns_behind_on = unsaid (codes "distinct s") _ refl refl refl

nothing_tested : (c : Command) → Says (codes "group s show count(*) where") c → ⊥
unfolding lexed tokens_within token_at word_at word sign_at digits_at name_in_quotes text_in_quotes command_of form_at form_after group_at by_at by_after conditions_after distinct_at exists_at exists_after clause_at aggregate_at aggregate_after aggregate_within counted_at operand_at comparison_at null_test_after test_at name_at in_parentheses items_within ended
nothing_tested = unsaid (codes "group s show count(*) where") _ refl refl refl

one_side : (c : Command) → Says (codes "distinct s on a where a =") c → ⊥
unfolding lexed tokens_within token_at word_at word sign_at digits_at name_in_quotes text_in_quotes command_of form_at form_after group_at by_at by_after conditions_after distinct_at exists_at exists_after clause_at aggregate_at aggregate_after aggregate_within counted_at operand_at comparison_at null_test_after test_at name_at in_parentheses items_within ended
one_side = unsaid (codes "distinct s on a where a =") _ refl refl refl

nothing_behind_and : (c : Command) → Says (codes "distinct s on a where a = 1 and") c → ⊥
unfolding lexed tokens_within token_at word_at word sign_at digits_at name_in_quotes text_in_quotes command_of form_at form_after group_at by_at by_after conditions_after distinct_at exists_at exists_after clause_at aggregate_at aggregate_after aggregate_within counted_at operand_at comparison_at null_test_after test_at name_at in_parentheses items_within ended
nothing_behind_and = unsaid (codes "distinct s on a where a = 1 and") _ refl refl refl

is_a_value : (c : Command) → Says (codes "distinct s on a where a is 1") c → ⊥
unfolding lexed tokens_within token_at word_at word sign_at digits_at name_in_quotes text_in_quotes command_of form_at form_after group_at by_at by_after conditions_after distinct_at exists_at exists_after clause_at aggregate_at aggregate_after aggregate_within counted_at operand_at comparison_at null_test_after test_at name_at in_parentheses items_within ended
is_a_value = unsaid (codes "distinct s on a where a is 1") _ refl refl refl

having_before_where : (c : Command) → Says (codes "group s show count(*) having a = 1 where a = 1") c → ⊥
unfolding lexed tokens_within token_at word_at word sign_at digits_at name_in_quotes text_in_quotes command_of form_at form_after group_at by_at by_after conditions_after distinct_at exists_at exists_after clause_at aggregate_at aggregate_after aggregate_within counted_at operand_at comparison_at null_test_after test_at name_at in_parentheses items_within ended
having_before_where = unsaid (codes "group s show count(*) having a = 1 where a = 1") _ refl refl refl

not_alone : (c : Command) → Says (codes "group s show count(*) not") c → ⊥
unfolding lexed tokens_within token_at word_at word sign_at digits_at name_in_quotes text_in_quotes command_of form_at form_after group_at by_at by_after conditions_after distinct_at exists_at exists_after clause_at aggregate_at aggregate_after aggregate_within counted_at operand_at comparison_at null_test_after test_at name_at in_parentheses items_within ended
not_alone = unsaid (codes "group s show count(*) not") _ refl refl refl

distinct_having : (c : Command) → Says (codes "distinct s on a having a = 1") c → ⊥
unfolding lexed tokens_within token_at word_at word sign_at digits_at name_in_quotes text_in_quotes command_of form_at form_after group_at by_at by_after conditions_after distinct_at exists_at exists_after clause_at aggregate_at aggregate_after aggregate_within counted_at operand_at comparison_at null_test_after test_at name_at in_parentheses items_within ended
distinct_having = unsaid (codes "distinct s on a having a = 1") _ refl refl refl

-- tokens

quoted : tokens (34 ∷ codes "a" ++ (34 ∷ 34 ∷ codes "b" ++ 34 ∷ [])) ≡ Some (Name (codes "a" ++ (34 ∷ codes "b")) ∷ [])
unfolding lexed tokens_within token_at word_at word sign_at digits_at name_in_quotes text_in_quotes
quoted = cut (34 ∷ codes "a" ++ (34 ∷ 34 ∷ codes "b" ++ 34 ∷ [])) _ refl refl

doubled : tokens (codes "'it''s'") ≡ Some (Text (codes "it's") ∷ [])
unfolding lexed tokens_within token_at word_at word sign_at digits_at name_in_quotes text_in_quotes
doubled = cut (codes "'it''s'") _ refl refl

-- a quoted keyword is a name, a bare one in any case is reserved
keyword : tokens (codes "DROP " ++ (34 ∷ codes "drop" ++ 34 ∷ [])) ≡ Some (Fixed terminal.Drop ∷ Name (codes "drop") ∷ [])
unfolding lexed tokens_within token_at word_at word sign_at digits_at name_in_quotes text_in_quotes
keyword = cut (codes "DROP " ++ (34 ∷ codes "drop" ++ 34 ∷ [])) _ refl refl

no_name : tokens (34 ∷ 34 ∷ []) ≡ None
unfolding lexed tokens_within token_at word_at word sign_at digits_at name_in_quotes text_in_quotes
no_name = cut (34 ∷ 34 ∷ []) _ refl refl

plus : tokens (codes "+7") ≡ Some (Number (pos 7) ∷ [])
unfolding lexed tokens_within token_at word_at word sign_at digits_at name_in_quotes text_in_quotes
plus = cut (codes "+7") _ refl refl

least : tokens (codes "-9223372036854775808") ≡ Some (Number (neg_ℤ (pos 9223372036854775808)) ∷ [])
unfolding lexed tokens_within token_at word_at word sign_at digits_at name_in_quotes text_in_quotes
least = cut (codes "-9223372036854775808") _ refl refl

too_large : tokens (codes "9223372036854775808") ≡ None
unfolding lexed tokens_within token_at word_at word sign_at digits_at name_in_quotes text_in_quotes
too_large = cut (codes "9223372036854775808") _ refl refl

letter_behind : tokens (codes "1a") ≡ None
unfolding lexed tokens_within token_at word_at word sign_at digits_at name_in_quotes text_in_quotes
letter_behind = cut (codes "1a") _ refl refl

sign_apart : tokens (codes "- 1") ≡ None
unfolding lexed tokens_within token_at word_at word sign_at digits_at name_in_quotes text_in_quotes
sign_apart = cut (codes "- 1") _ refl refl

longest_sign : tokens (codes "<>=<=") ≡ Some (Fixed terminal.NotEqual ∷ Fixed terminal.Equal ∷ Fixed terminal.LessEqual ∷ [])
unfolding lexed tokens_within token_at word_at word sign_at digits_at name_in_quotes text_in_quotes
longest_sign = cut (codes "<>=<=") _ refl refl

-- a name of 64 letters is past the limit, one of 63 is not
long_name : fits GREATEST (Create (codes "aaaaaaaaaaaaaaaaaaaaaaaaaaaaaaaaaaaaaaaaaaaaaaaaaaaaaaaaaaaaaaaa") (record { name = codes "a"; kind = kind.Int } ∷ []) []) ≡ false
long_name = refl

name_at_limit : fits GREATEST (Create (codes "aaaaaaaaaaaaaaaaaaaaaaaaaaaaaaaaaaaaaaaaaaaaaaaaaaaaaaaaaaaaaaa") (record { name = codes "a"; kind = kind.Int } ∷ []) []) ≡ true
name_at_limit = refl

-- 16 aggregates are within the limits and 17 are not, as 128 columns and 129, and the name of a column counts as each name does
abbrev counts_shown : ℕ → Command
counts_shown n = Group (codes "s") (record { columns = []; rollup = false }) (replicate n CountAll) [] None []

sixteen_shown : fits GREATEST (counts_shown 16) ≡ true
sixteen_shown = refl

seventeen_shown : fits GREATEST (counts_shown 17) ≡ false
seventeen_shown = refl

abbrev columns_of : ℕ → Command
columns_of n = Create (codes "s") (replicate n (record { name = codes "a"; kind = kind.Int })) []

as_many_columns : fits GREATEST (columns_of 128) ≡ true
as_many_columns = refl

one_column_more : fits GREATEST (columns_of 129) ≡ false
one_column_more = refl

long_column : fits GREATEST (Group (codes "s") (record { columns = []; rollup = false }) (Min (codes "aaaaaaaaaaaaaaaaaaaaaaaaaaaaaaaaaaaaaaaaaaaaaaaaaaaaaaaaaaaaaaaa") ∷ []) [] None []) ≡ false
long_column = refl

-- names and texts count at every place
long_in_having : fits GREATEST (Group (codes "s") (record { columns = []; rollup = false }) (CountAll ∷ []) [] None (IsNull (operand.Aggregate (Min (codes "aaaaaaaaaaaaaaaaaaaaaaaaaaaaaaaaaaaaaaaaaaaaaaaaaaaaaaaaaaaaaaaa"))) ∷ [])) ≡ false
long_in_having = refl

long_in_exists : fits GREATEST (Group (codes "s") (record { columns = []; rollup = false }) (CountAll ∷ []) [] (Some (record { negated = true; table = codes "u"; theirs = codes "aaaaaaaaaaaaaaaaaaaaaaaaaaaaaaaaaaaaaaaaaaaaaaaaaaaaaaaaaaaaaaaa" ∷ []; ours = codes "a" ∷ [] })) []) ≡ false
long_in_exists = refl

text_past_the_limit : fits (record GREATEST { text = 2 }) (Distinct (codes "s") (codes "a" ∷ []) (Compare (operand.Column (codes "a")) comparison.Less (operand.Literal (value.Text (codes "abc"))) ∷ [])) ≡ false
text_past_the_limit = refl

-- a byte-order mark, a blank line, a comment, LF and CR LF, and a last line without an end
mixed : items GREATEST (239 ∷ 187 ∷ 191 ∷ 32 ∷ 9 ∷ 13 ∷ 10 ∷ (codes "-- note" ++ (10 ∷ (codes " show s" ++ (13 ∷ 10 ∷ 45 ∷ 10 ∷ codes "load s"))))) ≡ Plain (codes " show s") ∷ Plain (codes "-") ∷ Loading (codes "load s") None ∷ []
unfolding entries_by
mixed = refl

-- a payload keeps its line ends, and the line that ends it is no item
with_payload : items GREATEST (codes "Load s" ++ (10 ∷ 49 ∷ 13 ∷ 10 ∷ 92 ∷ 46 ∷ 10 ∷ codes "show s")) ≡ Loading (codes "Load s") (Some (49 ∷ 13 ∷ 10 ∷ [])) ∷ Plain (codes "show s") ∷ []
unfolding entries_by
with_payload = refl

-- a line that says no load takes its payload too; a mark ends a payload only where it is the whole line
refused_load : items GREATEST (codes "load s extra" ++ (10 ∷ (codes " \\." ++ (10 ∷ (codes "\\.x" ++ (10 ∷ (codes "\\." ++ (13 ∷ 10 ∷ codes "show s")))))))) ≡ Loading (codes "load s extra") (Some (codes " \\." ++ (10 ∷ (codes "\\.x" ++ (10 ∷ []))))) ∷ Plain (codes "show s") ∷ []
unfolding entries_by
refused_load = refl

-- a load is read with its payload, an open one, or one past the limit
load_read : ReadsAs GREATEST (Loading (codes "Load s") (Some (codes "id" ++ 13 ∷ 10 ∷ []))) (item.Command (Load (codes "s") (payload.Bytes (codes "id" ++ 13 ∷ 10 ∷ []))))
load_read = (omega arith, (codes "s", payload.Bytes (codes "id" ++ 13 ∷ 10 ∷ []), refl, load_line, refl, (refl, omega arith)))

open_read : ReadsAs GREATEST (Loading (codes "Load s") None) (item.Command (Load (codes "s") payload.Open))
open_read = (omega arith, (codes "s", payload.Open, refl, load_line, refl, refl))

long_read : ReadsAs (record GREATEST { payload = 2 }) (Loading (codes "Load s") (Some (codes "id" ++ 10 ∷ []))) (item.Command (Load (codes "s") payload.TooLong))
long_read = (omega arith, (codes "s", payload.TooLong, refl, load_line, refl, (codes "id" ++ 10 ∷ [], refl, omega arith)))

empty_script : items GREATEST [] ≡ []
unfolding entries_by
empty_script = refl

-- a CR at the very end belongs to the line, and one before a CR LF does
kept_cr : items GREATEST (97 ∷ 13 ∷ 13 ∷ 10 ∷ 98 ∷ 13 ∷ []) ≡ Plain (97 ∷ 13 ∷ []) ∷ Plain (98 ∷ 13 ∷ []) ∷ []
unfolding entries_by
kept_cr = refl

-- the mark is dropped once
one_mark : items GREATEST (239 ∷ 187 ∷ 191 ∷ 239 ∷ 187 ∷ 191 ∷ 10 ∷ []) ≡ Plain (239 ∷ 187 ∷ 191 ∷ []) ∷ []
unfolding entries_by
one_mark = refl
