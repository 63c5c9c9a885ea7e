-- A text that clap let through passes its option's test.
use Rattle.std.proofs.Common.{arith, rules, refl, sym, ap, ap₂, subst, inl, inr, codes, ℕ, zero, suc, Bool, true, false, ◌⊎◌, true≢false, Option, Some, None, Result, Ok, Err, List, [], ◌∷◌, map, length, ◌≡◌, ◌<◌, ◌∙◌, ◌&&◌, ◌||◌, is_some, not}
use Rattle.std.specs.Prelude.{option_and_then, option_map, slice_get, slice_index, unwrap_or}
use Rattle.std.specs.List.{All, list_all, slice_index_or}
use Rattle.std.specs.Option.{option_map_or}
use Rattle.std.specs.Str.{bytes_eq}
use Rattle.std.specs.Str.Parse.{ParsesUnsigned}
use Rattle.std.specs.Borrow.{Bor}
use Rattle.std.proofs.lemmas.List.{length-map}
use Rattle.std.proofs.lemmas.Slice.Eq.{bytes_eq-Decides}
use Rattle.clap.specs.Facts.{Entry, EntryPasses, PassesArg, args_of, groups_of, parser_of_value}
use Rattle.clap.specs.Built.{IsParsedFrom}
use Rattle.clap.specs.Matches.{ReadsOne}
use Rattle.clap.specs.Values.{Accepts, read_as, reading_of}
use Rattle.clap.specs.Words.{App, Rule, Text, app_of, found_of, matched_of, one_of, one_text, rows_of, rule_of}
use Rattle.clap.specs.declared.builder.arg.Arg.{Arg}
use Rattle.clap.specs.declared.builder.command.Command.{Command}
use Rattle.clap.specs.declared.builder.value_parser.Reading.{Reading}
use Rattle.clap.specs.declared.builder.value_parser.Reading.TheVariants.{AsWritten}
use Rattle.clap.specs.declared.builder.value_parser.ValueParser.{ValueParser}
use Rattle.clap.specs.declared.builder.value_parser.ValueParser.TheVariants.{Unsigned}
use Rattle.clap.specs.declared.builder.value_parser.ValueParser.TheVariants as vp
use Rattle.clap.specs.declared.parser.matches.ArgMatches.{ArgMatches}
use Rattle.clap.specs.declared.parser.matches.MatchedArg.{MatchedArg}
use Rattle.clap.proofs.CallerLemmas.{entry_by_id, same_rules_by_id}
use Rattle.clap.proofs.SimpleLemmas.{all_simple, plain_fields, simple_groups}
use Rattle.clap.proofs.WalkLemmas.{both, one_text-rows}
use Rattle.clap.proofs.ValueTestLemmas.{Accepts-accepts, accepts-Accepts}
use Rattle.gq_options.specs.CommandLine.{ARGUMENTS, Asked, LINE, SEED, is_budget, is_set, number_of}
use Rattle.gq_options.specs.Words.{AreParsed, IsReadAs, IsReadAsFlag, Passes, is_flag}
use Rattle.clap.specs.ValueTests.{accepts, is_unsigned_in}
use Rattle.gq_options.proofs.BudgetLemmas.{same-test as budget-test}

abbrev name_at : ℕ → Text
name_at k = (slice_index_or ARGUMENTS k SEED).id

-- an argument of this name and parser is at this place, and no other has its name
pub record OnlyAt (xs : List Arg) (d : Arg) (k : ℕ) (name : Text) (parser : ValueParser) : Type 0 where
  pub there : k < length xs
  pub id : (slice_index_or xs k d).id.now ≡ name
  pub reads : (slice_index_or xs k d).value_parser ≡ Some parser
  pub unique : (j : ℕ) (e : Arg) → j < length xs → bytes_eq (slice_index_or xs j e).id.now (slice_index_or xs k d).id.now ≡ true → j ≡ k

rule-at : (xs : List Arg) (k : ℕ) (d : Arg) (r : Rule) → k < length xs → rule_of (slice_index_or xs k d) ≡ slice_index_or (map rule_of xs) k r
rule-at [] k d r lt = absurd (omega arith)
rule-at (x ∷ xs) zero d r lt = refl
rule-at (x ∷ xs) (suc k) d r lt = rule-at xs k d r (omega arith)

-- an option of the line, where no other has its name
option-at : (k : ℕ) (name : Text) (parser : ValueParser) → k < 10 → name_at k ≡ name → (slice_index_or ARGUMENTS k SEED).parser ≡ Some parser
    → ((j : ℕ) → j < 10 → bytes_eq (name_at j) name ≡ true → j ≡ k)
    → (xs : List Arg) (d : Arg) → map rule_of xs ≡ ARGUMENTS → OnlyAt xs d k name parser
option-at k name parser lt named reads only xs d rules =
    let count : length xs ≡ 10 = sym (length-map xs rule_of) ∙ ap length rules in
    let is : (j : ℕ) (e : Arg) → j < 10 → rule_of (slice_index_or xs j e) ≡ slice_index_or ARGUMENTS j SEED =
    λ j e low. rule-at xs j e SEED (omega arith) ∙ ap (λ rs. slice_index_or rs j SEED) rules in
    let own_name : (slice_index_or xs k d).id.now ≡ name = ap (λ (r : Rule). r.id) (is k d lt) ∙ named in
    record {
      there = omega arith;
      id = own_name;
      reads = ap (λ (r : Rule). r.parser) (is k d lt) ∙ reads;
      unique = λ j e low same. let below : j < 10 = omega arith in
          only j below (sym (ap₂ bytes_eq (ap (λ (r : Rule). r.id) (is j e below)) own_name) ∙ same);
    }

-- the rule at this place alone has this name
abbrev stands-alone : ℕ → Text → List Rule → Bool
stands-alone k name [] = true
stands-alone zero name (r ∷ rs) = list_all (λ (other : Rule). not (bytes_eq other.id name)) rs
stands-alone (suc k) name (r ∷ rs) = not (bytes_eq r.id name) && stands-alone k name rs

not-both : (b : Bool) → not b ≡ true → b ≡ true → ⊥
not-both true other is = true≢false (sym other)
not-both false other is = true≢false (sym is)

no-other : (rs : List Rule) (name : Text) → list_all (λ (other : Rule). not (bytes_eq other.id name)) rs ≡ true
    → (j : ℕ) → j < length rs → bytes_eq (slice_index_or rs j SEED).id name ≡ true → ⊥
no-other [] name none j lt same = absurd (omega arith)
no-other (r ∷ rs) name none zero lt same =
    absurd (not-both (bytes_eq r.id name) (both (not (bytes_eq r.id name)) (list_all (λ (other : Rule). not (bytes_eq other.id name)) rs) none).0 same)
no-other (r ∷ rs) name none (suc j) lt same =
    no-other rs name (both (not (bytes_eq r.id name)) (list_all (λ (other : Rule). not (bytes_eq other.id name)) rs) none).1 j (omega arith) same

only-there : (rs : List Rule) (k : ℕ) (name : Text) → stands-alone k name rs ≡ true
    → (j : ℕ) → j < length rs → bytes_eq (slice_index_or rs j SEED).id name ≡ true → j ≡ k
only-there [] k name alone j lt same = absurd (omega arith)
only-there (r ∷ rs) zero name alone zero lt same = refl
only-there (r ∷ rs) zero name alone (suc j) lt same = absurd (no-other rs name alone j (omega arith) same)
only-there (r ∷ rs) (suc k) name alone zero lt same =
    absurd (not-both (bytes_eq r.id name) (both (not (bytes_eq r.id name)) (stands-alone k name rs) alone).0 same)
only-there (r ∷ rs) (suc k) name alone (suc j) lt same =
    ap suc (only-there rs k name (both (not (bytes_eq r.id name)) (stands-alone k name rs) alone).1 j (omega arith) same)

no-groups : (line : Command) (m : ArgMatches) (p : IsParsedFrom line m) → app_of line ≡ LINE → groups_of p.built ≡ []
no-groups line m p line_is =
    (p.from.same_groups (simple_groups line (ap (λ (a : App). all_simple a.top.rules) line_is))).1
    ∙ (plain_fields line (ap (λ (a : App). a.top.is_plain) line_is)).groups

none≢some : {X : Type 0} (x : X) → None ≡ Some x → ⊥
none≢some x e = let bad : false ≡ true = ap is_some e in true≢false (sym bad)

first-text : (test : Text → Bool) (how : Reading) (vs : List (Bor Text)) (t : Text) → how ≡ AsWritten → All (λ v. test v.now ≡ true) vs
    → option_map (λ s. read_as how s.now) (slice_get vs 0) ≡ Some t → test t ≡ true
first-text test how [] t how_is all e = absurd (none≢some t e)
first-text test how (v ∷ vs) t how_is all e =
    let v_is : read_as how v.now ≡ t = ap (λ o. unwrap_or o t) e in
    let written : read_as how v.now ≡ v.now = ap (λ h. read_as h v.now) how_is in
    subst (λ w. test w ≡ true) (sym written ∙ v_is) (all 0 v (omega arith))

-- of an option at a place in the line, whose texts are read as written
module _ (place : ℕ) (name : Text) (takes : ValueParser) (test : Text → Bool)
    (at : (xs : List Arg) (d : Arg) → map rule_of xs ≡ ARGUMENTS → OnlyAt xs d place name takes)
    (own : (t : Text) → t ≡ name → (t ≡ codes "help") ⊎ (t ≡ codes "version") → ⊥)
    (named : name ≡ [] → ⊥)
    (plain : reading_of takes ≡ AsWritten)
    (tests : (ignore_case : Bool) (text : Text) → accepts ignore_case takes text ≡ test text)
  where
    -- an argument of the built command with the option's name takes what the option takes
    option-parser : (line : Command) (m : ArgMatches) (p : IsParsedFrom line m) → app_of line ≡ LINE
        → (j : ℕ) (x : Arg) → j < length (args_of p.built) → slice_index_or (args_of p.built) j x ≡ x → bytes_eq x.id.now name ≡ true
        → x.value_parser ≡ Some takes
    option-parser line m p line_is j x lt here same =
        let only = at (args_of line) x (ap (λ (a : App). a.top.rules) line_is) in
        let key : bytes_eq x.id.now (slice_index_or (args_of line) place x).id.now ≡ true = subst (λ t. bytes_eq x.id.now t ≡ true) (sym only.id) same in
        (same_rules_by_id line m p place x only.there only.unique (own (slice_index_or (args_of line) place x).id.now only.id) j x lt here key).parser takes only.reads

    option-value : (line : Command) (m : ArgMatches) (p : IsParsedFrom line m) → app_of line ≡ LINE
        → (v : Text) → PassesArg p.built name v → test v ≡ true
    option-value line m p line_is v any =
        let parser = option-parser line m p line_is any.0 any.1 any.2 any.3 any.4.0 in
        let taken : Accepts any.1.ignore_case takes v = subst (λ w. Accepts any.1.ignore_case w v) (ap parser_of_value parser) any.4.1 in
        sym (tests any.1.ignore_case v) ∙ Accepts-accepts any.1.ignore_case takes v taken

    -- what holds of the option's entry
    option-entry : (line : Command) (m : ArgMatches) (p : IsParsedFrom line m) → app_of line ≡ LINE
        → (e : Entry) → EntryPasses p.built e → e.0.now ≡ name
        → All (λ v. test v.now ≡ true) e.1.vals.items × (e.1.reading ≡ AsWritten)
    option-entry line m p line_is e pass key =
        let no_group : e.1.is_group ≡ true → ⊥ = λ g. elim (pass.3 g) [
          | inl empty ↦ named (sym key ∙ empty)
          | inr lots ↦
              let bad : 0 < 0 = rw (no-groups line m p line_is) at lots in
              omega arith
        ] in (
          elim pass.0 [
            | inl g ↦ absurd (no_group g)
            | inr vals ↦ λ k d lt. option-value line m p line_is _ (subst (λ w. PassesArg p.built w (slice_index_or e.1.vals.items k d).now) key (vals k d lt))
          ],
          elim pass.4 [
            | inl g ↦ absurd (no_group g)
            | inr h ↦ sym h.4.1 ∙ ap (λ o. reading_of (parser_of_value o)) (option-parser line m p line_is h.0 h.1 h.2 h.3 (subst (λ w. bytes_eq h.1.id.now w ≡ true) key h.4.0)) ∙ plain
          ],
        )

    -- the text that is read as its value passes the test
    option-given : (line : Command) (m : ArgMatches) → app_of line ≡ LINE → IsParsedFrom line m
        → (t : Text) → one_text (found_of m) name ≡ Some t → test t ≡ true
    option-given line m line_is p t is = by-entry (matched_of (found_of m) name) refl is
      where
        by-entry : (o : Option MatchedArg) → matched_of (found_of m) name ≡ o
            → option_and_then (λ (a : MatchedArg). option_map (λ s. read_as a.reading s.now) (slice_get a.vals.items 0)) o ≡ Some t → test t ≡ true
        by-entry None found e = absurd (none≢some t e)
        by-entry (Some x) found e =
            let parsed = p.parsed (p.from.globals ∙ (plain_fields line (ap (λ (a : App). a.top.is_plain) line_is)).globals) in
            let got = entry_by_id (EntryPasses p.built) (found_of m).entries.items name x parsed.values found in
            let facts = option-entry line m p line_is got.0 got.3 ((bytes_eq-Decides got.0.0.now name).0 got.2) in
            first-text test x.reading x.vals.items t (ap (λ (a : MatchedArg). a.reading) (sym got.1) ∙ facts.1)
            (subst (λ (a : MatchedArg). All (λ v. test v.now ≡ true) a.vals.items) got.1 facts.0) e

-- what `get_one` answers of a number's text, where it passes the test, and another number where there is none
number-read : (low high : ℕ) (test : Text → Bool) → ((text : Text) → is_unsigned_in low high text ≡ test text)
    → (otherwise : ℕ) (E : Type 0) (G : Text → Result ℕ E → Type 0) (o : Option Text) (r : Option ℕ) (n : ℕ) → n ≡ unwrap_or r otherwise
    → (o ≡ None → r ≡ None) → ((t : Text) → o ≡ Some t → ReadsOne G t r)
    → ((t : Text) (x : Result ℕ E) → G t x → ParsesUnsigned 64 10 t x) → IsReadAs test otherwise o n
number-read low high test tests otherwise E G None r n is none value only = is ∙ ap (λ x. unwrap_or x otherwise) (none refl)
number-read low high test tests otherwise E G (Some t) (Some k) n is none value only = λ passed. is ∙ (only t (Ok k) (value t refl)).1
number-read low high test tests otherwise E G (Some t) None n is none value only = λ passed.
    let read = value t refl in
    let passes = accepts-Accepts false (Unsigned low high) t (tests t ∙ passed) in
    absurd (only t (Err read.0) read.1 (passes.0, passes.1))

-- the number of a text that passes the test
pub number-named : (test : Text → Bool) (otherwise : ℕ) (o : Option Text) (n : ℕ) → IsReadAs test otherwise o n → Passes test o → option_map_or number_of o otherwise ≡ n
number-named test otherwise None n read given = sym read
number-named test otherwise (Some t) n read given = sym (read given)

-- what `get_flag` answers of a flag's text
pub flag-read : (o : Option Text) (b : Bool) → (o ≡ None → b ≡ false) → (o ≡ Some (codes "true") → b ≡ true) → (o ≡ Some (codes "false") → b ≡ false) → IsReadAsFlag o b
flag-read None b none set unset = none refl
flag-read (Some t) b none set unset = by-text (bytes_eq t (codes "true")) refl
  where
    by-text : (s : Bool) → bytes_eq t (codes "true") ≡ s → (s || bytes_eq t (codes "false")) ≡ true → b ≡ s
    by-text true e flag = set (ap Some ((bytes_eq-Decides t (codes "true")).0 e))
    by-text false e flag = unset (ap Some ((bytes_eq-Decides t (codes "false")).0 flag))

-- the value of a flag's text
pub flag-named : (o : Option Text) (b : Bool) → IsReadAsFlag o b → Passes is_flag o → option_map_or is_set o false ≡ b
flag-named None b read given = sym read
flag-named (Some t) b read given = sym (read given)

not-own : (t : Text) (first : ℕ) → slice_index t 0 ≡ first → (first ≡ 104 → ⊥) → (first ≡ 118 → ⊥) → (t ≡ codes "help") ⊎ (t ≡ codes "version") → ⊥
not-own t first is h v (inl help) = h (sym is ∙ ap (λ t. slice_index t 0) help)
not-own t first is h v (inr version) = v (sym is ∙ ap (λ t. slice_index t 0) version)

budget-own : (t : Text) → t ≡ codes "budget" → (t ≡ codes "help") ⊎ (t ≡ codes "version") → ⊥
budget-own t id = not-own t 98 (ap (λ t. slice_index t 0) id) (λ bad. omega arith) (λ bad. omega arith)

stats-own : (t : Text) → t ≡ codes "stats" → (t ≡ codes "help") ⊎ (t ≡ codes "version") → ⊥
stats-own t id = not-own t 115 (ap (λ t. slice_index t 0) id) (λ bad. omega arith) (λ bad. omega arith)

ragged-own : (t : Text) → t ≡ codes "ragged" → (t ≡ codes "help") ⊎ (t ≡ codes "version") → ⊥
ragged-own t id = not-own t 114 (ap (λ t. slice_index t 0) id) (λ bad. omega arith) (λ bad. omega arith)

check-own : (t : Text) → t ≡ codes "check" → (t ≡ codes "help") ⊎ (t ≡ codes "version") → ⊥
check-own t id = not-own t 99 (ap (λ t. slice_index t 0) id) (λ bad. omega arith) (λ bad. omega arith)

budget-word : codes "budget" ≡ [] → ⊥
budget-word e = let bad : ◌≡◌ {A = ℕ} 6 0 = ap length e in absurd (omega arith)

stats-word : codes "stats" ≡ [] → ⊥
stats-word e = let bad : ◌≡◌ {A = ℕ} 5 0 = ap length e in absurd (omega arith)

ragged-word : codes "ragged" ≡ [] → ⊥
ragged-word e = let bad : ◌≡◌ {A = ℕ} 6 0 = ap length e in absurd (omega arith)

check-word : codes "check" ≡ [] → ⊥
check-word e = let bad : ◌≡◌ {A = ℕ} 5 0 = ap length e in absurd (omega arith)

budget-at : (xs : List Arg) (d : Arg) → map rule_of xs ≡ ARGUMENTS → OnlyAt xs d 4 (codes "budget") (Unsigned 1 1048576)
budget-at = option-at 4 (codes "budget") (Unsigned 1 1048576) (omega arith) refl refl (only-there ARGUMENTS 4 (codes "budget") refl)

ragged-at : (xs : List Arg) (d : Arg) → map rule_of xs ≡ ARGUMENTS → OnlyAt xs d 3 (codes "ragged") vp.Bool
ragged-at = option-at 3 (codes "ragged") vp.Bool (omega arith) refl refl (only-there ARGUMENTS 3 (codes "ragged") refl)

stats-at : (xs : List Arg) (d : Arg) → map rule_of xs ≡ ARGUMENTS → OnlyAt xs d 7 (codes "stats") vp.Bool
stats-at = option-at 7 (codes "stats") vp.Bool (omega arith) refl refl (only-there ARGUMENTS 7 (codes "stats") refl)

check-at : (xs : List Arg) (d : Arg) → map rule_of xs ≡ ARGUMENTS → OnlyAt xs d 8 (codes "check") vp.Bool
check-at = option-at 8 (codes "check") vp.Bool (omega arith) refl refl (only-there ARGUMENTS 8 (codes "check") refl)

given-budget : (line : Command) (m : ArgMatches) → app_of line ≡ LINE → IsParsedFrom line m
    → (t : Text) → one_text (found_of m) (codes "budget") ≡ Some t → is_budget t ≡ true
given-budget = option-given 4 (codes "budget") (Unsigned 1 1048576) is_budget budget-at budget-own budget-word refl (λ ignore_case text. budget-test text)

given-ragged : (line : Command) (m : ArgMatches) → app_of line ≡ LINE → IsParsedFrom line m
    → (t : Text) → one_text (found_of m) (codes "ragged") ≡ Some t → is_flag t ≡ true
given-ragged = option-given 3 (codes "ragged") vp.Bool is_flag ragged-at ragged-own ragged-word refl (λ ignore_case text. refl)

given-stats : (line : Command) (m : ArgMatches) → app_of line ≡ LINE → IsParsedFrom line m
    → (t : Text) → one_text (found_of m) (codes "stats") ≡ Some t → is_flag t ≡ true
given-stats = option-given 7 (codes "stats") vp.Bool is_flag stats-at stats-own stats-word refl (λ ignore_case text. refl)

given-check : (line : Command) (m : ArgMatches) → app_of line ≡ LINE → IsParsedFrom line m
    → (t : Text) → one_text (found_of m) (codes "check") ≡ Some t → is_flag t ≡ true
given-check = option-given 8 (codes "check") vp.Bool is_flag check-at check-own check-word refl (λ ignore_case text. refl)

passes-given : (test : Text → Bool) (o : Option Text) → ((t : Text) → o ≡ Some t → test t ≡ true) → Passes test o
passes-given test None given = refl
passes-given test (Some t) given = given t refl

-- the numbers and the flags among clap's matches are such
pub are-parsed : (line : Command) (m : ArgMatches) → app_of line ≡ LINE → IsParsedFrom line m → AreParsed (rows_of (found_of m))
are-parsed line m line_is p =
    let of-text : (id : Text) (test : Text → Bool) → ((t : Text) → one_text (found_of m) id ≡ Some t → test t ≡ true) → Passes test (one_of id (rows_of (found_of m))) =
    λ id test given. subst (Passes test) (one_text-rows (found_of m) id) (passes-given test (one_text (found_of m) id) given) in
    record {
      budget = of-text (codes "budget") is_budget (given-budget line m line_is p);
      ragged = of-text (codes "ragged") is_flag (given-ragged line m line_is p);
      stats = of-text (codes "stats") is_flag (given-stats line m line_is p);
      check = of-text (codes "check") is_flag (given-check line m line_is p);
    }

pub budget-read : (E : Type 0) (G : Text → Result ℕ E → Type 0) (o : Option Text) (r : Option ℕ) (n : ℕ) → n ≡ unwrap_or r 65536
    → (o ≡ None → r ≡ None) → ((t : Text) → o ≡ Some t → ReadsOne G t r)
    → ((t : Text) (x : Result ℕ E) → G t x → ParsesUnsigned 64 10 t x) → IsReadAs is_budget 65536 o n
budget-read = number-read 1 1048576 is_budget budget-test 65536

-- what is asked for, part by part
pub same-asked : (a b : Asked) → a.script ≡ b.script → a.tables ≡ b.tables → a.commands ≡ b.commands → a.output ≡ b.output → a.ragged ≡ b.ragged → a.seed ≡ b.seed → a.budget ≡ b.budget → a.spill ≡ b.spill → a.stats ≡ b.stats → a.check ≡ b.check → a ≡ b
same-asked a b script tables commands output ragged seed budget spill stats check =
    ap (λ x. record a { script = x }) script
    ∙ ap (λ x. record a { script = b.script; tables = x }) tables
    ∙ ap (λ x. record a { script = b.script; tables = b.tables; commands = x }) commands
    ∙ ap (λ x. record a { script = b.script; tables = b.tables; commands = b.commands; output = x }) output
    ∙ ap (λ x. record a { script = b.script; tables = b.tables; commands = b.commands; output = b.output; ragged = x }) ragged
    ∙ ap (λ x. record b { seed = x; budget = a.budget; spill = a.spill; stats = a.stats; check = a.check }) seed
    ∙ ap (λ x. record b { budget = x; spill = a.spill; stats = a.stats; check = a.check }) budget
    ∙ ap (λ x. record b { spill = x; stats = a.stats; check = a.check }) spill
    ∙ ap (λ x. record b { stats = x; check = a.check }) stats
    ∙ ap (λ x. record b { check = x }) check
