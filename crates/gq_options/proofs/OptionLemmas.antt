-- Command lines with an option: each law is here once, for all options.
use Rattle.std.proofs.Common.{refl, sym, subst, codes, ℕ, Bool, true, false, true≢false, Option, Some, None, List, [], ◌∷◌, ◌≡◌, ◌==◌, length, nat_lt, eqb-true}
use Rattle.std.specs.Char.{digit_value}
use Rattle.std.specs.List.{list_all}
use Rattle.std.specs.Str.Parse.{without_leading_plus}
use Rattle.clap.specs.ValueTests.{is_numeral}
use Rattle.clap.specs.Walk.{Row, Text, Walk, arg_by_id, has_row, idle, option, option_word}
use Rattle.clap.specs.declared.error.kind.ErrorKind.TheVariants.{ArgumentConflict, ValueValidation}
use Rattle.clap.proofs.OnLiterals.{clap_on_literals}
use Rattle.clap.proofs.WalkLemmas.{both}
use Rattle.gq_options.specs.CommandLine.{Asked, Names, faults_of, has_dash}
use Rattle.gq_options.proofs.StepLemmas.{RULES, Asks, Settles, Turns, ends, fails-at-end, fails-on, goes-on, holding, names, no-dashes, no-long, no-short, nothing-waits, path-settles, path-turns, put, refuses, settle-faults}

-- a numeral begins with no dash
pub numeral-plain : (text : Text) → is_numeral (without_leading_plus text) ≡ true → has_dash text ≡ false
numeral-plain [] is = refl
numeral-plain (c ∷ cs) is = by-dash (c == 45) refl
  where
    by-dash : (b : Bool) → (c == 45) ≡ b → b ≡ false
    by-dash false e = refl
    by-dash true e =
        let dashed : is_numeral (45 ∷ cs) ≡ true = subst (λ x. is_numeral (without_leading_plus (x ∷ cs)) ≡ true) (eqb-true c 45 e) is in
        let digits : false ≡ true = (both (nat_lt 0 (length (45 ∷ cs))) (list_all (λ d. nat_lt (digit_value d) 10) (45 ∷ cs)) dashed).1 in
        absurd (true≢false (sym digits))

-- an option waits for its value; and its value waits to be put into its row
abbrev pub waits : Text → List Row → ℕ → Walk
waits id rows position = holding rows (Some (id, [])) (option id) position

abbrev pub has-value : Text → List Row → Text → ℕ → Walk
has-value id rows text position = holding rows (Some (id, text ∷ [])) idle position

-- ---- the value in the next word

-- the word is an option, and the next word its value, which must pass a test
pub record Waits (word id : Text) (test : Text → Bool) : Type 0 where
  pub turns : {rows after : List Row} {pending : Option (Text × List Text)} {position : ℕ}
      → Settles rows pending after → Turns (holding rows pending idle position) word (waits id after position)
  pub value : {rows : List Row} {text : Text} {position : ℕ} → has_dash text ≡ false → Turns (waits id rows position) text (has-value id rows text position)
  pub settles : {rows : List Row} {text : Text} → has_row id rows ≡ false → test text ≡ true → Settles rows (Some (id, text ∷ [])) (put id text rows)
  pub refused : (text : Text) → test text ≡ false → settle-faults [] (Some (id, text ∷ [])) ≡ ValueValidation ∷ []

-- any word without a leading dash is the value of an option that takes one
pub value-turns : {id : Text} {rows : List Row} {text : Text} {position : ℕ} → has_dash text ≡ false
    → option_word (arg_by_id RULES id) id text (waits id rows position).held ≡ ((has-value id rows text position).held, idle)
    → Turns (waits id rows position) text (has-value id rows text position)
unfolding clap_on_literals
value-turns {id} {rows} {text} plain takes_one = record {
  faultless = rw (no-dashes text plain, no-long text plain, no-short text plain) refl;
  leads = rw (no-dashes text plain, no-long text plain, no-short text plain, takes_one) refl;
}

module _ {word id : Text} {test : Text → Bool} (it : Waits word id test) where
  pub alone : {text : Text} {asked : Asked} (name : Text) → test text ≡ true → has_dash text ≡ false
      → Asks (put id text []) asked → Names (name ∷ word ∷ text ∷ []) asked
  alone name is plain asks =
      names name
      (goes-on (it.turns nothing-waits)
      (goes-on (it.value plain)
      (ends (it.settles refl is) asks)))

  pub before : {text path : Text} {asked : Asked} (name : Text) → test text ≡ true → has_dash text ≡ false → has_dash path ≡ false
      → has_row (codes "SCRIPT") (put id text []) ≡ false → Asks (put (codes "SCRIPT") path (put id text [])) asked → Names (name ∷ word ∷ text ∷ path ∷ []) asked
  before name is plain path_plain new asks =
      names name
      (goes-on (it.turns nothing-waits)
      (goes-on (it.value plain)
      (goes-on (path-turns (it.settles refl is) path_plain)
      (ends (path-settles new) asks))))

  pub behind : {text path : Text} {asked : Asked} (name : Text) → test text ≡ true → has_dash text ≡ false → has_dash path ≡ false
      → has_row id (put (codes "SCRIPT") path []) ≡ false → Asks (put id text (put (codes "SCRIPT") path [])) asked → Names (name ∷ path ∷ word ∷ text ∷ []) asked
  behind name is plain path_plain new asks =
      names name
      (goes-on (path-turns nothing-waits path_plain)
      (goes-on (it.turns (path-settles refl))
      (goes-on (it.value plain)
      (ends (it.settles new is) asks))))

  pub value-refused : (name text : Text) → test text ≡ false → has_dash text ≡ false → faults_of (name ∷ word ∷ text ∷ []) ≡ ValueValidation ∷ []
  value-refused name text is plain =
      refuses name
      (fails-on (it.turns nothing-waits)
      (fails-on (it.value plain)
      (fails-at-end (it.refused text is))))

-- the option a second time, under the same name or another
pub twice-refused : {word other id : Text} {test : Text → Bool} → Waits word id test → Waits other id test
    → ((one two : Text) → settle-faults (put id one []) (Some (id, two ∷ [])) ≡ ArgumentConflict ∷ [])
    → (name one two : Text) → test one ≡ true → has_dash one ≡ false → has_dash two ≡ false
    → faults_of (name ∷ word ∷ one ∷ other ∷ two ∷ []) ≡ ArgumentConflict ∷ []
twice-refused it same again name one two is plain two_plain =
    refuses name
    (fails-on (it.turns nothing-waits)
    (fails-on (it.value plain)
    (fails-on (same.turns (it.settles refl is))
    (fails-on (same.value two_plain)
    (fails-at-end (again one two))))))

-- ---- one word alone: a value in its option's word, and a flag

-- the word puts a text into its row
pub record Puts (word id text : Text) : Type 0 where
  pub turns : {rows after : List Row} {pending : Option (Text × List Text)} {position : ℕ}
      → Settles rows pending after → has_row id after ≡ false → Turns (holding rows pending idle position) word (holding (put id text after) None idle position)

module _ {word id text : Text} (it : Puts word id text) where
  pub word-alone : {asked : Asked} (name : Text) → Asks (put id text []) asked → Names (name ∷ word ∷ []) asked
  word-alone name asks = names name (goes-on (it.turns nothing-waits refl) (ends nothing-waits asks))

  pub word-before : {path : Text} {asked : Asked} (name : Text) → has_dash path ≡ false
      → has_row (codes "SCRIPT") (put id text []) ≡ false → Asks (put (codes "SCRIPT") path (put id text [])) asked → Names (name ∷ word ∷ path ∷ []) asked
  word-before name plain new asks =
      names name
      (goes-on (it.turns nothing-waits refl)
      (goes-on (path-turns nothing-waits plain)
      (ends (path-settles new) asks)))

  pub word-behind : {path : Text} {asked : Asked} (name : Text) → has_dash path ≡ false
      → has_row id (put (codes "SCRIPT") path []) ≡ false → Asks (put id text (put (codes "SCRIPT") path [])) asked → Names (name ∷ path ∷ word ∷ []) asked
  word-behind name plain new asks =
      names name
      (goes-on (path-turns nothing-waits plain)
      (goes-on (it.turns (path-settles refl) new)
      (ends nothing-waits asks)))

-- two such words
pub both-words : {one two first second a b : Text} {asked : Asked} (name : Text) → Puts one first a → Puts two second b
    → has_row second (put first a []) ≡ false → Asks (put second b (put first a [])) asked → Names (name ∷ one ∷ two ∷ []) asked
both-words name it other new asks =
    names name
    (goes-on (it.turns nothing-waits refl)
    (goes-on (other.turns nothing-waits new)
    (ends nothing-waits asks)))
