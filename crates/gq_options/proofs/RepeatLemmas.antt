-- Command lines with an option that may be given several times.
use Rattle.std.proofs.Common.{refl, sym, ap, subst, ℕ, Bool, true, false, Option, Some, None, List, [], ◌∷◌, ◌++◌, ◌≡◌, ◌∙◌, append-nil, append_assoc, map}
use Rattle.std.specs.Str.{bytes_eq}
use Rattle.clap.specs.Walk.{Row, Text, has_row, idle, with_values}
use Rattle.clap.specs.declared.builder.value_parser.Reading.TheVariants.{AsWritten}
use Rattle.clap.specs.declared.parser.matches.ValueSource.TheVariants.{CommandLine}
use Rattle.gq_options.specs.CommandLine.{Asked, Names, has_dash}
use Rattle.gq_options.proofs.KeptLemmas.{without-new}
use Rattle.gq_options.proofs.OptionLemmas.{Puts, Waits}
use Rattle.gq_options.proofs.StepLemmas.{Asks, Goes, Settles, Turns, ends, goes-on, holding, names, nothing-waits, put}

-- rows with one more text in a row
abbrev pub add : Text → Text → List Row → List Row
add id text rows = with_values id AsWritten CommandLine (text ∷ []) rows

-- the word adds a text to its row
pub record Adds (word id text : Text) : Type 0 where
  pub turns : {rows after : List Row} {pending : Option (Text × List Text)} {position : ℕ}
      → Settles rows pending after → Turns (holding rows pending idle position) word (holding (add id text after) None idle position)

-- so it puts the text into a row, where there is none
pub adds-puts : {word id text : Text} → Adds word id text → Puts word id text
adds-puts {word} {id} {text} it = record {
  turns = λ {rows} {after} {pending} {position} settles new.
      subst (λ (rs : List Row). Turns (holding rows pending idle position) word (holding (with_values id AsWritten CommandLine (text ∷ []) rs) None idle position)) (sym (without-new id after new))
      (it.turns settles);
}

pub put-settles : {id text : Text} {rows : List Row} → Settles rows (Some (id, text ∷ [])) (add id text rows) → has_row id rows ≡ false
    → Settles rows (Some (id, text ∷ [])) (put id text rows)
put-settles {id} {text} {rows} settles new = record {
  faultless = settles.faultless;
  put_in = settles.put_in ∙ ap (λ (rs : List Row). with_values id AsWritten CommandLine (text ∷ []) rs) (sym (without-new id rows new));
}

-- two values in next words
pub both-values : {word id one two : Text} {test : Text → Bool} {asked : Asked} (name : Text) → Waits word id test
    → ((rows : List Row) (text : Text) → Settles rows (Some (id, text ∷ [])) (add id text rows))
    → test one ≡ true → has_dash one ≡ false → has_dash two ≡ false
    → Asks (add id two (put id one [])) asked → Names (name ∷ word ∷ one ∷ word ∷ two ∷ []) asked
both-values {id = id} {one = one} {two = two} name it more is plain two_plain asks =
    names name
    (goes-on (it.turns nothing-waits)
    (goes-on (it.value plain)
    (goes-on (it.turns (it.settles refl is))
    (goes-on (it.value two_plain)
    (ends (more (put id one []) two) asks)))))

-- the rows of a line that has such values alone
abbrev pub listed : Text → List Text → List Row
listed id [] = []
listed id (text ∷ texts) = record { id = id; values = text ∷ texts; count = None; source = Some CommandLine; reading = AsWritten } ∷ []

add-listed : (id text : Text) (texts : List Text) → bytes_eq id id ≡ true → add id text (listed id texts) ≡ listed id (texts ++ text ∷ [])
add-listed id text [] same = refl
add-listed id text (first ∷ texts) same = rw same refl

-- any number of values in their option's words
module _ {id : Text} (word : Text → Text) (adds : (text : Text) → Adds (word text) id text) (same : bytes_eq id id ≡ true)
    (asked : List Text → Asked) (asks : (texts : List Text) → Asks (listed id texts) (asked texts))
  where
    goes-many : (texts so_far : List Text) → Goes (holding (listed id so_far) None idle 1) (map word texts) (asked (so_far ++ texts))
    goes-many [] so_far = ends nothing-waits (subst (λ all. Asks (listed id so_far) (asked all)) (sym (append-nil so_far)) (asks so_far))
    goes-many (text ∷ texts) so_far =
        let turn = subst (λ (rs : List Row). Turns (holding (listed id so_far) None idle 1) (word text) (holding rs None idle 1)) (add-listed id text so_far same) ((adds text).turns nothing-waits) in
        let rest = subst (λ all. Goes (holding (listed id (so_far ++ text ∷ [])) None idle 1) (map word texts) (asked all)) (append_assoc so_far (text ∷ []) texts) (goes-many texts (so_far ++ text ∷ [])) in
        goes-on turn rest

    pub names-many : (name : Text) (texts : List Text) → Names (name ∷ map word texts) (asked texts)
    names-many name texts = names name (goes-many texts [])
