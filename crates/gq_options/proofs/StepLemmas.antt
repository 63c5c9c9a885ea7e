-- Command lines read word by word: what is held before and after a word.
use Rattle.std.proofs.Common.{refl, sym, ap, codes, ℕ, Bool, true, false, true≢false, Option, Some, None, is_some, List, [], ◌∷◌, ◌≡◌, ◌∙◌, ◌||◌, if◌then◌else◌}
use Rattle.std.proofs.Math.Bool.{and-false}
use Rattle.std.specs.Prelude.{fold}
use Rattle.std.specs.List.{list_all}
use Rattle.std.specs.Str.{bytes_eq}
use Rattle.clap.specs.Lexer.{long_of, short_of}
use Rattle.clap.specs.Faults.{check_fault, default_fault, defaults_fault, entered_fault, given_default_fault, settle_fault, turn_fault, walk_fault}
use Rattle.clap.specs.Kinds.{Kinds, or_else}
use Rattle.clap.specs.Simple.{App, Shape, built, entered}
use Rattle.clap.specs.Walk.{Row, Rule, Text, Waiting, Walk, finished, first_of, has_row, idle, is_empty, is_pending, nothing_held, settled, settled_rows, walk_from, walked, with_default, with_values, without}
use Rattle.clap.specs.declared.builder.value_parser.Reading.TheVariants.{AsWritten}
use Rattle.clap.specs.declared.error.kind.ErrorKind.{ErrorKind}
use Rattle.clap.specs.declared.error.kind.ErrorKind.TheVariants.{ValueValidation}
use Rattle.clap.specs.declared.parser.matches.ValueSource.TheVariants.{CommandLine}
use Rattle.clap.proofs.OnLiterals.{clap_on_literals}
use Rattle.clap.proofs.WalkLemmas.{both}
use Rattle.gq_options.specs.CommandLine.{Asked, LINE, Names, SCRIPT, asked_in, faults_in, faults_of, has_dash, names_seed}

-- the line as clap builds it
abbrev pub BUILT : App
BUILT = built LINE

abbrev pub SHAPE : Shape
SHAPE = BUILT.top

abbrev pub RULES : List Rule
RULES = SHAPE.rules

-- the faults that are found after the last word
abbrev pub end-faults : Walk → Kinds
end-faults end = or_else (entered_fault BUILT end.stopped)
    (or_else (settle_fault RULES SHAPE.args_override_self end.held)
    (or_else (defaults_fault (settled RULES end.held).rows RULES)
    (check_fault SHAPE (finished RULES end.held) (is_some (entered BUILT end.stopped)))))

-- the faults of the words that are left, where these are the faults of the walk over them
abbrev pub faults-by : Kinds → Walk → Kinds
faults-by kinds end = or_else (or_else kinds (end-faults end)) (faults_in (finished RULES end.held))

-- the faults of the words that are left
abbrev pub faults-from : Walk → List Text → Kinds
faults-from w words = faults-by (walk_fault SHAPE [] w words) (fold (walked RULES []) w words)

-- what the words that are left ask for, with what is held
abbrev pub asked-from : Walk → List Text → Asked
asked-from w words = asked_in (finished RULES (fold (walked RULES []) w words).held)

-- ---- a line, word by word

-- a word has no fault, and this is held after it
pub record Turns (w : Walk) (word : Text) (v : Walk) : Type 0 where
  pub faultless : turn_fault SHAPE [] w word ≡ []
  pub leads : walked RULES [] w word ≡ v

-- the words that are left have no fault, and ask for this
pub record Goes (w : Walk) (words : List Text) (asked : Asked) : Type 0 where
  pub accepted : faults-from w words ≡ []
  pub asked_is : asked-from w words ≡ asked

-- the words that are left have this fault
pub record Fails (w : Walk) (words : List Text) (kind : ErrorKind) : Type 0 where
  pub found : faults-from w words ≡ kind ∷ []

pub names : {words : List Text} {asked : Asked} (name : Text) → Goes (walk_from nothing_held) words asked → Names (name ∷ words) asked
names name goes = record { accepted = goes.accepted; asked_is = goes.asked_is }

pub refuses : {words : List Text} {kind : ErrorKind} (name : Text) → Fails (walk_from nothing_held) words kind → faults_of (name ∷ words) ≡ kind ∷ []
refuses name fails = fails.found

-- the faults of a word, or else those of the words after it
abbrev word-or-rest : Walk → List Text → Kinds → Kinds
word-or-rest behind words kinds = faults-by (or_else kinds (walk_fault SHAPE [] behind words)) (fold (walked RULES []) behind words)

pub next-word : (w v : Walk) (word : Text) (words : List Text) → Turns w word v → faults-from w (word ∷ words) ≡ faults-from v words
unfolding walk_fault
next-word w v word words turn =
    ap (word-or-rest (walked RULES [] w word) words) turn.faultless ∙ ap (λ (u : Walk). faults-from u words) turn.leads

pub goes-on : {w v : Walk} {word : Text} {words : List Text} {asked : Asked} → Turns w word v → Goes v words asked → Goes w (word ∷ words) asked
goes-on {w} {v} {word} {words} turn rest = record {
  accepted = next-word w v word words turn ∙ rest.accepted;
  asked_is = ap (λ (u : Walk). asked-from u words) turn.leads ∙ rest.asked_is;
}

pub fails-on : {w v : Walk} {word : Text} {words : List Text} {kind : ErrorKind} → Turns w word v → Fails v words kind → Fails w (word ∷ words) kind
fails-on {w} {v} {word} {words} turn rest = record { found = next-word w v word words turn ∙ rest.found }

-- a word with a fault, whatever follows it
pub fails-at : (w : Walk) (word : Text) (words : List Text) (kind : ErrorKind) → turn_fault SHAPE [] w word ≡ kind ∷ [] → Fails w (word ∷ words) kind
unfolding walk_fault
fails-at w word words kind is = record { found = ap (word-or-rest (walked RULES [] w word) words) is }

-- ---- what is held between two words

-- the rows so far, what waits to be put into its row, what waits for a value, and the place of the next word
abbrev pub holding : List Row → Option (Text × List Text) → Waiting → ℕ → Walk
holding rows pending waiting position = record {
  held = record { rows = rows; pending = pending; skip = 0 };
  waiting = waiting;
  position = position;
  is_trailing = false;
  stopped = None;
}

-- the rows with a text in a row of its own
abbrev pub put : Text → Text → List Row → List Row
put id text rows = with_values id AsWritten CommandLine (text ∷ []) (without id rows)

-- the faults of putting what waits into its row
abbrev pub settle-faults : List Row → Option (Text × List Text) → Kinds
settle-faults rows pending = settle_fault RULES false (record { rows = rows; pending = pending; skip = 0 })

-- it is put into its row without a fault, and these are the rows then
pub record Settles (rows : List Row) (pending : Option (Text × List Text)) (after : List Row) : Type 0 where
  pub faultless : settle-faults rows pending ≡ []
  pub put_in : settled_rows RULES pending rows ≡ after

-- rows and the defaults where there is no row
abbrev pub with-defaults : List Row → List Row
with-defaults rows = fold with_default rows RULES

-- with the defaults, rows have no fault, and ask for this
pub record Asks (rows : List Row) (asked : Asked) : Type 0 where
  pub faultless : faults_in (with-defaults rows) ≡ []
  pub asked_is : asked_in (with-defaults rows) ≡ asked

pub asks : {rows : List Row} {asked : Asked} → faults_in (with-defaults rows) ≡ [] → asked_in (with-defaults rows) ≡ asked → Asks rows asked
asks faultless asked_is = record { faultless = faultless; asked_is = asked_is }

no-kinds : Kinds → Bool
no-kinds [] = true
no-kinds (k ∷ ks) = false

-- a rule without a default, or with one that has no fault
has-fit-default : Rule → Bool
has-fit-default a = is_empty a.defaults || no-kinds (given_default_fault a a.defaults)

default-passes : (rows : List Row) (a : Rule) → has-fit-default a ≡ true → default_fault rows a ≡ []
unfolding has-fit-default no-kinds
default-passes rows a fit = by-case (has_row a.id rows) (is_empty a.defaults) (given_default_fault a a.defaults) fit
  where
    by-case : (given none : Bool) (kinds : Kinds) → (none || no-kinds kinds) ≡ true → ◌≡◌ {A = Kinds} (if given || none then [] else kinds) []
    by-case true none kinds fit = refl
    by-case false true kinds fit = refl
    by-case false false [] fit = refl
    by-case false false (k ∷ ks) fit = absurd (true≢false (sym fit))

defaults-pass-by : (rules : List Rule) (rows : List Row) → list_all has-fit-default rules ≡ true → defaults_fault rows rules ≡ []
unfolding defaults_fault
defaults-pass-by [] rows fit = refl
defaults-pass-by (a ∷ rules) rows fit =
    let parts = both (has-fit-default a) (list_all has-fit-default rules) fit in
    ap (λ (kinds : Kinds). or_else kinds (defaults_fault (with_default rows a) rules)) (default-passes rows a parts.0)
    ∙ defaults-pass-by rules (with_default rows a) parts.1

-- the defaults have no fault
defaults-pass : (rows : List Row) → defaults_fault rows RULES ≡ []
unfolding clap_on_literals has-fit-default no-kinds
defaults-pass rows = defaults-pass-by RULES rows refl

-- after the last word
pub ends : {rows after : List Row} {pending : Option (Text × List Text)} {waiting : Waiting} {position : ℕ} {asked : Asked}
    → Settles rows pending after → Asks after asked → Goes (holding rows pending waiting position) [] asked
unfolding walk_fault
ends {rows} {after} settles it = record {
  accepted = rw (settles.faultless, settles.put_in, defaults-pass after) it.faultless;
  asked_is = rw settles.put_in it.asked_is;
}

-- the matches have a fault, which is found after the last word
pub fails-last : {rows after : List Row} {pending : Option (Text × List Text)} {waiting : Waiting} {position : ℕ} {kind : ErrorKind}
    → Settles rows pending after → faults_in (with-defaults after) ≡ kind ∷ [] → Fails (holding rows pending waiting position) [] kind
unfolding walk_fault
fails-last {rows} {after} settles is = record { found = rw (settles.faultless, settles.put_in, defaults-pass after) is }

-- such is a text of the seed that names none
pub names-no-seed : {rows after : List Row} {pending : Option (Text × List Text)} {waiting : Waiting} {position : ℕ} (text : Text)
    → Settles rows pending after → first_of (codes "seed") (with-defaults after) ≡ Some text → names_seed text ≡ false
    → Fails (holding rows pending waiting position) [] ValueValidation
names-no-seed text settles there is = fails-last settles (rw (there, is) refl)

-- what waits has a fault, after the last word
pub fails-at-end : {rows : List Row} {pending : Option (Text × List Text)} {waiting : Waiting} {position : ℕ} {kind : ErrorKind}
    → settle-faults rows pending ≡ kind ∷ [] → Fails (holding rows pending waiting position) [] kind
unfolding walk_fault
fails-at-end is = record { found = rw is refl }

pub nothing-waits : {rows : List Row} → Settles rows None rows
nothing-waits = record { faultless = refl; put_in = refl }

-- ---- a path

-- a path waits to be put into its row
abbrev pub path-waits : List Row → Text → Walk
path-waits rows path = holding rows (Some (codes "SCRIPT", path ∷ [])) idle 2

-- a word without a leading dash is not an option
pub no-dashes : (word : Text) → has_dash word ≡ false → bytes_eq word (45 ∷ 45 ∷ []) ≡ false
no-dashes [] plain = refl
no-dashes (c ∷ cs) plain = rw plain refl

pub no-long : (word : Text) → has_dash word ≡ false → long_of word ≡ None
no-long [] plain = refl
no-long (c ∷ cs) plain = rw plain refl

pub no-short : (word : Text) → has_dash word ≡ false → short_of word ≡ None
no-short [] plain = refl
no-short (c ∷ cs) plain = rw plain refl

pub path-turns : {rows after : List Row} {pending : Option (Text × List Text)} {path : Text}
    → Settles rows pending after → has_dash path ≡ false → Turns (holding rows pending idle 1) path (path-waits after path)
unfolding clap_on_literals
path-turns {rows} {after} {pending} {path} settles plain = record {
  faultless = rw (no-dashes path plain, no-long path plain, no-short path plain, and-false (is_pending SCRIPT pending)) settles.faultless;
  leads = rw (no-dashes path plain, no-long path plain, no-short path plain, and-false (is_pending SCRIPT pending), settles.put_in) refl;
}

pub path-settles : {rows : List Row} {path : Text} → has_row (codes "SCRIPT") rows ≡ false → Settles rows (Some (codes "SCRIPT", path ∷ [])) (put (codes "SCRIPT") path rows)
unfolding clap_on_literals
path-settles new = record { faultless = rw new refl; put_in = refl }
