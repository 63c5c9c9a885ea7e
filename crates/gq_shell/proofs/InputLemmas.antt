-- A script that isn't the standard input doesn't depend on it.
use Rattle.std.proofs.Common.{◌≡◌, ◌∙◌, ◌+◌, ◌<◌, get_or, take, All, ℕ, zero, suc, Bool, true, false, List, [], ◌∷◌, ◌++◌, length, Option, Some, None, Result, inl, inr, refl, sym, ap, subst, arith}
use Rattle.std.specs.Prelude.{◌==◌, ◌⊎◌, ◌&&◌, ◌||◌, AllPairs, MatchOption, codes, flat_map, is_some, map, not}
use Rattle.std.specs.Option.{option_map}
use Rattle.std.specs.Borrow.{Bor}
use Rattle.std.proofs.lemmas.Bool.{true≢false}
use Rattle.std.proofs.lemmas.Bool.Decides.{nat_tests}
use Rattle.std.specs.List.{AllZip, list_any}
use Rattle.std.proofs.lemmas.List.{map-append, take_more}
use Rattle.std.proofs.lemmas.List.Kept.{AllPairs-cons}
use Rattle.std.proofs.lemmas.List.Elements.{All-append}
use Rattle.std.proofs.lemmas.List.Folds.{flat_map-map, list_any-append}
use Rattle.std.specs.declared.io.Error.{Error}
use Rattle.gq_command.specs.Commands.{Bytes}
use Rattle.gq_engine.specs.Headline.{State}
use Rattle.gq_options.specs.CommandLine.{Asked, Text}
use Rattle.gq_row.specs.declared.limits.Bounds.{Bounds}
use Rattle.gq_row.specs.Limits.{GREATEST}
use Rattle.gq_infer.specs.declared.word.TableWord.{TableWord}
use Rattle.gq_infer.specs.Said.{SaysDeclaration, SaysWord}
use Rattle.gq_infer.specs.Words.{SaysTable, file_of, declaration_of, has_columns, is_name, name_of}
use Rattle.gq_tables.specs.declared.fault.TableFault.{TableFault}
use Rattle.gq_tables.specs.Faults.{fault_text, status_of}
use Rattle.gq_tables.specs.Files.{AreFiles}
use Rattle.gq_tables.specs.Reasons.{IsFaultOf}
use Rattle.gq_shell.specs.Program.{HadNoTables, IsSeedFor, NoMemory, NotMade, RanAsked, RanFrom, RanGiven, RanNamed, RanScript, Stopped, StoppedForMemory, WrongFile, short_by}
use Rattle.gq_shell.specs.Checking.{CheckedGiven, CheckedScript}
use Rattle.gq_shell.specs.Sources.{Sources, script_of, sources_of}
use Rattle.gq_shell.specs.Streams.{Stream}
use Rattle.gq_shell.specs.declared.seeding.RunSeed.{RunSeed}

by-script : {S : Type 0} (remaining : S → Option Bytes) (opens : Text → Result S Error → Type 0) (input other : Option Bytes) (old : State) (asked : Asked) (seed : RunSeed) (replies errors : Stream) (status : ℕ) (script : Option Text)
    → (script ≡ None → other ≡ input) → RanNamed (sources_of other remaining opens) old asked seed script replies errors status → RanNamed (sources_of input remaining opens) old asked seed script replies errors status
by-script remaining opens input other old asked seed replies errors status None same ran = subst (λ (bytes : Option Bytes). RanScript old asked seed bytes replies errors status) (same refl) ran
by-script remaining opens input other old asked seed replies errors status (Some path) same ran = ran

pub by-commands : {S : Type 0} (remaining : S → Option Bytes) (opens : Text → Result S Error → Type 0) (input other : Option Bytes) (old : State) (asked : Asked) (seed : RunSeed) (replies errors : Stream) (status : ℕ) (commands : List Text)
    → (commands ≡ [] → asked.script ≡ None → other ≡ input) → RanGiven (sources_of other remaining opens) old asked seed commands replies errors status → RanGiven (sources_of input remaining opens) old asked seed commands replies errors status
by-commands remaining opens input other old asked seed replies errors status [] same ran = by-script remaining opens input other old asked seed replies errors status asked.script (same refl) ran
by-commands remaining opens input other old asked seed replies errors status (lines ∷ more) same ran = ran

-- lists and texts that are asked for, borrowed from the words
cons_taken : {A B : Type 0} (f : A → B) (x : A) (xs : List A) → map f (x ∷ xs) ≡ [] → ⊥
cons_taken f x xs h = omega (arith, ap length h)

none_taken : {A B : Type 0} (f : A → B) (xs : List A) → (length xs == 0) ≡ false → map f xs ≡ [] → ⊥
none_taken f [] e h = true≢false e
none_taken f (x ∷ xs) e h = cons_taken f x xs h

pub not_none : {A B : Type 0} (f : A → B) (xs : List A) (b : Bool) → b ≡ (length xs == 0) → b ≡ false → map f xs ≡ [] → ⊥
not_none f xs b is e h = none_taken f xs (sym is ∙ e) h

pub takes : {A B : Type 0} (f : A → B) (s : Option A) (xs : List A) → map f xs ≡ [] → option_map f s ≡ None → (not (is_some s) && (length xs == 0)) ≡ true
takes f None [] h e = refl
takes f None (x ∷ xs) h e = absurd (cons_taken f x xs h)
takes f (Some x) xs h e = absurd (true≢false (ap is_some e))

-- lines of the command line, borrowed from the words
pub lines_are : (items : List (Bor Text)) → flat_map (λ lines. lines.now ++ codes "\n") items ≡ script_of (map (λ s. s.now) items)
lines_are items = sym (flat_map-map (λ (lines : Text). lines ++ codes "\n") (λ (s : Bor Text). s.now) items)

pub given_run : {S : Type 0} (sources : Sources S) (old : State) (asked : Asked) (seed : RunSeed) (replies errors : Stream) (status : ℕ) (items : List (Bor Text)) (b : Bool) (bytes : Bytes) → b ≡ (length items == 0) → b ≡ false
    → bytes ≡ flat_map (λ lines. lines.now ++ codes "\n") items → RanScript old asked seed (Some bytes) replies errors status → RanGiven sources old asked seed (map (λ s. s.now) items) replies errors status
given_run sources old asked seed replies errors status [] b bytes is e bytes_are ran = absurd (true≢false (sym is ∙ e))
given_run sources old asked seed replies errors status (x ∷ xs) b bytes is e bytes_are ran = inl (subst (λ (l : Bytes). RanScript old asked seed (Some l) replies errors status) (bytes_are ∙ lines_are (x ∷ xs)) ran)

pub given_check : {S : Type 0} (sources : Sources S) (path : Option Text) (replies errors : Stream) (status : ℕ) (items : List (Bor Text)) (b : Bool) (bytes : Bytes) → b ≡ (length items == 0) → b ≡ false
    → bytes ≡ flat_map (λ lines. lines.now ++ codes "\n") items → CheckedScript (codes "<command>") (Some bytes) replies errors status → CheckedGiven sources path (map (λ s. s.now) items) replies errors status
given_check sources path replies errors status [] b bytes is e bytes_are checked = absurd (true≢false (sym is ∙ e))
given_check sources path replies errors status (x ∷ xs) b bytes is e bytes_are checked = inl (subst (λ (l : Bytes). CheckedScript (codes "<command>") (Some l) replies errors status) (bytes_are ∙ lines_are (x ∷ xs)) checked)

-- ---- words for tables

pub none_in : {A B : Type 0} (f : A → B) (xs : List A) (b : Bool) → b ≡ (length xs == 0) → b ≡ true → map f xs ≡ []
none_in f [] b is e = refl
none_in f (x ∷ xs) b is e =
    let test : (length (x ∷ xs) == 0) ≡ true = sym is ∙ e in
    let size : length (x ∷ xs) ≡ 0 = grind (arith, nat_tests) in
    absurd (omega (arith, size))

-- one pair more
pub zip_push : {A B : Type 0} (R : A → B → Type 0) (xs : List A) (ys : List B) (x : A) (y : B) → AllZip R xs ys → R x y → AllZip R (xs ++ x ∷ []) (ys ++ y ∷ [])
zip_push R [] [] x y h r = (r, tt)
zip_push R [] (b ∷ ys) x y h r = absurd h
zip_push R (a ∷ xs) [] x y h r = absurd h
zip_push R (a ∷ xs) (b ∷ ys) x y h r = (h.0, zip_push R xs ys x y h.1 r)

pub no_second : (a b : Bool) → a && b ≡ false → a ≡ true → b ≡ false
no_second true b h e = h
no_second false b h e = absurd (true≢false (sym e))

-- no word takes the standard input, and neither does one more
pub still_left : (p : TableWord → Bool) (words more : List TableWord) (word : TableWord) → more ≡ words ++ word ∷ [] → list_any p words ≡ false → p word ≡ false → list_any p more ≡ false
still_left p words more word e h k = ap (list_any p) e ∙ list_any-append p words (word ∷ []) ∙ rw (h, k) refl

pub taken_more : (p : TableWord → Bool) (words more : List TableWord) (word : TableWord) (taken now was : Bool) → more ≡ words ++ word ∷ [] → now ≡ (was || list_any p words) → taken ≡ (now || p word) → taken ≡ (was || list_any p more)
taken_more p words more word taken now was e n t =
    t ∙ ap (λ b. b || p word) n ∙ by was (list_any p words) (p word) ∙ ap (λ b. was || b) (sym (ap (list_any p) e ∙ list_any-append p words (word ∷ [])))
  where
    by : (a b d : Bool) → (a || b) || d ≡ a || (b || (d || false))
    by true b d = refl
    by false true d = refl
    by false false true = refl
    by false false false = refl

or_true : (b : Bool) → (b || true) ≡ true
or_true true = refl
or_true false = refl

-- at most one word takes the standard input, also with one more
pub once_more : (p : TableWord → Bool) (words more : List TableWord) (word : TableWord) → more ≡ words ++ word ∷ [] → (list_any p words ≡ true → p word ≡ false)
    → AllPairs (λ (a b : TableWord). (p a && p b) ≡ false) words → AllPairs (λ (a b : TableWord). (p a && p b) ≡ false) more
once_more p words more word e none once = subst (AllPairs (λ (a b : TableWord). (p a && p b) ≡ false)) (sym e) (with_last words none once)
  where
    all : (x : TableWord) (rest : List TableWord) → All (λ (b : TableWord). (p x && p b) ≡ false) rest → (p x && p word) ≡ false → All (λ (b : TableWord). (p x && p b) ≡ false) (rest ++ word ∷ [])
    all x rest h new = All-append (λ (b : TableWord). (p x && p b) ≡ false) rest (word ∷ []) h (λ k d l. by k d l)
      where
        by : (k : ℕ) (d : TableWord) → k < 1 → (p x && p (get_or (word ∷ []) k d)) ≡ false
        by zero d l = new
        by (suc k) d l = absurd (omega (arith, l))

    with_last : (words : List TableWord) → (list_any p words ≡ true → p word ≡ false) → AllPairs (λ (a b : TableWord). (p a && p b) ≡ false) words → AllPairs (λ (a b : TableWord). (p a && p b) ≡ false) (words ++ word ∷ [])
    with_last [] none once = λ i j d i_less j_less. absurd (omega (arith, i_less, j_less))
    with_last (x ∷ rest) none once =
        AllPairs-cons (λ (a b : TableWord). (p a && p b) ≡ false) x (rest ++ word ∷ [])
        (all x rest (λ k d l. once 0 (suc k) d (omega arith) (omega (arith, l))) (by (p x) refl none))
        (with_last rest (λ any. none (ap (λ b. p x || b) any ∙ or_true (p x))) (λ i j d i_less j_less. once (suc i) (suc j) d (omega (arith, i_less)) (omega (arith, j_less))))
      where
        by : (b : Bool) → p x ≡ b → (p x || list_any p rest ≡ true → p word ≡ false) → (p x && p word) ≡ false
        by true e none = ap (λ b. b && p word) e ∙ none (ap (λ b. b || list_any p rest) e)
        by false e none = ap (λ b. b && p word) e

pub was_taken : (was any now : Bool) → now ≡ (was || any) → any ≡ true → now ≡ true
was_taken was any now n a = n ∙ ap (λ b. was || b) a ∙ or_true was

-- what a word says, by how it begins
pub says : (bounds : Bounds) (text : Text) (word : TableWord) → bounds ≡ GREATEST → word.file.now ≡ file_of text → (has_columns text ≡ false → (word.name ≡ name_of text) × (is_name bounds.name word.name ≡ true) × (word.columns ≡ None))
    → (has_columns text ≡ true → MatchOption word.columns ⊥ (λ given. SaysTable bounds (declaration_of text) word.name given.columns given.key)) → SaysWord GREATEST text word
says bounds text word greatest file named given = subst (λ (b : Bounds). SaysWord b text word) greatest (record { file_is = file; declaration_is = by (has_columns text) refl })
  where
    by : (b : Bool) → has_columns text ≡ b → SaysDeclaration bounds text b word
    by false e = named e
    by true e = given e

-- what was taken at first is taken still
pub left_more : (was any now : Bool) → was ≡ true → now ≡ (was || any) → now ≡ true
left_more was any now w n = n ∙ ap (λ b. b || any) w

-- one word more was read
pub next_said : (texts : List (Bor Text)) (i : ℕ) (text : Bor Text) (words more : List TableWord) (word : TableWord) → i < length texts → AllZip (SaysWord GREATEST) (map (λ (text : Bor Text). text.now) (take i texts)) words → more ≡ words ++ word ∷ []
    → SaysWord GREATEST (get_or texts i text).now word → AllZip (SaysWord GREATEST) (map (λ (text : Bor Text). text.now) (take (i + 1) texts)) more
next_said texts i text words more word l before e said =
    let P : List Text → Type 0 = λ ts. AllZip (SaysWord GREATEST) ts more in
    let Q : List TableWord → Type 0 = λ ws. AllZip (SaysWord GREATEST) (map (λ (text : Bor Text). text.now) (take i texts) ++ (get_or texts i text).now ∷ []) ws in
    subst P (sym (ap (map (λ (text : Bor Text). text.now)) (take_more texts i text l) ∙ map-append (λ (text : Bor Text). text.now) (take i texts) (get_or texts i text ∷ [])))
    (subst Q (sym e) (zip_push (SaysWord GREATEST) (map (λ (text : Bor Text). text.now) (take i texts)) words (get_or texts i text).now word before said))

-- ---- tables that could not be made

-- the file of a word has a fault, or there was no memory to report it
pub not_made : {S : Type 0} (sources : Sources S) (asked : Asked) (errors : Stream) (status : ℕ) (words : List TableWord) (fault : TableFault)
    → AllZip (SaysWord GREATEST) asked.tables words
    → ((contents : Bytes → Bytes) → AreFiles sources.remaining sources.opens sources.input words contents → IsFaultOf contents (short_by asked.ragged) GREATEST words fault)
    → fault.word < length words
    → StoppedForMemory errors status ⊎ ((word : TableWord) → fault.word < length words → Stopped errors (fault_text (short_by asked.ragged) (get_or words fault.word word).file.now fault.why) (status_of fault.why) status)
    → NotMade sources asked errors status
not_made sources asked errors status words fault said reason within (inl memory) = NoMemory memory
not_made sources asked errors status words fault said reason within (inr reported) =
    WrongFile (record { words = words; said = said; fault = fault; reason = reason; within = within; reported = λ word. reported word within })

pub ran_asked : {S : Type 0} (sources : Sources S) (asked : Asked) (seed : RunSeed) (replies errors : Stream) (status : ℕ)
    → IsSeedFor asked.seed seed → RanFrom sources asked seed replies errors status ⊎ HadNoTables sources asked replies errors status → RanAsked sources asked replies errors status
ran_asked sources asked seed replies errors status is (inl ran) = inl (seed, is, ran)
ran_asked sources asked seed replies errors status is (inr without) = inr (inr (inr without))
