-- The table of words, once its files are loaded.
use Rattle.std.proofs.Common.{◌≡◌, ◌∙◌, ◌+◌, ◌<◌, ◌≤◌, ℕ, zero, suc, false, List, [], ◌∷◌, length, map, take, drop, get_or, Option, Some, None, All, refl, sym, ap, subst, arith}
use Rattle.std.specs.Prelude.{Result, Ok, Err, IfOk, IsOk, MatchResult}
use Rattle.std.specs.List.{list_any}
use Rattle.std.proofs.lemmas.List.{get_or_default}
use Rattle.std.proofs.lemmas.Option.{same_Some}
use Rattle.gq_row.specs.declared.limits.Bounds.{Bounds}
use Rattle.gq_row.specs.declared.schema.Column.{Column}
use Rattle.gq_row.specs.declared.value.Value.{Value}
use Rattle.gq_row.specs.Schemas.{PlainSchema, positions_of}
use Rattle.gq_row.specs.Tables.{PlainTable}
use Rattle.gq_load.specs.declared.load_refusal.LoadRefusal.{LoadRefusal}
use Rattle.gq_load.specs.declared.short_records.Short.{Short}
use Rattle.gq_load.specs.Payloads.{load}
use Rattle.gq_command.specs.Commands.{Bytes}
use Rattle.gq_engine.specs.Databases.{Database, table_at}
use Rattle.gq_engine.specs.Runs.{SameTables}
use Rattle.gq_engine.proofs.OrderLemmas.{added_alike, same_sym, tables_trans}
use Rattle.gq_infer.specs.declared.word.TableWord.{TableWord}
use Rattle.gq_infer.specs.Files.{table_columns}
use Rattle.gq_infer.specs.Guesses.{AreRightIfLoaded}
use Rattle.gq_infer.specs.Words.{Given}
use Rattle.gq_tables.specs.Made.{HasSchema, IsTableOf, files_of, of_name}
use Rattle.gq_tables.specs.Steps.{IsFilled, IsWith}
use Rattle.gq_tables.proofs.LoadLemmas.{found_same}
use Rattle.gq_tables.proofs.WordLemmas.{first_and_others, has_name, is_table_given, itself}

-- ---- results

pub if_ok : {T E : Type 0} (r : Result T E) (P : Type 0) → ((x : T) → r ≡ Ok x → P) → IfOk r (λ _. P)
if_ok (Ok x) P f = f x refl
if_ok (Err e) P f = tt

pub match_at_ok : {T E : Type 0} (r : Result T E) (x : T) (P Q : Type 0) → r ≡ Ok x → MatchResult r (λ _. P) (λ _. Q) → P
match_at_ok {T} {E} r x P Q e h = let M : Result T E → Type 0 = λ s. MatchResult s (λ _. P) (λ _. Q) in subst M e h

pub match_err : {T E : Type 0} (r : Result T E) (e : E) (P Q : Type 0) → r ≡ Err e → Q → MatchResult r (λ _. P) (λ _. Q)
match_err {T} {E} r e P Q h q = let M : Result T E → Type 0 = λ s. MatchResult s (λ _. P) (λ _. Q) in subst M (sym h) q

-- ---- databases that are the same but for the order of rows

pub none_same : (a b : Database) (name : Bytes) → SameTables a b → table_at a name ≡ None → table_at b name ≡ None
none_same a b name same none = by (table_at b name) refl
  where
    by : (o : Option PlainTable) → table_at b name ≡ o → table_at b name ≡ None
    by None e = e
    by (Some t) e =
        let f = found_same b a name t (same_sym a b same) e in
        let no : ⊥ = cc (rw none at f.found) in absurd no

pub with_same : (a b new : Database) (name : Bytes) (P : PlainTable → Type 0) → SameTables a b → IsWith b name P new → IsWith a name P new
with_same a b new name P same h = record { table = h.table; is = h.is; same = tables_trans _ _ _ (added_alike a b (name, h.table) same) h.same }

-- ---- the first word

pub first_here : (words : List TableWord) (at : ℕ) (d first : TableWord) → at < length words → get_or words at first ≡ first → get_or words at d ≡ first
first_here words at d first l here = get_or_default words at d first l ∙ here

module _ (contents : Bytes → Bytes) (short : Short) (limits : Bounds) (words : List TableWord) (at end : ℕ) (first : TableWord) (l : at < end) (m : end ≤ length words)
    (earliest : list_any (has_name first.name) (take at words) ≡ false) (here : get_or words at first ≡ first) where
  abbrev others : List TableWord
  others = of_name first.name (drop (at + 1) (take end words))

  abbrev asked : List TableWord
  asked = of_name first.name (take end words)

  cut : asked ≡ first ∷ others
  cut =
      first_and_others first.name words at end first l m earliest (ap (λ (w : TableWord). has_name first.name w) here ∙ itself first.name)
      ∙ ap (λ w. w ∷ others) here

  -- with columns and a key that were given
  pub given_made : (given : Given) (columns : List Column) (key : List Bytes) (before new : Database) → (get_or words at first).columns ≡ Some given → columns ≡ given.columns → key ≡ given.key
      → IsWith before first.name (IsFilled contents short limits columns key (of_name first.name (take end words))) new → IsWith before first.name (IsTableOf contents short limits (of_name first.name (take end words))) new
  given_made given columns key before new has columns_are key_is h = record {
    table = h.table;
    is = is_table_given contents short limits columns key asked others first h.table cut schema h.is;
    same = h.same;
  }
    where
      gives : first.columns ≡ Some given
      gives = ap (λ (w : TableWord). w.columns) (sym here) ∙ has

      schema : HasSchema first.columns (files_of contents (first ∷ others)) h.table.schema
      schema =
          let P : Option Given → Type 0 = λ o. HasSchema o (files_of contents (first ∷ others)) h.table.schema in
          subst P (sym gives) (h.is.columns_are ∙ columns_are, ap (positions_of given.columns) (sym key_is) ∙ ap (λ cs. positions_of cs key) (sym columns_are) ∙ h.is.key_is)

  -- with the columns that the files have
  pub inferred_made : (columns : List Column) (before new : Database) → (get_or words at first).columns ≡ None → columns ≡ table_columns (contents first.file.now) (files_of contents (of_name first.name (drop (at + 1) (take end words))))
      → IsWith before first.name (IsFilled contents short limits columns [] (of_name first.name (take end words))) new → IsWith before first.name (IsTableOf contents short limits (of_name first.name (take end words))) new
  inferred_made columns before new none columns_are h = record {
    table = h.table;
    is = is_table_given contents short limits columns [] asked others first h.table cut schema h.is;
    same = h.same;
  }
    where
      gives : first.columns ≡ None
      gives = ap (λ (w : TableWord). w.columns) (sym here) ∙ none

      whole : h.table.schema ≡ record { columns = table_columns (contents first.file.now) (files_of contents others); key = [] }
      whole = λ i. record { columns = (h.is.columns_are ∙ columns_are) i; key = same_Some h.table.schema.key [] (sym h.is.key_is) i }

      schema : HasSchema first.columns (files_of contents (first ∷ others)) h.table.schema
      schema = let P : Option Given → Type 0 = λ o. HasSchema o (files_of contents (first ∷ others)) h.table.schema in subst P (sym gives) whole

  all_ok : (f : Bytes → Result (List (List Value)) LoadRefusal) (files : List Bytes) (parts : List (List (List Value))) → map f files ≡ map Ok parts → All (λ file. IsOk (f file)) files
  all_ok f [] parts e = λ k d k_less. absurd (omega (arith, k_less))
  all_ok f (file ∷ files) [] e = let no : ⊥ = omega (arith, ap length e) in absurd no
  all_ok f (file ∷ files) (part ∷ parts) e = λ k d k_less. by (all_ok f files parts (ap (λ rs. drop 1 rs) e)) k d k_less
    where
      by : All (λ file. IsOk (f file)) files → (k : ℕ) (d : Bytes) → k < suc (length files) → IsOk (f (get_or (file ∷ files) k d))
      by again zero d k_less = let here : f file ≡ Ok part = ap (λ rs. get_or rs 0 (f file)) e in rw here refl
      by again (suc k) d k_less = again k d (omega (arith, k_less))

  -- with columns that were guessed: all files were loaded under them
  pub guessed_made : (columns : List Column) (before new : Database) → (get_or words at first).columns ≡ None → AreRightIfLoaded columns (contents first.file.now)
      → IsWith before first.name (IsFilled contents short limits columns [] (of_name first.name (take end words))) new → IsWith before first.name (IsTableOf contents short limits (of_name first.name (take end words))) new
  guessed_made columns before new none right h =
      inferred_made columns before new none
      (right short limits (files_of contents others)
      (let P : PlainSchema → Type 0 = λ g. All (λ file. IsOk (load short g limits file)) (contents first.file.now ∷ files_of contents others) in
      subst P (λ i. record { columns = h.is.columns_are i; key = same_Some h.table.schema.key [] (sym h.is.key_is) i })
      (let Q : List TableWord → Type 0 = λ ws. All (λ file. IsOk (load short h.table.schema limits file)) (files_of contents ws) in
      subst Q cut (all_ok (load short h.table.schema limits) (files_of contents asked) h.is.filled.parts h.is.filled.read)))) h
