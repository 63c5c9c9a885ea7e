-- Words by their names, and the bytes of their files.
use Rattle.std.proofs.Common.{◌≡◌, ◌∙◌, ◌+◌, ◌<◌, ◌≤◌, ℕ, zero, suc, Bool, true, false, cond, List, [], ◌∷◌, ◌++◌, length, take, drop, get_or, Option, Some, None, All, refl, sym, ap, subst, arith}
use Rattle.std.specs.Prelude.{◌&&◌, ◌||◌, AllPairs, nat_lt, IfOk, Result, Ok, Err, bytes_eq, codes}
use Rattle.std.specs.List.{list_any}
use Rattle.std.specs.declared.io.Error.{Error}
use Rattle.std.proofs.lemmas.Bool.{ltb-true, or_parts, true≢false}
use Rattle.std.proofs.lemmas.Bool.Decides.{nat_tests}
use Rattle.std.proofs.lemmas.List.{append-nil, drop-append-le, drop_all, get_or_default, get_or-take, length-append, length-take, map-append, take-append-drop, take-take, take_more}
use Rattle.std.proofs.lemmas.List.Folds.{list_any-append, list_any_at, list_any_none}
use Rattle.std.proofs.lemmas.List.Elements.{filter-append, filter_more}
use Rattle.std.proofs.lemmas.Slice.Eq.{bytes_eq-Decides}
use Rattle.gq_row.specs.declared.limits.Bounds.{Bounds}
use Rattle.gq_row.specs.declared.schema.Column.{Column}
use Rattle.gq_row.specs.Schemas.{PlainSchema}
use Rattle.gq_row.specs.Tables.{PlainTable}
use Rattle.gq_load.specs.declared.short_records.Short.{Short}
use Rattle.gq_command.specs.Commands.{Bytes}
use Rattle.gq_engine.specs.Databases.{Database, table_at}
use Rattle.gq_infer.specs.declared.word.TableWord.{TableWord}
use Rattle.gq_tables.specs.declared.source.Source.{Source}
use Rattle.gq_tables.specs.Files.{AreFiles, HasAdded, HasBytes, HaveBytes, is_input}
use Rattle.gq_tables.specs.Made.{HasSchema, HasRowsOf, IsTableOf, files_of, of_name}
use Rattle.gq_tables.specs.Steps.{HasLoadedFile, IsEmpty, IsFilled, IsWith}
use Rattle.gq_tables.proofs.LoadLemmas.{file_loaded, no_files}

-- ---- words by their names

abbrev pub has_name : Bytes → TableWord → Bool
has_name name word = bytes_eq word.name name

pub none_of_name : (name : Bytes) (words : List TableWord) → list_any (has_name name) words ≡ false → of_name name words ≡ []
none_of_name name [] h = refl
none_of_name name (word ∷ words) h = by (has_name name word) refl h (none_of_name name words)
  where
    by : (b : Bool) → has_name name word ≡ b → b || (list_any (has_name name) words) ≡ false → (list_any (has_name name) words ≡ false → of_name name words ≡ []) → cond b (word ∷ of_name name words) (of_name name words) ≡ []
    by true e h again = absurd (true≢false h)
    by false e h again = again h

-- one word more
pub with_name : (name : Bytes) (words : List TableWord) (i : ℕ) (d : TableWord) → i < length words → has_name name (get_or words i d) ≡ true → of_name name (take (i + 1) words) ≡ of_name name (take i words) ++ get_or words i d ∷ []
with_name name words i d h same = filter_more (has_name name) words i d h ∙ ap (λ b. of_name name (take i words) ++ cond b (get_or words i d ∷ []) []) same

pub without_name : (name : Bytes) (words : List TableWord) (i : ℕ) (d : TableWord) → i < length words → has_name name (get_or words i d) ≡ false → of_name name (take (i + 1) words) ≡ of_name name (take i words)
without_name name words i d h other = filter_more (has_name name) words i d h ∙ ap (λ b. of_name name (take i words) ++ cond b (get_or words i d ∷ []) []) other ∙ append-nil (of_name name (take i words))

-- a file more
pub files-push : (contents : Bytes → Bytes) (words : List TableWord) (word : TableWord) → files_of contents (words ++ word ∷ []) ≡ files_of contents words ++ contents word.file.now ∷ []
files-push contents words word = map-append (λ (word : TableWord). contents word.file.now) words (word ∷ [])

-- ---- the bytes of files

module _ {S : Type 0} (remaining : S → Option Bytes) (opens : Bytes → Result S Error → Type 0) (contents : Bytes → Bytes) where
  pub bytes_at : (words : List TableWord) (sources : List Source) (i : ℕ) (d : TableWord) (e : Source) → HaveBytes remaining opens contents words sources → i < length sources
      → HasBytes remaining opens (get_or words i d).file.now (get_or sources i e) (contents (get_or words i d).file.now)
  bytes_at words [] i d e h l = absurd (omega (arith, l))
  bytes_at [] (source ∷ sources) i d e h l = absurd h
  bytes_at (word ∷ words) (source ∷ sources) zero d e h l = h.0
  bytes_at (word ∷ words) (source ∷ sources) (suc i) d e h l = bytes_at words sources i d e h.1 (omega (arith, l))

  pub bytes-push : (words : List TableWord) (sources : List Source) (source : Source) (d : TableWord) → HaveBytes remaining opens contents words sources → length sources < length words
      → HasBytes remaining opens (get_or words (length sources) d).file.now source (contents (get_or words (length sources) d).file.now) → HaveBytes remaining opens contents words (sources ++ source ∷ [])
  bytes-push [] [] source d h l new = absurd (omega (arith, l))
  bytes-push (word ∷ words) [] source d h l new = (new, tt)
  bytes-push [] (other ∷ sources) source d h l new = absurd h
  bytes-push (word ∷ words) (other ∷ sources) source d h l new = (h.0, bytes-push words sources source d h.1 (omega (arith, l)) new)

-- the first word of a table's
pub at_first : (name : Bytes) (words : List TableWord) (at : ℕ) (d : TableWord) → at < length words → list_any (has_name name) (take at words) ≡ false → has_name name (get_or words at d) ≡ true
    → of_name name (take (at + 1) words) ≡ get_or words at d ∷ []
at_first name words at d h none same = with_name name words at d h same ∙ ap (λ ws. ws ++ get_or words at d ∷ []) (none_of_name name (take at words) none)

pub itself : (name : Bytes) → bytes_eq name name ≡ true
itself name = (bytes_eq-Decides name name).1 refl

abbrev IsPlain : TableWord → Type 0
IsPlain word = word.columns ≡ None

all_plain : (word : TableWord) → IsPlain word → (words : List TableWord) → All IsPlain words → All IsPlain (words ++ word ∷ [])
all_plain word plain [] h = λ k d l. by k d l
  where
    by : (k : ℕ) (d : TableWord) → k < 1 → IsPlain (get_or (word ∷ []) k d)
    by zero d l = plain
    by (suc k) d l = absurd (omega (arith, l))
all_plain word plain (w ∷ words) h = λ k d l. by (all_plain word plain words (λ j c m. h (suc j) c (omega (arith, m)))) k d l
  where
    by : All IsPlain (words ++ word ∷ []) → (k : ℕ) (d : TableWord) → k < suc (length (words ++ word ∷ [])) → IsPlain (get_or (w ∷ (words ++ word ∷ [])) k d)
    by again zero d l = h 0 d (omega arith)
    by again (suc k) d l = again k d (omega (arith, l))

more_plain : (word : TableWord) → IsPlain word → (words : List TableWord) → All IsPlain (drop 1 words) → All IsPlain (drop 1 (words ++ word ∷ []))
more_plain word plain [] h = λ k d l. absurd (omega (arith, l))
more_plain word plain (w ∷ words) h = all_plain word plain words h

-- ---- a table that is being filled

module _ (contents : Bytes → Bytes) (short : Short) (limits : Bounds) (before : Database) (name : Bytes) (columns : List Column) (key : List Bytes) where
  -- without files
  pub filled_start : (db : Database) (words : List TableWord) → words ≡ [] → IsWith before name (IsEmpty columns key) db → IsWith before name (IsFilled contents short limits columns key words) db
  filled_start db words none h =
      let P : List TableWord → Type 0 = λ words. IsWith before name (IsFilled contents short limits columns key words) db in
      subst P (sym none)
      (record {
        table = h.table;
        is = record { columns_are = h.is.columns_are; key_is = h.is.key_is; plain = λ k d l. absurd (omega (arith, l)); filled = no_files short limits h.table h.is.rows_are };
        same = h.same;
      })

  pub filled_same : (db : Database) (words more : List TableWord) → more ≡ words → IsWith before name (IsFilled contents short limits columns key words) db → IsWith before name (IsFilled contents short limits columns key more) db
  filled_same db words more e h =
      let P : List TableWord → Type 0 = λ words. IsWith before name (IsFilled contents short limits columns key words) db in
      subst P (sym e) h

  filled_on : (db new : Database) (words more : List TableWord) (word : TableWord) → table_at before name ≡ None → more ≡ words ++ word ∷ []
      → All (λ (word : TableWord). word.columns ≡ None) (drop 1 (words ++ word ∷ []))
      → IsWith before name (IsFilled contents short limits columns key words) db → HasLoadedFile short limits db name (contents word.file.now) new
      → IsWith before name (IsFilled contents short limits columns key more) new
  filled_on db new words more word none e plain h done =
      let l = file_loaded short limits before db new name (contents word.file.now) (files_of contents words) h.table none h.is.filled h.same done in
      filled_same new (words ++ word ∷ []) more e
      (record {
        table = l.table;
        is = record {
          columns_are = ap (λ (g : PlainSchema). g.columns) l.is.0 ∙ h.is.columns_are;
          key_is = h.is.key_is ∙ ap (λ (g : PlainSchema). Some g.key) (sym l.is.0);
          plain = plain;
          filled = subst (λ (files : List Bytes). HasRowsOf short limits files l.table) (sym (files-push contents words word)) l.is.1;
        };
        same = l.same;
      })

  -- with the file of one word more, which gives no columns unless it is the first
  pub filled_more : (db new : Database) (words more : List TableWord) (word : TableWord) → table_at before name ≡ None → more ≡ words ++ word ∷ [] → word.columns ≡ None
      → IsWith before name (IsFilled contents short limits columns key words) db → HasLoadedFile short limits db name (contents word.file.now) new
      → IsWith before name (IsFilled contents short limits columns key more) new
  filled_more db new words more word none e plain h done = filled_on db new words more word none e (more_plain word plain words h.is.plain) h done

  -- the first file
  pub filled_first : (db new : Database) (words more : List TableWord) (word : TableWord) → table_at before name ≡ None → more ≡ words ++ word ∷ [] → words ≡ []
      → IsWith before name (IsFilled contents short limits columns key words) db → HasLoadedFile short limits db name (contents word.file.now) new
      → IsWith before name (IsFilled contents short limits columns key more) new
  filled_first db new words more word none e first h done =
      filled_on db new words more word none e (let P : List TableWord → Type 0 = λ ws. All (λ (word : TableWord). word.columns ≡ None) (drop 1 (ws ++ word ∷ [])) in subst P (sym first) (λ k d l. absurd (omega (arith, l)))) h done

  -- the file of the next word of the table
  pub filled_next : (db new : Database) (words : List TableWord) (at word : ℕ) (first : TableWord) → table_at before name ≡ None → at ≤ word → word < length words → list_any (has_name name) (take at words) ≡ false
      → has_name name (get_or words word first) ≡ true → (at < word → (get_or words word first).columns ≡ None) → HasLoadedFile short limits db (get_or words word first).name (contents (get_or words word first).file.now) new
      → IsWith before name (IsFilled contents short limits columns key (of_name name (take word words))) db → IsWith before name (IsFilled contents short limits columns key (of_name name (take (word + 1) words))) new
  filled_next db new words at word first none m l earliest same plain done h = by (nat_lt at word) refl
    where
      more : of_name name (take (word + 1) words) ≡ of_name name (take word words) ++ get_or words word first ∷ []
      more = with_name name words word first l same

      loaded : HasLoadedFile short limits db name (contents (get_or words word first).file.now) new
      loaded = subst (λ (n : Bytes). HasLoadedFile short limits db n (contents (get_or words word first).file.now) new) ((bytes_eq-Decides (get_or words word first).name name).0 same) done

      by : (b : Bool) → nat_lt at word ≡ b → IsWith before name (IsFilled contents short limits columns key (of_name name (take (word + 1) words))) new
      by true e = filled_more db new (of_name name (take word words)) (of_name name (take (word + 1) words)) (get_or words word first) none more (plain (ltb-true _ _ e)) h loaded
      by false e =
          let here : at ≡ word = let k : word ≤ at = grind (arith, nat_tests) in omega (arith, k, m) in
          filled_first db new (of_name name (take word words)) (of_name name (take (word + 1) words)) (get_or words word first) none more
          (ap (λ n. of_name name (take n words)) (sym here) ∙ none_of_name name (take at words) earliest) h loaded

-- ---- the table of words

pub is_table_given : (contents : Bytes → Bytes) (short : Short) (limits : Bounds) (columns : List Column) (key : List Bytes) (words others : List TableWord) (first : TableWord) (t : PlainTable) → words ≡ first ∷ others
    → HasSchema first.columns (files_of contents (first ∷ others)) t.schema → IsFilled contents short limits columns key words t → IsTableOf contents short limits words t
is_table_given contents short limits columns key words others first t e schema h =
    let P : List TableWord → Type 0 = λ ws. IsTableOf contents short limits ws t in
    let Q : List TableWord → Type 0 = λ ws. IsFilled contents short limits columns key ws t in
    let f = subst Q e h in
    subst P (sym e) (schema, f.plain, f.filled)

-- ---- the word at a place

module _ {S : Type 0} (remaining : S → Option Bytes) (opens : Bytes → Result S Error → Type 0) where
  -- whatever would be there past the end
  pub bytes_here : (words : List TableWord) (sources : List Source) (i : ℕ) (word d : TableWord) (source e : Source) (bytes : Bytes) → i < length sources → length sources ≤ length words
      → HasBytes remaining opens (get_or words i d).file.now (get_or sources i e) bytes → HasBytes remaining opens (get_or words i word).file.now (get_or sources i source) bytes
  bytes_here words sources i word d source e bytes l m has =
      let P : TableWord → Type 0 = λ w. HasBytes remaining opens w.file.now (get_or sources i e) bytes in
      let Q : Source → Type 0 = λ s. HasBytes remaining opens (get_or words i word).file.now s bytes in
      subst Q (get_or_default sources i e source l) (subst P (get_or_default words i d word (omega (arith, l, m))) has)

  none_before : (words : List TableWord) (i : ℕ) (d : TableWord) → AllPairs (λ (a b : TableWord). (is_input a && is_input b) ≡ false) words → i < length words → is_input (get_or words i d) ≡ true → list_any is_input (take i words) ≡ false
  none_before words i d once l here =
      list_any_none is_input (take i words)
      (λ k e m.
      let n : k < i = omega (arith, m, length-take i words) in
      ap is_input (get_or-take i words k e n) ∙ first_no (is_input (get_or words k e)) (is_input (get_or words i e)) (once k i e n l) (ap is_input (get_or_default words i e d l) ∙ here))
    where
      first_no : (a b : Bool) → a && b ≡ false → b ≡ true → a ≡ false
      first_no true b h e = sym e ∙ h
      first_no false b h e = refl

  -- the standard input, which no word before took
  pub input_known : (stdin now : Option Bytes) (words : List TableWord) (contents : Bytes → Bytes) (i : ℕ) (d : TableWord) → AreFiles remaining opens stdin words contents → i < length words → is_input (get_or words i d) ≡ true
      → (list_any is_input (take i words) ≡ false → now ≡ stdin) → now ≡ Some (contents (get_or words i d).file.now)
  input_known stdin now words contents i d files l here untouched =
      untouched (none_before words i d files.once l here) ∙ files.read (list_any_at is_input words i d l here)
      ∙ ap (λ (path : Bytes). Some (contents path)) (sym ((bytes_eq-Decides (get_or words i d).file.now (codes "-")).0 here))

-- one word more was looked at, and it isn't the standard input
pub none_more : (words : List TableWord) (i : ℕ) (d : TableWord) → i < length words → list_any is_input (take (i + 1) words) ≡ false → (list_any is_input (take i words) ≡ false) × (is_input (get_or words i d) ≡ false)
none_more words i d l h =
    or_parts (list_any is_input (take i words)) (is_input (get_or words i d))
    (sym (ap (list_any is_input) (take_more words i d l) ∙ list_any-append is_input (take i words) (get_or words i d ∷ []) ∙ ap (λ b. list_any is_input (take i words) || b) (or_nil (is_input (get_or words i d)))) ∙ h)
  where
    or_nil : (b : Bool) → b || false ≡ b
    or_nil true = refl
    or_nil false = refl

-- the words after the first of a table, up to a place
pub others_start : (words : List TableWord) (at : ℕ) → at < length words → drop (at + 1) (take (at + 1) words) ≡ []
others_start words at l = drop_all (at + 1) (take (at + 1) words) (omega (arith, l, length-take (at + 1) words))

others_more : (words : List TableWord) (at i : ℕ) (d : TableWord) → at < i → i < length words → drop (at + 1) (take (i + 1) words) ≡ drop (at + 1) (take i words) ++ get_or words i d ∷ []
others_more words at i d m l =
    ap (drop (at + 1)) (take_more words i d l)
    ∙ drop-append-le (at + 1) (take i words) (get_or words i d ∷ []) (omega (arith, m, l, length-take i words))

pub other_with : (name : Bytes) (words : List TableWord) (at i : ℕ) (d : TableWord) → at < i → i < length words → has_name name (get_or words i d) ≡ true
    → of_name name (drop (at + 1) (take (i + 1) words)) ≡ of_name name (drop (at + 1) (take i words)) ++ get_or words i d ∷ []
other_with name words at i d m l same =
    ap (of_name name) (others_more words at i d m l) ∙ filter-append (has_name name) (drop (at + 1) (take i words)) (get_or words i d ∷ [])
    ∙ ap (λ b. of_name name (drop (at + 1) (take i words)) ++ cond b (get_or words i d ∷ []) []) same

pub other_without : (name : Bytes) (words : List TableWord) (at i : ℕ) (d : TableWord) → at < i → i < length words → has_name name (get_or words i d) ≡ false
    → of_name name (drop (at + 1) (take (i + 1) words)) ≡ of_name name (drop (at + 1) (take i words))
other_without name words at i d m l other =
    ap (of_name name) (others_more words at i d m l) ∙ filter-append (has_name name) (drop (at + 1) (take i words)) (get_or words i d ∷ [])
    ∙ ap (λ b. of_name name (drop (at + 1) (take i words)) ++ cond b (get_or words i d ∷ []) []) other ∙ append-nil (of_name name (drop (at + 1) (take i words)))

-- a table's words are its first one and the others
pub first_and_others : (name : Bytes) (words : List TableWord) (at end : ℕ) (d : TableWord) → at < end → end ≤ length words → list_any (has_name name) (take at words) ≡ false → has_name name (get_or words at d) ≡ true
    → of_name name (take end words) ≡ get_or words at d ∷ of_name name (drop (at + 1) (take end words))
first_and_others name words at end d l m none same =
    ap (of_name name) (sym (take-append-drop (at + 1) (take end words)))
    ∙ filter-append (has_name name) (take (at + 1) (take end words)) (drop (at + 1) (take end words))
    ∙ ap (λ ws. of_name name ws ++ of_name name (drop (at + 1) (take end words))) (take-take (at + 1) end words (omega (arith, l)))
    ∙ ap (λ ws. ws ++ of_name name (drop (at + 1) (take end words))) (at_first name words at d (omega (arith, l, m)) none same)

-- whether a word has the name of a table, by its first word
pub same_name : (words : List TableWord) (at word : ℕ) (first : TableWord) (r b : Bool) → get_or words at first ≡ first → r ≡ bytes_eq (get_or words word first).name (get_or words at first).name → r ≡ b → has_name first.name (get_or words word first) ≡ b
same_name words at word first r b here is e = ap (λ (w : TableWord). bytes_eq (get_or words word first).name w.name) (sym here) ∙ sym is ∙ e

pub none_at : (words : List TableWord) (i : ℕ) (d : TableWord) → i < length words → list_any is_input words ≡ false → (list_any is_input (take i words) ≡ false) × (is_input (get_or words i d) ≡ false)
none_at words i d l h =
    let parts = or_parts (list_any is_input (take i words)) (list_any is_input (drop i words))
    (sym (ap (list_any is_input) (sym (take-append-drop i words)) ∙ list_any-append is_input (take i words) (drop i words)) ∙ h) in
    (parts.0, not_input (is_input (get_or words i d)) refl)
  where
    not_input : (b : Bool) → is_input (get_or words i d) ≡ b → is_input (get_or words i d) ≡ false
    not_input true e = absurd (true≢false (sym (list_any_at is_input words i d l e) ∙ h))
    not_input false e = e

-- one source more
module _ {S : Type 0} (remaining : S → Option Bytes) (opens : Bytes → Result S Error → Type 0) where
  pub have_more : (stdin now : Option Bytes) (words : List TableWord) (contents : Bytes → Bytes) (old new : List Source) (i : ℕ) (d : TableWord) → AreFiles remaining opens stdin words contents → length old ≡ i → i < length words
      → (list_any is_input (take i words) ≡ false → now ≡ stdin) → HasAdded remaining opens now (get_or words i d) old new → HaveBytes remaining opens contents words old → HaveBytes remaining opens contents words new
  have_more stdin now words contents old new i d files many l untouched h before =
      let P : List Source → Type 0 = λ sources. HaveBytes remaining opens contents words sources in
      let Q : ℕ → Type 0 = λ n. HasBytes remaining opens (get_or words n d).file.now h.source (contents (get_or words n d).file.now) in
      subst P (sym h.pushed) (bytes-push remaining opens contents words old h.source d before (omega (arith, many, l)) (subst Q (sym many) (by (is_input (get_or words i d)) refl)))
    where
      by : (b : Bool) → is_input (get_or words i d) ≡ b → HasBytes remaining opens (get_or words i d).file.now h.source (contents (get_or words i d).file.now)
      by true e = h.held e (contents (get_or words i d).file.now) (input_known remaining opens stdin now words contents i d files l e untouched)
      by false e = h.file e (contents (get_or words i d).file.now) (λ file opened. files.opened (get_or words i d).file.now file opened)

pub length-push : {X : Type 0} (xs : List X) (x : X) → length (xs ++ x ∷ []) ≡ length xs + 1
length-push xs x = length-append xs (x ∷ [])

pub both_ok : {T E : Type 0} (r : Result T E) (P Q : Type 0) → IfOk r (λ _. P) → IfOk r (λ _. Q) → IfOk r (λ _. P × Q)
both_ok (Ok x) P Q p q = (p, q)
both_ok (Err e) P Q p q = tt
