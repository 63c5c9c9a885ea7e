-- What the files of a command line hold.
use Rattle.std.specs.Prelude.{◌≡◌, ◌&&◌, ℕ, Bool, true, false, List, AllPairs, bytes_eq, slice_index_or, take, codes, Option, Some, IfSome, [], ◌∷◌, ◌++◌, Result, Ok}
use Rattle.std.specs.List.{list_any}
use Rattle.std.specs.declared.io.Error.{Error}
use Rattle.gq_command.specs.Commands.{Bytes}
use Rattle.gq_infer.specs.declared.word.TableWord.{TableWord}
use Rattle.gq_tables.specs.declared.files.Files.{Files}
use Rattle.gq_tables.specs.declared.source.Source.{Source}
use Rattle.gq_tables.specs.declared.source.Source.TheVariants.{Held, Path}
use Rattle.gq_tables.specs.declared.source.Opened.{Opened}
use Rattle.gq_tables.specs.declared.source.Opened.TheVariants as opened

-- whether a word's file is the standard input
abbrev pub is_input : TableWord → Bool
is_input word = bytes_eq word.file.now (codes "-")

-- Each file of words has these bytes: what is opened at a path has the path's, however often it is opened, and the standard input, which at most one word takes, those of `-`.
pub record AreFiles {S : Type 0} (remaining : S → Option Bytes) (opens : Bytes → Result S Error → Type 0) (input : Option Bytes) (words : List TableWord) (contents : Bytes → Bytes) : Type 0 where
  pub opened : (path : Bytes) (file : S) → opens path (Ok file) → remaining file ≡ Some (contents path)
  pub read : list_any is_input words ≡ true → input ≡ Some (contents (codes "-"))
  pub once : AllPairs (λ (a b : TableWord). (is_input a && is_input b) ≡ false) words

-- what a file that is read from a source has to give
abbrev pub left_in : {S : Type 0} → (S → Option Bytes) → Opened S → Option Bytes
left_in remaining (opened.Held bytes) = Some bytes.now
left_in remaining (opened.File file) = remaining file

-- a source of a path has these bytes
abbrev pub HasBytes : {S : Type 0} → (S → Option Bytes) → (Bytes → Result S Error → Type 0) → Bytes → Source → Bytes → Type 0
HasBytes remaining opens path (Held held) bytes = held.items ≡ bytes
HasBytes {S} remaining opens path Path bytes = (file : S) → opens path (Ok file) → remaining file ≡ Some bytes

-- a source holds what a reader had left, if it holds bytes
abbrev pub HoldsLeft : Option Bytes → Source → Type 0
HoldsLeft left (Held held) = IfSome left (λ bytes. held.items ≡ bytes)
HoldsLeft left Path = Unit {0}

-- A source was added for a word's file: it has the bytes of the standard input if the word takes that, and otherwise those of the path.
pub record HasAdded {S : Type 0} (remaining : S → Option Bytes) (opens : Bytes → Result S Error → Type 0) (stdin : Option Bytes) (word : TableWord) (old new : List Source) : Type 0 where
  pub source : Source
  pub pushed : new ≡ old ++ source ∷ []
  pub held : is_input word ≡ true → (bytes : Bytes) → stdin ≡ Some bytes → HasBytes remaining opens word.file.now source bytes
  pub file : is_input word ≡ false → (bytes : Bytes) → HasBytes remaining opens word.file.now Path bytes → HasBytes remaining opens word.file.now source bytes

-- the sources of the first of some words have the bytes of their paths
abbrev pub HaveBytes : {S : Type 0} → (S → Option Bytes) → (Bytes → Result S Error → Type 0) → (Bytes → Bytes) → List TableWord → List Source → Type 0
HaveBytes remaining opens contents words [] = Unit {0}
HaveBytes remaining opens contents [] (source ∷ sources) = ⊥
HaveBytes remaining opens contents (word ∷ words) (source ∷ sources) = HasBytes remaining opens word.file.now source (contents word.file.now) × HaveBytes remaining opens contents words sources

-- What is known of a table: the first of its words, which is at this place, and the bytes of all files.
pub record Knows {S F : Type 0} (remaining : S → Option Bytes) (opens : Bytes → Result S Error → Type 0) (files : Files F) (at : ℕ) (contents : Bytes → Bytes) (first : TableWord) : Type 0 where
  pub bytes : HaveBytes remaining opens contents files.words.now files.sources.now
  pub here : slice_index_or files.words.now at first ≡ first
  pub earliest : list_any (λ (other : TableWord). bytes_eq other.name first.name) (take at files.words.now) ≡ false

-- this holds of a word and of its file's bytes, whatever bytes its source has
abbrev pub OfFile : {S F : Type 0} → (S → Option Bytes) → (Bytes → Result S Error → Type 0) → Files F → ℕ → (TableWord → Bytes → Type 0) → Type 0
OfFile remaining opens files at P =
    (d : TableWord) (e : Source) (bytes : Bytes)
    → HasBytes remaining opens (slice_index_or files.words.now at d).file.now (slice_index_or files.sources.now at e) bytes → P (slice_index_or files.words.now at d) bytes
