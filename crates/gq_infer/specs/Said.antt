-- What the word after `-t` says, read as a table and its file.
use Rattle.std.specs.Prelude.{◌≡◌, ℕ, Bool, true, false, List, MatchOption, None}
use Rattle.gq_row.specs.declared.limits.Bounds.{Bounds}
use Rattle.gq_infer.specs.declared.word.TableWord.{TableWord}
use Rattle.gq_infer.specs.Words.{SaysTable, file_of, declaration_of, has_columns, is_name, name_of}

-- what a word says of its table: a name, or a name with columns and a key
abbrev pub SaysDeclaration : Bounds → List ℕ → Bool → TableWord → Type 0
SaysDeclaration bounds text false word = (word.name ≡ name_of text) × (is_name bounds.name word.name ≡ true) × (word.columns ≡ None)
SaysDeclaration bounds text true word = MatchOption word.columns ⊥ (λ given. SaysTable bounds (declaration_of text) word.name given.columns given.key)

-- what a word says
pub record SaysWord (bounds : Bounds) (text : List ℕ) (word : TableWord) : Type 0 where
  pub file_is : word.file.now ≡ file_of text
  pub declaration_is : SaysDeclaration bounds text (has_columns text) word
