-- Words after `-t`, one after the other.
use Rattle.std.specs.Prelude.{◌≡◌, ◌||◌, Bool, true, false, List, [], ◌∷◌, ◌++◌}
use Rattle.gq_row.specs.Limits.{GREATEST}
use Rattle.gq_infer.specs.declared.word.TableWord.{TableWord}
use Rattle.gq_infer.specs.Said.{SaysWord}
use Rattle.gq_options.specs.CommandLine.{Text}
use Rattle.gq_tables.specs.Files.{is_input}

-- a word was read and added to those before; `now` is whether the standard input is taken: by this word only if it wasn't taken
pub record HasRead (text : Text) (was : Bool) (old new : List TableWord) (now : Bool) : Type 0 where
  pub word : TableWord
  pub said : SaysWord GREATEST text word
  pub pushed : new ≡ old ++ word ∷ []
  pub once : was ≡ true → is_input word ≡ false
  pub taken : now ≡ (was || is_input word)
