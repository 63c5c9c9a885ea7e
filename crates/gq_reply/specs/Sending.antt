-- Bytes sent to a writer, at once or after others that wait for it.
use Rattle.std.specs.Prelude.{◌≡◌, ℕ, List, ◌++◌, Option}
use Rattle.std.specs.Io.KnownBytes.{Appends}

-- known bytes grow by a prefix of these
pub record AppendsPrefix (old new : Option (List ℕ)) (bytes : List ℕ) : Type 0 where
  pub prefix : List ℕ
  pub rest : List ℕ
  pub is : bytes ≡ prefix ++ rest
  pub appends : Appends old new prefix

-- bytes come after those that wait: known bytes grow by the first of them all, and the others wait
pub record Passes (old new : Option (List ℕ)) (before after bytes : List ℕ) : Type 0 where
  pub sent : List ℕ
  pub is : before ++ bytes ≡ sent ++ after
  pub appends : Appends old new sent
