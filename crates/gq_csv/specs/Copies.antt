-- A record that is copied.
use Rattle.std.specs.Prelude.{ℕ, List}

-- the fields that ended, and the bytes of the next one so far
pub record Copied : Type 0 where
  pub fields : List (List ℕ)
  pub field : List ℕ
