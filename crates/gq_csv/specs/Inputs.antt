-- A source with the bytes that were read ahead of use.
use Rattle.std.specs.Prelude.{ℕ, List, Option}
use Rattle.std.specs.Io.KnownBytes.{prepend_known}

-- the bytes that were taken last, those that were read ahead, and those that the source has yet to give, if they are known
pub record Ahead : Type 0 where
  pub taken : List ℕ
  pub ahead : List ℕ
  pub after : Option (List ℕ)

-- the bytes that are yet to be taken, if they are known
abbrev pub known : Ahead → Option (List ℕ)
known input = prepend_known input.ahead input.after
