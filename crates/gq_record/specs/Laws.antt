-- What records imply, in the subject's own words.
use Rattle.std.specs.Prelude.{◌≡◌, ℕ, List, ◌++◌}
use Rattle.gq_row.specs.declared.value.Value.{Value}
use Rattle.gq_record.specs.Records.{IsStorable, record_of}

-- bytes that begin with a row's record begin with no other row's: no record begins with another, and none is of
-- two rows
abbrev pub DeterminesRow : Type 0
DeterminesRow = (a b : List Value) (x y : List ℕ) → IsStorable a → IsStorable b → record_of a ++ x ≡ record_of b ++ y → (a ≡ b) × (x ≡ y)
