-- Rows that match others.
use Rattle.std.specs.Prelude.{◌&&◌, ℕ, Bool, not, List, if◌then◌else◌}
use Rattle.std.specs.List.{list_any}
use Rattle.gq_row.specs.declared.value.Value.{Value}
use Rattle.gq_row.specs.Fitting.{is_null}
use Rattle.gq_row.specs.Rows.{key_of}
use Rattle.gq_row.specs.Tables.{has_row}
use Rattle.gq_select.specs.declared.matching.Matching.{Matching}

-- some row has a key in some columns, and no value of the key is null
abbrev pub is_key_among : List ℕ → List (List Value) → List Value → Bool
is_key_among columns rows key = not (list_any is_null key) && has_row columns rows key

-- some other row has in its columns the same values as a row in its own, none of them null
abbrev pub exists : List Value → List ℕ → List (List Value) → List ℕ → Bool
exists row columns others theirs = is_key_among theirs others (key_of columns row)

-- a row is kept: some other row matches it, or with `not` none does
abbrev pub is_matched : Matching → List (List Value) → List Value → Bool
is_matched matching others row = if matching.negated then not (exists row matching.ours others matching.theirs) else exists row matching.ours others matching.theirs
