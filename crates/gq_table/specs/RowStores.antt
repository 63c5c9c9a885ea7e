-- Rows of one width in one list of cells.
use Rattle.std.specs.Prelude.{ℕ, zero, suc, ◌*◌, List, [], ◌∷◌, ◌++◌, length, take, drop, slice_index_or}
use Rattle.std.specs.List.{flat_map}
use Rattle.gq_row.specs.declared.value.Value.{Value}

-- `n` rows, each the next `width` cells of a list
unfoldable pub rows_along : ℕ → ℕ → List Value → List (List Value)
rows_along width zero cells = []
rows_along width (suc n) cells = take width cells ∷ rows_along width n (drop width cells)

-- a list overwritten from a position on by the elements of another, as far as it goes
abbrev pub written_over : {X : Type 0} → List X → ℕ → List X → List X
written_over xs at ys = take (length xs) (take at xs ++ (ys ++ drop (length ys) (drop at xs)))

-- rows whose cells are overwritten from the first cell of a row on
unfoldable pub with_row : List (List Value) → ℕ → List Value → List (List Value)
with_row rows position cells =
    let width = length (slice_index_or rows position []) in
    rows_along width (length rows) (written_over (flat_map (λ row. row) rows) (position * width) cells)
