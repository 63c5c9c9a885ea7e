-- What one pass over rows leaves to others: rows whose keys are not kept go to runs, by partitions of keys.
use Rattle.std.specs.Prelude.{◌-◌, ◌*◌, ◌/◌, ◌%◌, ◌^◌, ◌==◌, ℕ, zero, suc, nat_lt, List, [], ◌∷◌, length, map, filter, Option, if◌then◌else◌}
use Rattle.gq_row.specs.declared.value.Value.{Value}
use Rattle.gq_row.specs.Classes.{class_of}
use Rattle.gq_row.specs.Rows.{key_of}
use Rattle.gq_row.specs.Tables.{keys}
use Rattle.gq_group.specs.Groups.{Spec, group_of}

-- the groups of the keys that the rows have: without columns none where there is no row
abbrev pub row_groups : Spec → List (List Value) → List (List Value × List (Option Value))
row_groups spec rows = map (group_of spec rows) (keys spec.by rows)

abbrev pub count_groups : Spec → List (List Value) → ℕ
count_groups spec rows = length (row_groups spec rows)

-- the rows of each partition of keys, one after the other: n of them, from q on
abbrev pub lots : (List Value → ℕ) → List ℕ → ℕ → ℕ → List (List Value) → List (List (List Value))
lots part_of by q zero rows = []
lots part_of by q (suc n) rows = filter (λ row. part_of (key_of by row) == q) rows ∷ lots part_of by (suc q) n rows

-- how many rows may be written in passes over some rows, if this number of groups is kept at once
abbrev pub cost : ℕ → Spec → List (List Value) → ℕ
cost budget spec rows = length rows * ((count_groups spec rows - 1) / budget)

-- and how many runs may be made
abbrev pub excess : ℕ → Spec → List (List Value) → ℕ
excess budget spec rows = count_groups spec rows - budget

-- 1 if there is a row
abbrev pub one_if_some : List (List Value) → ℕ
one_if_some [] = 0
one_if_some (row ∷ rows) = 1

-- partition fan-out at a depth
abbrev pub fan_out : ℕ → ℕ
fan_out depth = if nat_lt depth 4 then 16 else 1

-- the partition of a hash: at each of the depths 0 to 3 four bits of it, the highest first, and from depth 4 on one for all
abbrev pub partition_of : ℕ → ℕ → ℕ
partition_of depth hash = if nat_lt depth 4 then hash / 2 ^ (60 - 4 * depth) % 16 else 0

-- the partition of a key, by its hash
abbrev pub partition_by : (List ℕ → ℕ) → ℕ → List Value → ℕ
partition_by hash depth key = partition_of depth (hash (class_of key))
