-- Column names without repetitions.
use Rattle.std.specs.Prelude.{ℕ, ◌+◌, Bool, not, List, [], ◌∷◌, ◌++◌, length, map, fold, find, codes, decimal, bytes_eq, unwrap_or, if◌then◌else◌}
use Rattle.std.specs.List.{list_any, range_with_len}

abbrev pub is_taken : List (List ℕ) → List ℕ → Bool
is_taken taken name = list_any (bytes_eq name) taken

abbrev pub numbered : List ℕ → ℕ → List ℕ
numbered name n = name ++ codes "_" ++ decimal n

-- the first of name_2, name_3 and so on that isn't taken; one more of them is tried than names are taken
abbrev pub free_name : List (List ℕ) → List ℕ → List ℕ
free_name taken name = unwrap_or (find (λ own. not (is_taken taken own)) (map (numbered name) (range_with_len 2 (length taken + 1)))) name

-- the name of a column, given those before it: its own, or one that neither the header nor a column before it has
abbrev pub own_name : List (List ℕ) → List (List ℕ) → List ℕ → List ℕ
own_name header given name = if is_taken given name then free_name (header ++ given) name else name

abbrev pub distinct_names : List (List ℕ) → List (List ℕ)
distinct_names header = fold (λ given name. given ++ own_name header given name ∷ []) [] header
