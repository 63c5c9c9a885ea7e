-- How far the keys of groups tie, and what follows.
use Rattle.std.specs.Prelude.{◌≡◌, ◌<◌, ◌≤◌, ℕ, suc, List, [], ◌∷◌, All, drop, length, map}
use Rattle.std.specs.Cmp.Lexicographic.{slice_cmp}
use Rattle.gq_row.specs.declared.value.Value.{Value}
use Rattle.gq_row.specs.Order.{folded_order}
use Rattle.gq_row.specs.Rows.{cell}
use Rattle.gq_query.specs.declared.sort_prefix.SortPrefix.{SortPrefix}
use Rattle.gq_query.specs.declared.group_list.GroupSpan.{GroupSpan}
use Rattle.gq_query.specs.declared.tie_sort.Tie.{Tie}
use Rattle.gq_query.specs.GroupSpans.{key_at}
use Rattle.gq_query.specs.SortPrefixes.{IsPairPrefix, past, without_bytes}

-- values, the first of them without the first `n` bytes of its text
abbrev pub first_without : ℕ → List Value → List Value
first_without n [] = []
first_without n (value ∷ values) = without_bytes n value ∷ values

-- the part of a key after the first `place` cells and the first `skip` bytes of the next
abbrev pub rest : ℕ → ℕ → List Value → List Value
rest place skip key = first_without skip (drop place key)

-- two keys tie up to there: the order of their folds is that of the rests
abbrev pub TieUpTo : ℕ → ℕ → List Value → List Value → Type 0
TieUpTo place skip a b = slice_cmp folded_order a b ≡ slice_cmp folded_order (rest place skip a) (rest place skip b)

-- keys tie as far as a tie says, each two of them, and none is shorter than its width
pub record KeysTie (tie : Tie) (keys : List (List Value)) : Type 0 where
  pub wide : All (λ key. tie.width ≤ length key) keys
  pub ties : All (λ a. All (TieUpTo tie.cell tie.skip a) keys) keys

-- the keys of groups tie as far as a tie says
abbrev pub AreTied : List Value → Tie → List GroupSpan → Type 0
AreTied cells tie groups = KeysTie tie (map (key_at cells) groups)

-- a group has the prefix of the rest of its key
abbrev pub HasRestPrefix : List Value → Tie → GroupSpan → Type 0
HasRestPrefix cells tie group = IsPairPrefix (without_bytes tie.skip (cell (key_at cells group) tie.cell)) (cell (key_at cells group) (suc tie.cell)) group.prefix

-- how far those tie that also have this prefix
pub record GoesOn (tie : Tie) (prefix : SortPrefix) (next : Tie) : Type 0 where
  pub some : next.cell < next.width
  pub wide : next.width ≡ tie.width
  pub deeper : next.depth < tie.depth
  pub further : (next.cell, next.skip) ≡ past prefix (tie.cell, tie.skip)
