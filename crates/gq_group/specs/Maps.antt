-- Groups in the order in which their keys came: the keys in one list, and their running aggregates in another.
use Rattle.std.specs.Prelude.{◌≡◌, ◌+◌, ◌*◌, ◌≤◌, ◌⊎◌, ℕ, true, List, [], ◌∷◌, length, take, drop, map, Some, None, IsSome}
use Rattle.std.specs.FinMap.{get}
use Rattle.std.specs.List.{list_any, slice_get}
use Rattle.sw_index.specs.Index.{AreDifferent}
use Rattle.sw_index.specs.declared.found.Absence.{Absence}
use Rattle.sw_index.specs.declared.found.Found.{Found}
use Rattle.sw_index.specs.declared.found.Found.TheVariants.{At, Absent}
use Rattle.gq_row.specs.declared.value.Value.{Value}
use Rattle.gq_row.specs.Classes.{class_of}
use Rattle.gq_agg.specs.declared.kind.AggKind.{AggKind}
use Rattle.gq_agg.specs.Running.{Running}
use Rattle.gq_group.specs.Entries.{Pair, tallies, listed}
use Rattle.gq_group.specs.Groups.{answers, is_none}
use Rattle.gq_group.specs.KeptAggs.{kept_aggs}

-- what contracts see: each key with its running aggregates, the hasher, and how many aggregates a group has
pub record MapView (H : Type 0) : Type 0 where
  pub pairs : List Pair
  pub hasher : H
  pub each : ℕ

-- and of groups that leave a map: those that are still there, and what is asked of each
pub record Leaving : Type 0 where
  pub pairs : List Pair
  pub asked : List (AggKind × ℕ)

-- a key, and where its running aggregates begin
abbrev pub Start : Type 0
Start = List Value × ℕ

-- the part of a list that a group has, from a place on
abbrev pub chunk : {X : Type 0} → ℕ → List X → ℕ → List X
chunk each xs start = take each (drop start xs)

-- the running aggregates of a key
abbrev pub pair_at : ℕ → List Running → Start → Pair
pair_at each running s = (s.0, chunk each running s.1)

-- where the running aggregates of each key begin, the first at a place
abbrev pub starts_from : ℕ → ℕ → List (List Value) → List Start
starts_from each at [] = []
starts_from each at (key ∷ keys) = (key, at) ∷ starts_from each (at + each) keys

-- each key with its running aggregates, which are in the same order
abbrev pub pairs_from : ℕ → ℕ → List Running → List (List Value) → List Pair
pairs_from each at running keys = map (pair_at each running) (starts_from each at keys)

-- no two keys are the same, and each has its running aggregates
pub record AreKept (each : ℕ) (running : List Running) (keys : List (List Value)) : Type 0 where
  pub different : AreDifferent class_of keys
  pub whole : length running ≡ length keys * each

-- two groups share no place of the list
abbrev pub NoneShared : ℕ → ℕ → ℕ → Type 0
NoneShared each a b = (a + each ≤ b) ⊎ (b + each ≤ a)

-- a number that was found is that of the group of a class
abbrev pub IsGroup : List Pair → List ℕ → Found → Type 0
IsGroup pairs c (At number) = IsSome (slice_get pairs number) × (get (listed pairs) c ≡ slice_get pairs number)
IsGroup pairs c (Absent absence) = Unit {0}

-- no group is of the class, and the hash is its own
pub record HasNoGroup (hash : List ℕ → ℕ) (pairs : List Pair) (c : List ℕ) (absence : Absence) : Type 0 where
  pub absent : get (listed pairs) c ≡ None
  pub hashed : absence.hash ≡ hash c

-- what is said of a class that was not found
abbrev pub IsNoGroup : (List ℕ → ℕ) → List Pair → List ℕ → Found → Type 0
IsNoGroup hash pairs c (At number) = Unit {0}
IsNoGroup hash pairs c (Absent absence) = HasNoGroup hash pairs c absence

-- the first of the groups that were left was taken: its key, and the values of its aggregates
pub record Takes (key values : List Value) (old new : Leaving) : Type 0 where
  pub running : List Running
  pub first : old.pairs ≡ (key, running) ∷ new.pairs
  pub answered : (rows : List (List Value)) → running ≡ tallies (kept_aggs old.asked) rows → answers old.asked rows ≡ map Some values
  pub same_asked : new.asked ≡ old.asked

-- the first of the groups that were left has a sum that is out of range
pub record Overflows (old : Leaving) : Type 0 where
  pub pair : Pair
  pub rest : List Pair
  pub first : old.pairs ≡ pair ∷ rest
  pub refused : (rows : List (List Value)) → pair.1 ≡ tallies (kept_aggs old.asked) rows → list_any is_none (answers old.asked rows) ≡ true
