-- What a map has for a class of keys, and how calls change it.
use Rattle.std.specs.Prelude.{◌≡◌, ℕ, not, if◌then◌else◌, List, map, length, Option}
use Rattle.std.specs.Option.{option_map, option_map_or}
use Rattle.std.specs.FinMap.{get, insert, len, contains_key, retain_keys, from_entries}
use Rattle.sw_table.specs.Entries.{Entries}
pub use Rattle.sw_table.specs.Walks.{filled}

module _ {K V : Type 0} where
  -- the value of a class, if it has an entry
  abbrev pub value_at : Entries K V → List ℕ → Option V
  value_at m c = option_map (λ p. p.1) (get m c)

  -- the stored key of a class, or `k` if there is none
  abbrev pub stored_key : Entries K V → List ℕ → K → K
  stored_key m c k = option_map_or (λ p. p.0) (get m c) k

  -- the map with an entry inserted if its class has none
  abbrev pub added : Entries K V → List ℕ → K × V → Entries K V
  added m c p = if contains_key m c then m else insert m c p

  -- the map with the value `w` assigned to a class; the stored key stays
  abbrev pub assigned : Entries K V → List ℕ → V → Entries K V
  assigned m c w = option_map_or (λ p. insert m c (p.0, w)) (get m c) m

  -- the entries of `n` whose classes `m` lacks
  abbrev pub lacked : Entries K V → Entries K V → Entries K V
  lacked m n = retain_keys n (λ c. not (contains_key m c))

  -- the entries of `n` whose classes `m` has
  abbrev pub shared : Entries K V → Entries K V → Entries K V
  shared m n = retain_keys n (λ c. contains_key m c)

  -- a list has each entry of a map once, and no other
  pub record ListsAll (class : K → List ℕ) (items : List (K × V)) (m : Entries K V) : Type 0 where
    pub all : from_entries (map (λ p. (class p.0, p)) items) ≡ m
    pub once : length items ≡ len m
