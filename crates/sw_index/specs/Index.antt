-- Distinct keys in insertion order, and the table of their numbers.
use Rattle.std.specs.Prelude.{◌≡◌, ℕ, suc, Bool, if◌then◌else◌, List, [], ◌∷◌, Option, Some, None}
use Rattle.std.specs.Option.{option_map, option_map_or}
use Rattle.std.specs.List.{slice_get}
use Rattle.std.specs.Int.{bytes_high_first}
use Rattle.std.specs.Ordering.{nat_cmp, eq_by_cmp}
use Rattle.std.specs.Cmp.Lexicographic.{slice_cmp}
use Rattle.std.specs.FinMap.{get}
use Rattle.sw_table.specs.Entries.{Entries, entries}
use Rattle.sw_index.specs.declared.found.Absence.{Absence}
use Rattle.sw_index.specs.declared.found.Found.{Found}
use Rattle.sw_index.specs.declared.found.Found.TheVariants.{At, Absent}
use Rattle.sw_index.specs.declared.numbered.Numbered.{Numbered}
use Rattle.sw_index.specs.declared.numbers.Numbers.{Numbers}

-- what contracts see of an index: the keys in insertion order, and the hasher
pub record IndexView (K H : Type 0) : Type 0 where
  pub keys : List K
  pub hasher : H

module _ {K : Type 0} where
  -- no two keys are of one class
  abbrev pub AreDifferent : (K → List ℕ) → List K → Type 0
  AreDifferent class keys = (i j : ℕ) (k l : K) → slice_get keys i ≡ Some k → slice_get keys j ≡ Some l → class k ≡ class l → i ≡ j

  -- no key is of a class
  abbrev pub HasNone : (K → List ℕ) → List K → List ℕ → Type 0
  HasNone class keys c = (i : ℕ) (k : K) → slice_get keys i ≡ Some k → class k ≡ c → ⊥

  -- if a number was found, the key with that number is of the class
  abbrev pub IsFound : (K → List ℕ) → List K → List ℕ → Found → Type 0
  IsFound class keys c (At number) = (key : K) × (slice_get keys number ≡ Some key) × (class key ≡ c)
  IsFound class keys c (Absent absence) = Unit {0}

  -- an absence: no key is of the class, and the hash is the class's
  pub record IsAbsence (class : K → List ℕ) (hash : List ℕ → ℕ) (keys : List K) (c : List ℕ) (absence : Absence) : Type 0 where
    pub none : HasNone class keys c
    pub hashed : absence.hash ≡ hash c

  -- if no number was found, it is an absence of the class
  abbrev pub IsAbsent : (K → List ℕ) → (List ℕ → ℕ) → List K → List ℕ → Found → Type 0
  IsAbsent class hash keys c (At number) = Unit {0}
  IsAbsent class hash keys c (Absent absence) = IsAbsence class hash keys c absence

-- ---- the table of numbers

-- the class of a number in the table: the hash of its key, and itself
abbrev pub class_of_number : Numbered → List ℕ
class_of_number n = n.hash ∷ n.number ∷ []

-- the numbers that a table has
abbrev pub numbers_of : Numbers → Entries Numbered (Unit {0})
numbers_of n = entries class_of_number n.table

-- the bytes that are hashed of a number: those of its key's hash, big-endian
abbrev pub hash_bytes : List ℕ → List ℕ
hash_bytes [] = []
hash_bytes (hash ∷ rest) = bytes_high_first 8 hash

-- the word that is hashed of a number: its key's hash
abbrev pub hash_word : List ℕ → List ℕ
hash_word [] = []
hash_word (hash ∷ rest) = hash ∷ []

-- the number of the first key that passes a test
abbrev pub number_in : {K : Type 0} → (K → Bool) → List K → Option ℕ
number_in test [] = None
number_in test (key ∷ keys) = if test key then Some 0 else option_map suc (number_in test keys)

-- a key is of a class
abbrev pub is_of : {K : Type 0} → (K → List ℕ) → List ℕ → K → Bool
is_of class c key = eq_by_cmp (slice_cmp nat_cmp) (class key) c

-- the class of the number that a class of keys has: its hash and that number, or the hash alone if no key is of
-- it
abbrev pub named_number : {K : Type 0} → (K → List ℕ) → ℕ → List ℕ → List K → List ℕ
named_number class hash c keys = hash ∷ option_map_or (λ number. number ∷ []) (number_in (is_of class c) keys) []

-- the table has the number of each key with the key's hash, and no other, and no two keys are of one class
pub record IsIndexed {K : Type 0} (class : K → List ℕ) (hash : List ℕ → ℕ) (keys : List K) (numbers : Entries Numbered (Unit {0})) : Type 0 where
  pub different : AreDifferent class keys
  pub each : (i : ℕ) (k : K) → slice_get keys i ≡ Some k → get numbers (hash (class k) ∷ i ∷ []) ≡ Some (record { hash = hash (class k); number = i }, tt)
  pub only : (c : List ℕ) (n : Numbered) (u : Unit {0}) → get numbers c ≡ Some (n, u) → (c ≡ class_of_number n) × ((k : K) × (slice_get keys n.number ≡ Some k) × (n.hash ≡ hash (class k)))
