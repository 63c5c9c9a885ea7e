-- Numbers of slots, and of entries that they take.
use Rattle.std.specs.Prelude.{◌≡◌, ℕ, ◌*◌, ◌/◌, ◌^◌, ◌≤◌, ◌⊎◌, ◌==◌, if◌then◌else◌}

-- a capacity: 0, or sixteen times a power of two, at most 2^28
abbrev pub IsCapacity : ℕ → Type 0
IsCapacity n = (n ≡ 0) ⊎ ((k : ℕ) × (k ≤ 24) × (n ≡ 16 * 2 ^ k))

-- the next larger capacity
abbrev pub grown : ℕ → ℕ
grown n = if n == 0 then 16 else 2 * n

-- as many slots as before, or the next larger capacity
abbrev pub SameOrGrown : ℕ → ℕ → Type 0
SameOrGrown m n = (n ≡ m) ⊎ (n ≡ grown m)

-- the room of `n` slots: how many entries they take without growth, however many were removed before
abbrev pub room_of : ℕ → ℕ
room_of n = 25 * n / 32

-- the load of `n` slots: how many bytes may be full or deleted, fourteen in sixteen
abbrev pub load_of : ℕ → ℕ
load_of n = 14 * (n / 16)
