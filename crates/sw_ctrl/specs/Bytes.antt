-- What a control byte means.
use Rattle.std.specs.Prelude.{ℕ, ◌==◌, ◌||◌, IsTrue, Bool, nat_lt, if◌then◌else◌}
use Rattle.sw_ctrl.specs.declared.control.TheConstants.{EMPTY, DELETED}

-- the byte of an empty slot
abbrev pub is_empty : ℕ → Bool
is_empty b = b == EMPTY

-- the byte of a deleted slot
abbrev pub is_deleted : ℕ → Bool
is_deleted b = b == DELETED

-- the byte of a full slot: seven bits of a hash, with the top bit clear
abbrev pub is_full : ℕ → Bool
is_full b = nat_lt b 128

-- the byte of a slot in which an entry may be stored
abbrev pub is_free : ℕ → Bool
is_free b = is_empty b || is_deleted b

-- a control byte: full, empty or deleted
abbrev pub IsControl : ℕ → Type 0
IsControl b = IsTrue (is_full b || is_free b)

-- the byte at the start of a rehash in place: a full slot is still to be placed, and any other is empty
abbrev pub marked : ℕ → ℕ
marked b = if is_full b then DELETED else EMPTY
