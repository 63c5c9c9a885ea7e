-- The probe sequence.
use Rattle.std.specs.Prelude.{◌≡◌, ◌≢◌, ℕ, ◌+◌, ◌*◌, ◌/◌, ◌%◌, ◌^◌, ◌<◌}

-- the part of a hash that selects the first group
abbrev pub h1_of : ℕ → ℕ
h1_of hash = hash / 128

-- the part of a hash that is in the control byte: seven bits
abbrev pub h2_of : ℕ → ℕ
h2_of hash = hash % 128

-- a number of groups: a power of two, at most 2^24, as these are the numbers that divide 2^24
abbrev pub IsGroupCount : ℕ → Type 0
IsGroupCount groups = 2 ^ 24 % groups ≡ 0

-- the i-th triangular number: 0, 1, 3, 6, 10, ..
unfoldable pub triangle : ℕ → ℕ
triangle i = i * (i + 1) / 2

-- the group at step `i` of a probe sequence
unfoldable pub group_number : ℕ → ℕ → ℕ → ℕ
group_number start groups i = (start + triangle i) % groups

-- a probe at its step `index`
pub record Walk : Type 0 where
  pub start : ℕ
  pub groups : ℕ
  pub index : ℕ

-- the group of a probe at its step
abbrev pub group_of : Walk → ℕ
group_of w = group_number w.start w.groups w.index

-- a probe at its next step
abbrev pub moved : Walk → Walk
moved w = record w { index = w.index + 1 }

-- distinct steps of a probe sequence have distinct groups
abbrev pub VisitsOnce : ℕ → ℕ → Type 0
VisitsOnce start groups = (i j : ℕ) → i < groups → j < groups → i ≢ j → group_number start groups i ≢ group_number start groups j

-- each group is that of some step of a probe sequence
abbrev pub VisitsAll : ℕ → ℕ → Type 0
VisitsAll start groups = (group : ℕ) → group < groups → (i : ℕ) × (i < groups) × (group_number start groups i ≡ group)
