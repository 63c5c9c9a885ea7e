-- Which of the first bytes of a text are special.
use Rattle.std.specs.Prelude.{◌≡◌, ℕ, ◌+◌, ◌-◌, ◌≤◌, ◌<◌, false, List, ◌++◌, length, map, take, drop, replicate}
use Rattle.std.specs.List.{position_or_len}
use Rattle.std.specs.Simd.Lanes.{mask_l}
use Rattle.gq_csv.specs.declared.placed_mask.PlacedMask.{PlacedMask}
use Rattle.gq_csv.specs.declared.special_mask.SpecialMask.{SpecialMask}
use Rattle.gq_csv.specs.Bytes.{is_special}

-- the mask covers some of a text's first bytes, and bit i is set if byte i is special
pub record Covers (text : List ℕ) (mask : SpecialMask) : Type 0 where
  pub within : mask.len ≤ length text
  pub few : mask.len ≤ 64
  pub bits : mask.bits ≡ mask_l (map is_special (take mask.len text))

-- a mask that covers bytes of some text
abbrev pub IsMask : SpecialMask → Type 0
IsMask mask = (text : List ℕ) × Covers text mask

-- from a position on, a mask marks which bytes of a text are special, up to its limit; all bytes before are passed
pub record Marks (text : List ℕ) (from : ℕ) (mask : PlacedMask) : Type 0 where
  pub begun : mask.base ≤ from
  pub ahead : from ≤ mask.limit
  pub within : mask.limit ≤ length text
  pub few : mask.limit ≤ mask.base + 64
  pub bits : mask.bits ≡ mask_l (replicate (from - mask.base) false ++ map is_special (take (mask.limit - from) (drop from text)))

-- a mask that marks bytes of some text from a position on
abbrev pub IsPlaced : ℕ → PlacedMask → Type 0
IsPlaced from mask = (text : List ℕ) × Marks text from mask

-- the mask marks the first special byte from a position on
pub record HasNext (text : List ℕ) (from : ℕ) (mask : PlacedMask) : Type 0 where
  pub at : ℕ
  pub some : 0 < mask.bits
  pub marks : Marks text at mask
  pub same : at + position_or_len is_special (drop at text) ≡ from + position_or_len is_special (drop from text)

-- the first special byte from a position on is this one, and it is passed
pub record Passes (text : List ℕ) (from first : ℕ) (mask : PlacedMask) : Type 0 where
  pub within : first < length text
  pub found : first ≡ from + position_or_len is_special (drop from text)
  pub marks : Marks text (first + 1) mask
