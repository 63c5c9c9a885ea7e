-- Which grant deallocates which block.
use Rattle.std.specs.Prelude.{◌≡◌, ℕ}
use Rattle.sw_slots.specs.declared.block.Block.{Block}
use Rattle.sw_slots.specs.declared.block.Grant.{Grant}

-- a grant deallocates the `n` places of a block by an allocator
abbrev pub IsGrantOf : {X A : Type 0} → Grant X A → Block X → A → ℕ → Type 0
IsGrantOf g b a n = (g.start ≡ b.start) × (g.len ≡ n) × (g.alloc ≡ a)
