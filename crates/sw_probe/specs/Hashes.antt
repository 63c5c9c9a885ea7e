-- The hashes of bytes.
use Rattle.std.specs.Prelude.{ℕ, List, ◌+◌, ◌*◌, ◌%◌, ◌^◌, min, bit_xor, fold}

-- one step of an FNV-1a hash of 64 bits: xor a byte, then multiply by the prime
abbrev pub fnv_step : ℕ → ℕ → ℕ
fnv_step acc byte = bit_xor acc byte * 0x100000001b3 % 2 ^ 64

-- the FNV-1a hash of bytes, with a seed
abbrev pub fnv_of : ℕ → List ℕ → ℕ
fnv_of seed bytes = fold fnv_step (bit_xor 0xcbf29ce484222325 seed) bytes

-- the lowest bits of FNV-1a with seed 0, at most all 64
abbrev pub low_bits_of : ℕ → List ℕ → ℕ
low_bits_of bits bytes = fnv_of 0 bytes % 2 ^ min bits 64

-- a number of 64 bits with one more byte, big-endian
abbrev pub read_step : ℕ → ℕ → ℕ
read_step acc byte = (acc * 256 % 2 ^ 64 + byte) % 2 ^ 64

-- the number of 64 bits that bytes spell, big-endian
abbrev pub number_of : List ℕ → ℕ
number_of bytes = fold read_step 0 bytes
