-- Operations on 32-bit words (FIPS 180-4, 2.2.2 and 3.2).
use Rattle.std.specs.Prelude.{ℕ, ◌+◌, ◌-◌, ◌*◌, ◌/◌, ◌%◌, ◌^◌, ◌<◌, ◌≤◌, bit_or}

-- addition modulo 2^32
abbrev pub plus : ℕ → ℕ → ℕ
plus x y = (x + y) % 2 ^ 32

-- every bit turned over
abbrev pub complement : ℕ → ℕ
complement x = 2 ^ 32 - 1 - x

-- SHR^n(x)
abbrev pub shr : ℕ → ℕ → ℕ
shr n x = x / 2 ^ n

-- a word is rotated by 1 to 31 bits
abbrev pub IsRotation : ℕ → Type 0
IsRotation n = (1 ≤ n) × (n < 32)

-- ROTR^n(x), for such an n
abbrev pub rotr : ℕ → ℕ → ℕ
rotr n x = bit_or (x / 2 ^ n) ((x * 2 ^ (32 - n)) % 2 ^ 32)
