-- The six functions of SHA-256 (FIPS 180-4, 4.1.2).
use Rattle.std.specs.Prelude.{ℕ, bit_and, bit_xor}
use Rattle.sha256.specs.Words.{complement, rotr, shr}

-- Ch(x, y, z)
abbrev pub ch : ℕ → ℕ → ℕ → ℕ
ch x y z = bit_xor (bit_and x y) (bit_and (complement x) z)

-- Maj(x, y, z)
unfoldable pub maj : ℕ → ℕ → ℕ → ℕ
maj x y z = bit_xor (bit_xor (bit_and x y) (bit_and x z)) (bit_and y z)

-- the exclusive or of three rotations
abbrev pub Σ : ℕ → ℕ → ℕ → ℕ → ℕ
Σ a b c x = bit_xor (bit_xor (rotr a x) (rotr b x)) (rotr c x)

-- the exclusive or of two rotations and a shift
abbrev pub σ : ℕ → ℕ → ℕ → ℕ → ℕ
σ a b n x = bit_xor (bit_xor (rotr a x) (rotr b x)) (shr n x)

-- Σ0(x)
abbrev pub Σ0 : ℕ → ℕ
Σ0 = Σ 2 13 22

-- Σ1(x)
abbrev pub Σ1 : ℕ → ℕ
Σ1 = Σ 6 11 25

-- σ0(x)
abbrev pub σ0 : ℕ → ℕ
σ0 = σ 7 18 3

-- σ1(x)
abbrev pub σ1 : ℕ → ℕ
σ1 = σ 17 19 10
