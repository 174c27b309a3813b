-- Padding and parsing of a message of bytes (FIPS 180-4, 5.1.1 and 5.2.1).
use Rattle.std.specs.Prelude.{ℕ, ◌-◌, ◌*◌, ◌/◌, ◌%◌, ◌^◌, List, [], ◌∷◌, ◌++◌, length, take, drop, replicate}

-- a 64-bit number's bytes, the most significant first
abbrev pub bytes8 : ℕ → List ℕ
bytes8 n =
    (n / 2 ^ 56 % 256) ∷ (n / 2 ^ 48 % 256) ∷ (n / 2 ^ 40 % 256) ∷ (n / 2 ^ 32 % 256) ∷
    (n / 2 ^ 24 % 256) ∷ (n / 2 ^ 16 % 256) ∷ (n / 2 ^ 8 % 256) ∷ (n % 256) ∷ []

-- how many zero bytes come after the byte 0x80: total + 1 + zeros is 56 modulo 64
abbrev pub zeros : ℕ → ℕ
zeros total = (119 - total % 64) % 64

abbrev pub nulls : ℕ → List ℕ
nulls n = replicate n 0

-- the bit 1, z zero bytes, and the length in bits
unfoldable pub padding : ℕ → ℕ → List ℕ
padding z bits = 0x80 ∷ (nulls z ++ bytes8 bits)

-- what is put behind a message of `total` bytes; its length in bits is taken modulo 2^64
abbrev pub suffix : ℕ → List ℕ
suffix total = padding (zeros total) (8 * total % 2 ^ 64)

abbrev pub padded : List ℕ → List ℕ
padded m = m ++ suffix (length m)

-- how many whole blocks of 64 bytes there are in m
abbrev pub blocks : List ℕ → ℕ
blocks m = length m / 64

-- block i of m
abbrev pub block : List ℕ → ℕ → List ℕ
block m i = take 64 (drop (64 * i) m)
