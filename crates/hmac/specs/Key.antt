-- The key as HMAC uses it (FIPS 198-1, 4: steps 1 to 4 and 7).
use Rattle.std.specs.Prelude.{ℕ, ◌-◌, cond, List, [], ◌∷◌, ◌++◌, length, bit_xor, nat_lt}
use Rattle.sha256.specs.Padding.{nulls}
use Rattle.sha256.specs.Text.{digest_of, digest_bytes}

-- B: the size of SHA-256's blocks in bytes
abbrev pub block_size : ℕ
block_size = 64

-- zero bytes up to the size of a block
abbrev pub extended : List ℕ → List ℕ
extended key = key ++ nulls (block_size - length key)

-- K0: a key that is longer than a block is hashed first, and then there are zero bytes up to a block
unfoldable pub key_block : List ℕ → List ℕ
key_block key = cond (nat_lt block_size (length key)) (extended (digest_bytes (digest_of key))) (extended key)

-- the byte that ipad repeats
abbrev pub ipad : ℕ
ipad = 0x36

-- the byte that opad repeats
abbrev pub opad : ℕ
opad = 0x5c

-- K0 ⊕ ipad or K0 ⊕ opad: each byte xor the byte that the pad repeats
unfoldable pub masked : ℕ → List ℕ → List ℕ
masked pad [] = []
masked pad (b ∷ bs) = bit_xor b pad ∷ masked pad bs
