-- A digest's bytes, and the text that is printed of it.
use Rattle.std.specs.Prelude.{ℕ, ◌+◌, ◌/◌, ◌%◌, cond, List, [], ◌∷◌, ◌++◌, nat_lt, slice_index}
use Rattle.sha256.specs.declared.value.Digest.{Digest}
use Rattle.sha256.specs.Padding.{bytes8}
use Rattle.sha256.specs.Hash.{sha256, paired}

-- the SHA-256 of a message, as a digest
abbrev pub digest_of : List ℕ → Digest
digest_of m = record { words = paired (sha256 m) }

-- the bytes of four words in turn
unfoldable pub bytes32 : ℕ → ℕ → ℕ → ℕ → List ℕ
bytes32 a b c d = bytes8 a ++ bytes8 b ++ bytes8 c ++ bytes8 d

-- a digest's 32 bytes, each word's most significant first
abbrev pub digest_bytes : Digest → List ℕ
digest_bytes d = bytes32 (slice_index d.words 0) (slice_index d.words 1) (slice_index d.words 2) (slice_index d.words 3)

-- the ASCII code of a hexadecimal digit, in lower case
abbrev pub hex_digit : ℕ → ℕ
hex_digit n = cond (nat_lt n 10) (48 + n) (87 + n)

-- two digits for each byte
unfoldable pub hex : List ℕ → List ℕ
hex [] = []
hex (b ∷ bs) = hex_digit (b / 16) ∷ hex_digit (b % 16) ∷ hex bs

abbrev pub digest_text : Digest → List ℕ
digest_text d = hex (digest_bytes d)
