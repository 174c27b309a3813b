-- The hash of a message (FIPS 180-4, 6.2.2).
use Rattle.std.specs.Prelude.{ℕ, zero, suc, ◌+◌, ◌*◌, ◌^◌, List, [], ◌∷◌, ◌++◌, length}
use Rattle.sha256.specs.declared.state.State.{State}
use Rattle.sha256.specs.Constants.{initial}
use Rattle.sha256.specs.Compression.{compressed}
use Rattle.sha256.specs.Padding.{padded, suffix, blocks, block}

-- the hash value after the first n blocks of m, from s on
unfoldable pub hashed : ℕ → State → List ℕ → State
hashed zero s m = s
hashed (suc n) s m = compressed (hashed n s m) (block m n)

-- the hash value after all whole blocks of m, from s on
abbrev pub folded : State → List ℕ → State
folded s m = hashed (blocks m) s m

-- SHA-256 of a message of bytes, as eight words
unfoldable pub sha256 : List ℕ → State
sha256 m = folded initial (padded m)

-- the same for a message of which `before` blocks are hashed already, into s, and m is the rest
unfoldable pub resumed : State → ℕ → List ℕ → State
resumed s before m = folded s (m ++ suffix (64 * before + length m))

-- the eight words in pairs, the first of a pair the more significant
abbrev pub paired : State → List ℕ
paired s =
    (s.a * 2 ^ 32 + s.b) ∷ (s.c * 2 ^ 32 + s.d) ∷ (s.e * 2 ^ 32 + s.f) ∷ (s.g * 2 ^ 32 + s.h) ∷ []
