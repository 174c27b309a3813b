-- Stamps of statements that begin with the stamp before.
use Rattle.std.specs.Prelude.{ℕ, zero, suc, cond, List, ◌++◌, length, drop, nat_le}
use Rattle.sha256.specs.Padding.{nulls}
use Rattle.sha256.specs.Text.{digest_bytes}
use Rattle.hmac.specs.Hmac.{hmac_of_block}
use Rattle.hmac.specs.Key.{key_block}
use Rattle.seal.specs.Statements.{statement_length}

-- the statement after n stamps, each written over its front
unfoldable pub chained : ℕ → List ℕ → List ℕ → List ℕ
chained zero block m = m
chained (suc n) block m = digest_bytes (hmac_of_block block (chained n block m)) ++ drop 32 (chained n block m)

-- the statement before the first stamp
abbrev pub first : List ℕ
first = nulls statement_length

-- the last statement at the memory's front, where there is room for it
abbrev pub chain_memory : List ℕ → ℕ → List ℕ → List ℕ
chain_memory key turns m = cond (nat_le statement_length (length m)) (chained turns (key_block key) first ++ drop statement_length m) m
