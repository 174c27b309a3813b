-- A statement's bytes.
use Rattle.std.specs.Prelude.{ℕ, List, ◌∷◌, ◌++◌}
use Rattle.edition.specs.Numbers.{number_bytes}
use Rattle.sha256.specs.declared.value.Digest.{Digest}
use Rattle.sha256.specs.Text.{digest_bytes}
use Rattle.seal.specs.declared.statement.Statement.{Statement}

-- how many bytes a statement has
abbrev pub statement_length : ℕ
statement_length = 36

-- a mark, a house, a number and a digest, each with the most significant byte first
unfoldable pub laid_out : ℕ → ℕ → ℕ → Digest → List ℕ
laid_out mark house number digest = mark ∷ house ∷ (number_bytes number ++ digest_bytes digest)

abbrev pub statement_bytes : Statement → List ℕ
statement_bytes x = laid_out x.mark x.house x.number x.digest
