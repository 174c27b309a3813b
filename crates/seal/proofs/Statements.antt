-- How long a statement is.
use Rattle.std.proofs.Common.{◌≡◌, length, refl}
use Rattle.sha256.specs.Text.{bytes32}
use Rattle.seal.specs.declared.statement.Statement.{Statement}
use Rattle.seal.specs.Statements.{statement_length, laid_out, statement_bytes}

pub statement_bytes_length : (x : Statement) → length (statement_bytes x) ≡ statement_length
unfolding laid_out bytes32
statement_bytes_length x = refl
