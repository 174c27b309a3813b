-- What a test of entries tells of a row.
use Rattle.std.proofs.Common.{◌≡◌, ℕ, Bool, ◌&&◌, Some, None, Option, ◌==◌, refl}
use Rattle.std.specs.Option.{option_eq}
use Rattle.seal.specs.declared.entry.Entry.{Entry}
use Rattle.seal.specs.declared.statement.Statement.{Statement}
use Rattle.seal.specs.Rows.{entry, same_statement, holds}

pub row_is : (same : Entry → Entry → Bool) (i : ℕ) (x : Statement)
    → ((e : Entry) → same e (entry i x) ≡ (e.house == i && same_statement e.statement x)) → (row : Option Entry) → option_eq same row (Some (entry i x)) ≡ holds row i x
row_is same i x tells None = refl
row_is same i x tells (Some e) = tells e
