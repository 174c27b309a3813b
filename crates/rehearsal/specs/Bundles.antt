-- The bundle of all receipts that the register has for a statement.
use Rattle.std.specs.Prelude.{ℕ, zero, suc, ◌+◌, cond, List, length, Some, None, Ok, Err, Option, Result}
use Rattle.refusal.specs.declared.Refusal.{Refusal}
use Rattle.refusal.specs.declared.Refused.{Refused}
use Rattle.sha256.specs.declared.value.Digest.{Digest}
use Rattle.witness.specs.Rules.{Ruling}
use Rattle.seal.specs.declared.entry.Entry.{Entry}
use Rattle.seal.specs.declared.register.Register.{Register}
use Rattle.seal.specs.declared.statement.Statement.{Statement}
use Rattle.seal.specs.Registers.{register, row_at, used}
use Rattle.seal.specs.Rows.{same_statement, row_bytes}
use Rattle.exchange.specs.declared.gathering.Gathering.{Gathering}
use Rattle.exchange.specs.Machine.{go_on, statement_of, start_answer, add_answer, add_gathering, add_memory, close_answer, issue_answer, issue_memory}

-- what an add leaves, where it is taken
abbrev pub added : Result (Unit {0}) Refused → Gathering → List ℕ → Result (Gathering × List ℕ) Refused
added (Ok x) g m = Ok (g, m)
added (Err e) g m = Err e

-- row i: where it holds the statement its receipt is added, its seal the row's number
abbrev pub row_step : Ruling → Register → Statement → ℕ → Option Entry → Gathering → List ℕ → Result (Gathering × List ℕ) Refused
row_step r q x i None g m = Ok (g, m)
row_step r q x i (Some e) g m =
    cond (same_statement e.statement x)
    (added (add_answer r register q g e.house (row_bytes i) (length m)) (add_gathering r register q g e.house (row_bytes i) (length m)) (add_memory r register q g e.house (row_bytes i) m))
    (Ok (g, m))

-- n rows from row i on, in their order
unfoldable pub rows_from : Ruling → Register → Statement → ℕ → ℕ → Gathering → List ℕ → Result (Gathering × List ℕ) Refused
rows_from r q x zero i g m = Ok (g, m)
rows_from r q x (suc n) i g m =
    go_on (row_step r q x i (row_at q i) g m) (λ y. rows_from r q x n (i + 1) y.0 y.1)

-- a refusal without its place
abbrev pub untold : {A : Type 0} → Result A Refused → Result A Refusal
untold (Ok x) = Ok x
untold (Err e) = Err e.refusal

-- a refusal without its place and without what it hands back
abbrev pub kept : {A B : Type 0} → Result A (Refused × B) → Result A Refusal
kept (Ok x) = Ok x
kept (Err e) = Err e.0.refusal

-- start, the receipts of all rows, close and issue: the bundle's length, and the memory that it begins
abbrev pub bundle_of : Ruling → Register → ℕ → ℕ → Digest → List ℕ → Result (ℕ × List ℕ) Refusal
bundle_of r q j k d m =
    go_on (untold (start_answer r j k d))
    (λ g. go_on (untold (rows_from r q (statement_of r j k d) (used q) 0 g m))
    (λ y. go_on (kept (close_answer r y.0))
    (λ c. go_on (kept (issue_answer register c (length y.1)))
    (λ n. Ok (n, issue_memory r register c y.1)))))
