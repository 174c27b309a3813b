-- Memory whose front was written.
use Rattle.std.specs.Prelude.{◌≡◌, ℕ, ◌≤◌, List, ◌++◌, length, drop}
use Rattle.std.proofs.Common.{arith}
use Rattle.std.proofs.lemmas.List.{length-append, length-drop}

pub front_long : (bytes m : List ℕ) (n : ℕ) → length bytes ≡ n → n ≤ length m → length (bytes ++ drop n m) ≡ length m
front_long bytes m n e h = let rest = length-drop n m in let all = length-append bytes (drop n m) in omega arith
