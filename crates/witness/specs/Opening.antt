-- With which numbers of houses and faults a rule can be opened.
use Rattle.std.specs.Prelude.{ℕ, ◌+◌, ◌*◌, cond, ◌&&◌, Ok, Err, Result, nat_le}
use Rattle.refusal.specs.declared.Refusal.{Refusal}
use Rattle.refusal.specs.declared.Refusal.TheVariants.{HouseCount, TooManyFaults}
use Rattle.witness.specs.Rules.{most_houses}

-- whether n houses of which t may misbehave are within bounds: first that n is from 1 to 16, then that 3t + 1 ≤ n
abbrev pub opened : ℕ → ℕ → Result (Unit {0}) Refusal
opened n t =
    cond (nat_le 1 n && nat_le n most_houses) (cond (nat_le (3 * t + 1) n) (Ok tt) (Err TooManyFaults)) (Err HouseCount)
