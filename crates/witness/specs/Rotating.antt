-- The rule Rotating: 3t + 1 witnesses, one after the other around the circle of houses.
use Rattle.std.specs.Prelude.{ℕ, zero, suc, ◌+◌, ◌*◌, ◌%◌, ◌^◌, bit_or}
use Rattle.witness.specs.Rules.{Ruling}
use Rattle.witness.specs.Sized.{counted}

-- the rule's mark
abbrev pub rotating_mark : ℕ
rotating_mark = 2

-- the houses (first + r) mod n for each r below a count
unfoldable pub circle : ℕ → ℕ → ℕ → ℕ
circle n first zero = zero
circle n first (suc r) = bit_or (circle n first r) (2 ^ ((first + r) % n))

-- the least number of named houses that are accepted: 2t + 1
abbrev pub rotating_need : ℕ → ℕ
rotating_need t = 2 * t + 1

-- the rule Rotating of n houses of which t may misbehave: for house j and number k it names (j + k + r) mod n for r from 0 to 3t
abbrev pub rotating_ruling : ℕ → ℕ → Ruling
rotating_ruling n t = counted n t rotating_mark (λ j k. circle n (j + k) (3 * t + 1)) (rotating_need t)
