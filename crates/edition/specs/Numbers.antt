-- Edition numbers: their bound and their bytes, the one place that knows their width.
use Rattle.std.specs.Prelude.{ℕ, ◌+◌, ◌-◌, ◌*◌, ◌/◌, ◌%◌, ◌^◌, List, [], ◌∷◌}

-- the last number that an edition can have: 65,535
abbrev pub last_number : ℕ
last_number = 2 ^ 16 - 1

-- a number's bytes, the most significant first
abbrev pub number_bytes : ℕ → List ℕ
number_bytes k = (k / 256) ∷ (k % 256) ∷ []

-- the number that two bytes stand for
abbrev pub number_from : ℕ → ℕ → ℕ
number_from high low = high * 256 + low
