-- The rule All: every house is a witness.
use Rattle.std.specs.Prelude.{ℕ, ◌+◌, ◌/◌}
use Rattle.witness.specs.Rules.{Ruling}
use Rattle.witness.specs.Sets.{full}
use Rattle.witness.specs.Sized.{counted}

-- the rule's mark
abbrev pub all_mark : ℕ
all_mark = 1

-- half of a number, rounded up
abbrev pub half_up : ℕ → ℕ
half_up x = (x + 1) / 2

-- the least number of houses that are accepted: (n + t + 1) / 2, rounded up
abbrev pub all_need : ℕ → ℕ → ℕ
all_need n t = half_up (n + t + 1)

-- the rule All of n houses of which t may misbehave
abbrev pub all_ruling : ℕ → ℕ → Ruling
all_ruling n t = counted n t all_mark (λ _ _. full n) (all_need n t)
