-- What the laws give to agreement and to progress, for every rule that keeps them.
use Rattle.std.specs.Prelude.{◌≡◌, ℕ, ◌<◌, ◌≤◌, true, bit_and, count_ones}
use Rattle.bits.specs.Bits.{has}
use Rattle.witness.specs.Rules.{Ruling, Lawful}
use Rattle.witness.specs.Sets.{Within, missing}

-- at most t of the houses are not in the set of honest ones
abbrev pub Trusted : Ruling → ℕ → Type 0
Trusted r honest = count_ones (missing r.houses honest) ≤ r.faults

-- a house that is honest, named, and a member of both sets
pub record Common (r : Ruling) (j k honest a b : ℕ) : Type 0 where
  pub house : ℕ
  pub is_house : house < r.houses
  pub is_honest : has honest house ≡ 1
  pub is_named : has (r.named j k) house ≡ 1
  pub in_first : has a house ≡ 1
  pub in_second : has b house ≡ 1

-- any two accepted sets have an honest named house in common
abbrev pub HonestInCommon : Type 0
HonestInCommon =
    (r : Ruling) → Lawful r → (j k honest a b : ℕ) → Trusted r honest
    → r.accepts j k a ≡ true → r.accepts j k b ≡ true → Common r j k honest a b

-- a set that holds every honest named house is accepted
abbrev pub HonestSuffice : Type 0
HonestSuffice =
    (r : Ruling) → Lawful r → (j k honest s : ℕ) → Trusted r honest
    → j < r.houses → 0 < k → Within (bit_and honest (r.named j k)) s → r.accepts j k s ≡ true
