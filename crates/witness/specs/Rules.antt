-- What a witness rule means, and the laws that it keeps.
use Rattle.std.specs.Prelude.{◌≡◌, ℕ, ◌+◌, ◌*◌, ◌<◌, ◌≤◌, Bool, true, bit_and, bit_or, count_ones}
use Rattle.bits.specs.Bits.{has}
use Rattle.witness.specs.Sets.{missing}

-- the most houses that there can be: a set of houses has 16 bits
abbrev pub most_houses : ℕ
most_houses = 16

-- the meaning of a witness rule
pub record Ruling : Type 0 where
  -- how many houses there are: n, numbered from 0
  pub houses : ℕ
  -- how many of them may misbehave: t
  pub faults : ℕ
  -- the byte by which statements name the rule
  pub mark : ℕ
  -- the set of houses that are named as witnesses, for a house and a number
  pub named : ℕ → ℕ → ℕ
  -- whether a set of houses is accepted, for a house and a number
  pub accepts : ℕ → ℕ → ℕ → Bool

-- the laws of a witness rule, for every house j and number k
pub record Lawful (r : Ruling) : Type 0 where
  -- there is at least one house
  pub least : 1 ≤ r.houses
  -- there are no more houses than a set has room for
  pub most : r.houses ≤ most_houses
  -- fewer than a third of the houses may misbehave: 3t + 1 ≤ n
  pub few : 3 * r.faults + 1 ≤ r.houses
  -- every named house is one of the houses
  pub below : (j k i : ℕ) → has (r.named j k) i ≡ 1 → i < r.houses
  -- houses are named only for one of the houses and a number above 0
  pub names_inside : (j k : ℕ) → 0 < r.named j k → (j < r.houses) × (0 < k)
  -- sets are accepted only for one of the houses and a number above 0
  pub accepts_inside : (j k s : ℕ) → r.accepts j k s ≡ true → (j < r.houses) × (0 < k)
  -- an accepted set with more houses added is accepted
  pub grows : (j k s more : ℕ) → r.accepts j k s ≡ true → r.accepts j k (bit_or s more) ≡ true
  -- a set is accepted exactly when its named members alone are
  pub by_named : (j k s : ℕ) → r.accepts j k s ≡ r.accepts j k (bit_and s (r.named j k))
  -- any two accepted sets share more than t houses
  pub shares : (j k a b : ℕ) → r.accepts j k a ≡ true → r.accepts j k b ≡ true → r.faults < count_ones (bit_and a b)
  -- a set that lacks at most t of the houses is accepted
  pub enough : (j k s : ℕ) → j < r.houses → 0 < k → count_ones (missing r.houses s) ≤ r.faults → r.accepts j k s ≡ true
