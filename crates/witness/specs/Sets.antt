-- Sets of houses as numbers: house i is a member where bit i is 1. `count_ones` counts the members.
use Rattle.std.specs.Prelude.{◌≡◌, ℕ, zero, suc, ◌+◌, ◌-◌, ◌*◌, ◌^◌, List, [], ◌∷◌, bit_and, bit_or, bit_xor}
use Rattle.bits.specs.Bits.{has}

-- the set of the houses in a list
abbrev pub set_of : List ℕ → ℕ
set_of [] = 0
set_of (i ∷ is) = bit_or (2 ^ i) (set_of is)

-- the set of all n houses
abbrev pub full : ℕ → ℕ
full n = 2 ^ n - 1

-- every member of a is a member of b
abbrev pub Within : ℕ → ℕ → Type 0
Within a b = bit_and a b ≡ a

-- the members of a that are not members of b
abbrev pub less : ℕ → ℕ → ℕ
less a b = bit_xor a (bit_and a b)

-- those of the n houses that are not members of s
abbrev pub missing : ℕ → ℕ → ℕ
missing n s = less (full n) s

-- f 0 + f 1 + .. up to the number before k
unfoldable pub sum : (ℕ → ℕ) → ℕ → ℕ
sum f zero = zero
sum f (suc k) = sum f k + f k

-- what the members of s below k weigh together, where house i weighs w i
abbrev pub weight : (ℕ → ℕ) → ℕ → ℕ → ℕ
weight w k s = sum (λ i. has s i * w i) k
