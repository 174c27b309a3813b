-- What both seal kinds say of their houses.
use Rattle.std.specs.Prelude.{ℕ, ◌-◌, Bool, cond, ◌&&◌, List, ◌++◌, replicate, Ok, Result, nat_le, nat_lt, slice_index, slice_set}
use Rattle.refusal.specs.Questions.{ask}
use Rattle.refusal.specs.declared.Refusal.{Refusal}
use Rattle.refusal.specs.declared.Refusal.TheVariants.{NoSealLeft, MemoryTooSmall}

-- the most houses that a seal kind can have
abbrev pub most_houses : ℕ
most_houses = 16

-- are there from 1 to 16 houses?
abbrev pub house_count : ℕ → Bool
house_count n = nat_le 1 n && nat_le n most_houses

-- so many seals for each of n houses, and none for the places of no house
unfoldable pub shares : ℕ → ℕ → List ℕ
shares n each = replicate n each ++ replicate (most_houses - n) 0

-- what a house below n has left, and a house not below n has none
abbrev pub left_of : ℕ → List ℕ → ℕ → ℕ
left_of n left i = cond (nat_lt i n) (slice_index left i) 0

-- one less for the house
abbrev pub spent : List ℕ → ℕ → List ℕ
spent left i = slice_set left i (slice_index left i - 1)

-- has the house a seal left? has the memory room for a seal?
abbrev pub sign_asked : ℕ → ℕ → ℕ → Result (Unit {0}) Refusal
sign_asked left size room = ask (nat_lt 0 left) NoSealLeft (ask (nat_le size room) MemoryTooSmall (Ok tt))
