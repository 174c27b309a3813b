-- What a register means.
use Rattle.std.specs.Prelude.{◌≡◌, ℕ, ◌<◌, ◌≤◌, Bool, ◌&&◌, List, [], ◌∷◌, ◌++◌, length, drop, Ok, Option, vec_items, Result, ◌==◌, nat_le, nat_lt}
use Rattle.std.specs.List.{slice_get}
use Rattle.refusal.specs.Questions.{ask}
use Rattle.refusal.specs.declared.Refusal.{Refusal}
use Rattle.refusal.specs.declared.Refusal.TheVariants.{HouseCount, SealMemory}
use Rattle.seal.specs.declared.entry.Entry.{Entry}
use Rattle.seal.specs.declared.register.Register.{Register}
use Rattle.seal.specs.declared.statement.Statement.{Statement}
use Rattle.seal.specs.declared.table.Table.{Table}
use Rattle.seal.specs.Houses.{house_count, shares, left_of, spent}
use Rattle.seal.specs.Meanings.{Meaning}
use Rattle.seal.specs.Rows.{entry, holds, row_size, most_rows, row_bytes, row_number}

-- the used rows in their order
abbrev pub entries_of : Register → List Entry
entries_of s = vec_items s.entries

-- how many rows are used
abbrev pub used : Register → ℕ
used s = length (entries_of s)

-- the row of a number, if it is used
abbrev pub row_at : Register → ℕ → Option Entry
row_at s k = slice_get (entries_of s) k

-- no row is used
abbrev pub Unused : Register → Type 0
Unused s = entries_of s ≡ []

-- do two bytes name a row that holds the house and the statement?
abbrev pub row_checks : Register → ℕ → Statement → List ℕ → Bool
row_checks s i x z = length z == row_size && holds (row_at s (row_number z)) i x

-- a taken sign: the next row is used, its number in front, one seal less for the house
pub record Entered (s : Register) (house : ℕ) (x : Statement) (m : List ℕ) (s' : Register) (m' : List ℕ) : Type 0 where
  pub had : 0 < left_of s.supply.houses s.supply.left house
  pub fits : row_size ≤ length m
  pub same_houses : s'.supply.houses ≡ s.supply.houses
  pub enters : entries_of s' ≡ entries_of s ++ (entry house x ∷ [])
  pub spends : s'.supply.left ≡ spent s.supply.left house
  pub writes : m' ≡ row_bytes (used s) ++ drop row_size m

abbrev pub register : Meaning Register
register =
    record {
      size = row_size;
      houses = λ s. s.supply.houses;
      checks = λ s i x z. nat_lt i s.supply.houses && row_checks s i x z;
      left = λ s i. left_of s.supply.houses s.supply.left i;
      signs = Entered;
    }

-- is the number of houses from 1 to 16? are there from as many rows to 65,535?
abbrev pub register_asked : ℕ → ℕ → Result (Unit {0}) Refusal
register_asked n rows = ask (house_count n) HouseCount (ask (nat_le n rows && nat_le rows most_rows) SealMemory (Ok tt))

-- a register of n houses with so many seals each, as it begins with its table
pub record Begun (s : Register) (n each : ℕ) (table : Table) : Type 0 where
  pub of_houses : s.supply.houses ≡ n
  pub of_table : s.entries ≡ table.entries
  pub all_left : s.supply.left ≡ shares n each
  pub none_used : Unused s
