-- Stations, rows and slots.
use Rattle.std.specs.Prelude.{ℕ, ◌+◌, ◌-◌, Bool, true, false, ◌&&◌, [], ◌∷◌, replicate, Option, None, Some, Ok, Result, ◌==◌, nat_lt, slice_index, slice_index_or, slice_set}
use Rattle.refusal.specs.Questions.{ask, whole}
use Rattle.refusal.specs.declared.Refused.{Refused}
use Rattle.refusal.specs.declared.Refusal.TheVariants.{StationHouse}
use Rattle.sha256.specs.declared.value.Digest.{Digest}
use Rattle.exchange.specs.declared.station.Row.{Row}
use Rattle.exchange.specs.declared.station.Station.{Station}

-- a row of which nothing is filed or noted
abbrev pub fresh_row : Row
fresh_row = record { last = 0; slots = None ∷ None ∷ None ∷ None ∷ [] }

-- a house's station at its opening
abbrev pub fresh_station : ℕ → Station
fresh_station house = record { house = house; announced = 0; rows = replicate 16 fresh_row }

-- is the house one of sixteen?
abbrev pub open_station : ℕ → Result Station Refused
open_station house = ask (nat_lt house 16) (whole StationHouse) (Ok (fresh_station house))

-- the row of house j
abbrev pub row_of : Station → ℕ → Row
row_of s j = slice_index_or s.rows j (record { last = 0; slots = [] })

-- the slot of number k, which is above the last number filed
abbrev pub slot_of : Row → ℕ → Option Digest
slot_of row k = slice_index_or row.slots (k - row.last - 1) None

-- the same four words
abbrev pub same_digest : Digest → Digest → Bool
same_digest x y =
    (slice_index x.words 0 == slice_index y.words 0) && slice_index x.words 1 == slice_index y.words 1
    && slice_index x.words 2 == slice_index y.words 2 && slice_index x.words 3 == slice_index y.words 3

abbrev pub is_empty : Option Digest → Bool
is_empty None = true
is_empty (Some x) = false

-- empty, or holding this very digest
abbrev pub free_of_other : Option Digest → Digest → Bool
free_of_other None d = true
free_of_other (Some x) d = same_digest x d

-- number k noted with a digest
abbrev pub noted_row : Row → ℕ → Digest → Row
noted_row row k d = record { last = row.last; slots = slice_set row.slots (k - row.last - 1) (Some d) }

-- the next number filed: the slots move down by one, and the fourth is empty
abbrev pub filed_row : Row → Row
filed_row row =
    record {
      last = row.last + 1;
      slots = slice_index_or row.slots 1 None ∷ slice_index_or row.slots 2 None ∷ slice_index_or row.slots 3 None ∷ None ∷ [];
    }

-- another row for house j, and nothing else
abbrev pub with_row : Station → ℕ → Row → Station
with_row s j row = record { house = s.house; announced = s.announced; rows = slice_set s.rows j row }
