-- What stands in a row, and the bytes of a row's number.
use Rattle.std.specs.Prelude.{ℕ, ◌+◌, ◌*◌, ◌/◌, ◌%◌, Bool, false, ◌&&◌, List, [], ◌∷◌, Some, None, Option, ◌==◌, slice_index}
use Rattle.std.specs.Str.{bytes_eq}
use Rattle.seal.specs.declared.entry.Entry.{Entry}
use Rattle.seal.specs.declared.statement.Statement.{Statement}

abbrev pub entry : ℕ → Statement → Entry
entry house statement = record { house = house; statement = statement }

-- are the two statements one?
unfoldable pub same_statement : Statement → Statement → Bool
same_statement x y =
    (x.mark == y.mark)
    && (x.house == y.house && (x.number == y.number && bytes_eq x.digest.words y.digest.words))

-- is the row used, by that house on that statement?
abbrev pub holds : Option Entry → ℕ → Statement → Bool
holds None i x = false
holds (Some e) i x = e.house == i && same_statement e.statement x

-- how many bytes a row's number has
abbrev pub row_size : ℕ
row_size = 2

-- the most rows that a register can have
abbrev pub most_rows : ℕ
most_rows = 65535

-- a row's number in two bytes, the most significant first
abbrev pub row_bytes : ℕ → List ℕ
row_bytes k = (k / 256) ∷ (k % 256) ∷ []

-- the number that two bytes are
abbrev pub row_number : List ℕ → ℕ
row_number z = slice_index z 0 * 256 + slice_index z 1
