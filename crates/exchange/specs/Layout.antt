-- The bundle's bytes: a statement, a count, and that many receipts.
use Rattle.std.specs.Prelude.{ℕ, ◌+◌, ◌*◌, ◌^◌, List, [], ◌∷◌, ◌++◌, take, drop, slice_index}
use Rattle.sha256.specs.declared.value.Digest.{Digest}
use Rattle.edition.specs.Numbers.{number_from}
use Rattle.seal.specs.Statements.{statement_length, statement_bytes}
use Rattle.seal.specs.declared.statement.Statement.{Statement}

-- the statement and the count
abbrev pub head_length : ℕ
head_length = statement_length + 1

abbrev pub head_bytes : Statement → ℕ → List ℕ
head_bytes s count = statement_bytes s ++ (count ∷ [])

-- how many bytes a receipt has, with seals of so many bytes
abbrev pub receipt_length : ℕ → ℕ
receipt_length size = 1 + size

-- where the receipt at place i stands, places counted from 0
abbrev pub receipt_at : ℕ → ℕ → ℕ
receipt_at size i = head_length + i * receipt_length size

-- a house and its seal
abbrev pub receipt_bytes : ℕ → List ℕ → List ℕ
receipt_bytes house seal = house ∷ seal

-- the 64-bit number in the eight bytes from a place on
abbrev pub word_at : List ℕ → ℕ → ℕ
word_at b at =
    slice_index b at * 2 ^ 56 + slice_index b (at + 1) * 2 ^ 48 + slice_index b (at + 2) * 2 ^ 40 + slice_index b (at + 3) * 2 ^ 32
    + slice_index b (at + 4) * 2 ^ 24 + slice_index b (at + 5) * 2 ^ 16 + slice_index b (at + 6) * 2 ^ 8 + slice_index b (at + 7)

-- the statement at the front of a bundle
abbrev pub bundle_mark : List ℕ → ℕ
bundle_mark b = slice_index b 0

abbrev pub bundle_house : List ℕ → ℕ
bundle_house b = slice_index b 1

abbrev pub bundle_number : List ℕ → ℕ
bundle_number b = number_from (slice_index b 2) (slice_index b 3)

abbrev pub bundle_digest : List ℕ → Digest
bundle_digest b = record { words = word_at b 4 ∷ word_at b 12 ∷ word_at b 20 ∷ word_at b 28 ∷ [] }

unfoldable pub bundle_statement : List ℕ → Statement
bundle_statement b = record { mark = bundle_mark b; house = bundle_house b; number = bundle_number b; digest = bundle_digest b }

-- how many receipts the bundle says that it has
abbrev pub bundle_count : List ℕ → ℕ
bundle_count b = slice_index b statement_length

-- the receipt at place i: its house and its seal
abbrev pub receipt_house : ℕ → List ℕ → ℕ → ℕ
receipt_house size b i = slice_index b (receipt_at size i)

abbrev pub receipt_seal : ℕ → List ℕ → ℕ → List ℕ
receipt_seal size b i = take size (drop (receipt_at size i + 1) b)
