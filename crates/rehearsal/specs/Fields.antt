-- Lines, and the fields of a line.
use Rattle.std.specs.Prelude.{ℕ, ◌+◌, ◌-◌, ◌*◌, Bool, cond, not, ◌&&◌, ◌||◌, List, [], ◌∷◌, length, take, drop, Some, None, Option, ◌==◌, nat_le, nat_lt, slice_index}
use Rattle.std.specs.List.{list_all, prefix_len}

-- what there is of the one, handed to the other
abbrev pub and_then : {A B : Type 0} → Option A → (A → Option B) → Option B
and_then None next = None
and_then (Some x) next = next x

-- where a byte first stands, or the length where it stands nowhere
unfoldable pub first_place : List ℕ → ℕ → ℕ
first_place bytes byte = prefix_len (λ x. not (x == byte)) bytes

-- what stands before the first such byte, and what after it
unfoldable pub cut_at : List ℕ → ℕ → Option (List ℕ × List ℕ)
cut_at bytes byte =
    cond (nat_lt (first_place bytes byte) (length bytes))
    (Some (take (first_place bytes byte) bytes, drop (first_place bytes byte + 1) bytes))
    None

-- digits read on after the number v, which with them is at most 65,535
abbrev pub read_on : ℕ → List ℕ → Option ℕ
read_on v [] = Some v
read_on v (b ∷ bs) =
    cond (nat_le 48 b && (nat_le b 57 && nat_le (v * 10 + (b - 48)) 65535)) (read_on (v * 10 + (b - 48)) bs) None

-- a 0 with something after it
abbrev pub zero_in_front : List ℕ → Bool
zero_in_front field = nat_lt 1 (length field) && slice_index field 0 == 48

-- the number that a field is: not empty, and with a 0 in front only if that is all
unfoldable pub number_of_field : List ℕ → Option ℕ
number_of_field field =
    cond (length field == 0 || zero_in_front field) None (read_on 0 field)

-- is each byte printable and no space?
abbrev pub all_printable : List ℕ → Bool
all_printable field = list_all (λ b. nat_le 33 b && nat_le b 126) field

-- from 1 to 64 such bytes
unfoldable pub text_field : List ℕ → Bool
text_field field = nat_lt 0 (length field) && (nat_le (length field) 64 && all_printable field)
