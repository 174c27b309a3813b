-- What an input's first three lines mean, and its limits.
use Rattle.std.specs.Prelude.{ℕ, ◌+◌, ◌-◌, Bool, cond, ◌&&◌, ◌||◌, List, length, Some, None, Ok, Err, codes, count_by, Option, Result, ◌==◌, nat_eq, nat_le, slice_index}
use Rattle.std.specs.Str.{bytes_eq}
use Rattle.refusal.specs.declared.Refusal.{Refusal}
use Rattle.refusal.specs.declared.Refusal.TheVariants.{BadLine}
use Rattle.witness.specs.Opening.{opened}
use Rattle.rehearsal.specs.declared.opening.Mark.{Mark}
use Rattle.rehearsal.specs.declared.opening.Mark.TheVariants.{All, Rotating}
use Rattle.rehearsal.specs.declared.opening.Opening.{Opening}
use Rattle.rehearsal.specs.Fields.{and_then, cut_at, number_of_field}

-- a rule's mark
abbrev pub rule_of : ℕ → Option Mark
rule_of k = cond (k == 1) (Some All) (cond (k == 2) (Some Rotating) None)

-- how many line ends there are
unfoldable pub end_count : List ℕ → ℕ
end_count bytes = count_by (λ b. nat_eq b 10) bytes

-- a line for each end, and one more where there is a last byte that is not an end
unfoldable pub line_count : List ℕ → ℕ
line_count bytes = end_count bytes + cond (length bytes == 0 || slice_index bytes (length bytes - 1) == 10) 0 1

-- an opening with the bytes of its event lines
pub record Begin : Type 0 where
  pub houses : ℕ
  pub faults : ℕ
  pub mark : Mark
  pub events : List ℕ

abbrev pub begin : Opening → Begin
begin o = record { houses = o.houses; faults = o.faults; mark = o.mark; events = o.events.now }

-- three numbers, with the event lines that are to follow
unfoldable pub numbers_of : List ℕ → List ℕ → Option Begin
numbers_of line events =
    and_then (cut_at line 32)
    (λ a. and_then (cut_at a.1 32)
    (λ b. and_then (number_of_field a.0)
    (λ n. and_then (number_of_field b.0)
    (λ t. and_then (number_of_field b.1)
    (λ k. and_then (rule_of k)
    (λ mark. Some (record { houses = n; faults = t; mark = mark; events = events })))))))

-- are the first and the third line the names?
abbrev pub are_names : List ℕ → List ℕ → Bool
are_names first third = bytes_eq first (codes "houses bad rule") && bytes_eq third (codes "call at house number text")

-- within 65,536 bytes and 1,000 event lines, the names, the numbers and the names
unfoldable pub opening_of : List ℕ → Option Begin
opening_of input =
    cond (nat_le (length input) 65536)
    (and_then (cut_at input 10)
    (λ a. and_then (cut_at a.1 10)
    (λ b. and_then (cut_at b.1 10)
    (λ c. cond (nat_le (line_count c.1) 1000 && are_names a.0 c.0)
    (numbers_of b.0 c.1)
    None))))
    None

-- why numbers are refused, if they are
abbrev pub why_refused : Result (Unit {0}) Refusal → Option Refusal
why_refused (Ok x) = None
why_refused (Err e) = Some e

-- the refusal of the form, or else of the numbers
abbrev pub why_not_opened : Option Begin → Option Refusal
why_not_opened None = Some BadLine
why_not_opened (Some b) = why_refused (opened b.houses b.faults)

-- why the opening of an input is refused, if it is
abbrev pub opening_refusal : List ℕ → Option Refusal
opening_refusal input = why_not_opened (opening_of input)
