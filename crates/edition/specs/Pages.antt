-- The bound on an edition's pages.
use Rattle.std.specs.Prelude.{ℕ, ◌^◌, Ok, Result, nat_le}
use Rattle.refusal.specs.Questions.{ask}
use Rattle.refusal.specs.declared.Refusal.{Refusal}
use Rattle.refusal.specs.declared.Refusal.TheVariants.{PagesTooLong}

-- the most bytes that pages may have: 16,777,216
abbrev pub most_bytes : ℕ
most_bytes = 2 ^ 24

-- whether pages of so many bytes are within bounds
abbrev pub admitted : ℕ → Result (Unit {0}) Refusal
admitted bytes = ask (nat_le bytes most_bytes) PagesTooLong (Ok tt)
