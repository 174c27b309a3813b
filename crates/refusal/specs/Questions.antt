-- Calls put their questions in order: the first no refuses, and a refusal changes nothing.
use Rattle.std.specs.Prelude.{ℕ, zero, suc, Bool, cond, Ok, Err, Result, Option, Some, None}
use Rattle.std.specs.declared.num.NonZeroU8.{NonZeroU8}
use Rattle.std.proofs.Math.Nat.{zero-lt-suc}
use Rattle.refusal.specs.declared.Refusal.{Refusal}
use Rattle.refusal.specs.declared.Refused.{Refused}

-- a question with the refusal of a no, and what follows a yes
abbrev pub ask : {A E : Type 0} → Bool → E → Result A E → Result A E
ask holds refusal rest = cond holds rest (Err refusal)

-- what a call leaves: the new where it was taken, the old where it was refused
abbrev pub after : {A E B : Type 0} → Result A E → (A → B) → B → B
after (Ok x) new old = new x
after (Err e) new old = old

-- a refusal that fell on no receipt
abbrev pub whole : Refusal → Refused
whole refusal = record { refusal = refusal; place = None }

-- the place that has a number, counted from 1
abbrev pub place_of : ℕ → Option NonZeroU8
place_of zero = None
place_of (suc n) = Some (record { value = suc n; ok = zero-lt-suc n })

-- a refusal that fell on the receipt at a place, places counted from 1
abbrev pub at_receipt : Refusal → ℕ → Refused
at_receipt refusal place = record { refusal = refusal; place = place_of place }
