-- A number that is not 0 is its place.
use Rattle.std.proofs.Common.{◌≡◌, ℕ, zero, suc, ◌<◌, Some, ap, arith}
use Rattle.std.proofs.Math.Bridge.{le_prop}
use Rattle.std.proofs.Math.Nat.{zero-lt-suc}
use Rattle.std.specs.declared.num.NonZeroU8.{NonZeroU8}
use Rattle.refusal.specs.Questions.{place_of}

-- whatever shows that it is not 0
shown : (n : ℕ) (h : 0 < n) → place_of n ≡ Some (record { value = n; ok = h })
shown zero h = absurd (omega (arith, h))
shown (suc n) h = ap (λ p. Some (record { value = suc n; ok = p })) (le_prop (zero-lt-suc n) h)

pub own_place : (x : NonZeroU8) → place_of x.value ≡ Some x
own_place x = shown x.value x.ok
