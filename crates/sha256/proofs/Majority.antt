-- The short form of Maj is the standard's.
use Rattle.std.proofs.Common.{◌≡◌, ℕ, zero, suc, ◌+◌, ◌%◌, ◌≤◌, min, max, arith}
use lib.Bits.{bit_and, bit_or}
use Rattle.bits.proofs.Bits.{has_le, has_and, has_or, has_xor, same}
use Rattle.sha256.specs.Functions.{maj}

-- at one bit
at_a_bit : (p q r : ℕ) → p ≤ 1 → q ≤ 1 → r ≤ 1 → max (min p q) (min r (max p q)) ≡ ((min p q + min p r) % 2 + min q r) % 2
at_a_bit zero q r h k l = omega arith
at_a_bit (suc zero) zero r h k l = omega arith
at_a_bit (suc zero) (suc zero) r h k l = omega arith
at_a_bit (suc zero) (suc (suc q)) r h k l = absurd (omega arith)
at_a_bit (suc (suc p)) q r h k l = absurd (omega arith)

pub maj_short : (x y z : ℕ) → bit_or (bit_and x y) (bit_and z (bit_or x y)) ≡ maj x y z
unfolding maj
maj_short x y z = same _ _ (λ i. simp (has_or, has_and, has_xor) (at_a_bit _ _ _ (has_le x i) (has_le y i) (has_le z i)))
