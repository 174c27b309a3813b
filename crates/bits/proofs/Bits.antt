-- What the operations on bits do to each bit, and that equal bits make equal numbers.
use mathlib.Core.Path.{◌≡◌, sym, ap, ◌∙◌}
use Prim.Native.Nat.{ℕ, zero, suc, ◌+◌, ◌/◌, ◌%◌, ◌^◌, ◌≤◌, min, max}
use native.Mathlib.Numerals.{one-add}
use native.Mathlib.Omega.{arith}
use lib.Arith.{half_le}
use lib.Bits.{bit_and, bit_or, bit_xor, and_step, or_step, xor_add_and, and_shr, or_shr, xor_shr}
use lib.Pow.{shr-shr}
use Rattle.bits.specs.Bits.{has}

pub has_le : (s i : ℕ) → has s i ≤ 1
unfolding has
has_le s i = omega arith

pub has_and : (a b i : ℕ) → has (bit_and a b) i ≡ min (has a i) (has b i)
unfolding has
has_and a b i = rw and_shr (omega (arith, and_step (a / 2 ^ i) (b / 2 ^ i)))

pub has_or : (a b i : ℕ) → has (bit_or a b) i ≡ max (has a i) (has b i)
unfolding has
has_or a b i = rw or_shr (omega (arith, or_step (a / 2 ^ i) (b / 2 ^ i)))

pub has_xor : (a b i : ℕ) → has (bit_xor a b) i ≡ (has a i + has b i) % 2
unfolding has
has_xor a b i = rw xor_shr (omega (arith, xor_add_and (a / 2 ^ i) (b / 2 ^ i)))

has_first : (s : ℕ) → has s 0 ≡ s % 2
unfolding has
has_first s = omega arith

has_half : (s i : ℕ) → has (s / 2) i ≡ has s (suc i)
unfolding has
has_half s i = ap (λ (q : ℕ). q % 2) (shr-shr s 1 i ∙ ap (λ (k : ℕ). s / 2 ^ k) (one-add i))

same_up_to : (f a b : ℕ) → a ≤ f → b ≤ f → ((i : ℕ) → has a i ≡ has b i) → a ≡ b
same_up_to zero a b h l e = omega arith
same_up_to (suc f) a b h l e =
    let halves = same_up_to f (a / 2) (b / 2) (half_le h) (half_le l) (λ i. has_half a i ∙ e (suc i) ∙ sym (has_half b i)) in
    omega (arith, halves, sym (has_first a) ∙ e 0 ∙ has_first b)

pub same : (a b : ℕ) → ((i : ℕ) → has a i ≡ has b i) → a ≡ b
same a b e = same_up_to (a + b) a b (omega arith) (omega arith) e
