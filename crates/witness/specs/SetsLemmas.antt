-- Sets are equal where they have the same members, so an identity of sets is shown member by member.
use Rattle.std.specs.Prelude.{◌≡◌, ℕ, ◌-◌, ◌≤◌, bit_and, bit_or}
use Rattle.std.proofs.Common.{sym, ap, ◌∙◌, le_trans, arith}
use Rattle.bits.specs.Bits.{has}
use Rattle.bits.proofs.Bits.{has_le, has_and, has_or, has_xor, same}
use Rattle.witness.specs.Sets.{Within, less}

pub has_less : (a b i : ℕ) → has (less a b) i ≡ has a i - has b i
has_less a b i = simp (has_xor, has_and) (omega (arith, has_le a i, has_le b i))

-- ---- subsets

pub within_has : (a b i : ℕ) → Within a b → has a i ≤ has b i
within_has a b i h = omega (arith, sym (has_and a b i) ∙ ap (λ (s : ℕ). has s i) h)

pub has_within : (a b : ℕ) → ((i : ℕ) → has a i ≤ has b i) → Within a b
has_within a b h = same _ _ (λ i. simp has_and (omega (arith, h i)))

pub within_trans : (a b c : ℕ) → Within a b → Within b c → Within a c
within_trans a b c h k = has_within _ _ (λ i. le_trans (within_has a b i h) (within_has b c i k))

pub within_and : (a b : ℕ) → Within (bit_and a b) b
within_and a b = has_within _ _ (λ i. simp has_and (omega arith))

pub within_first : (a b : ℕ) → Within (bit_and a b) a
within_first a b = has_within _ _ (λ i. simp has_and (omega arith))

pub within_or : (a b : ℕ) → Within a (bit_or a b)
within_or a b = has_within _ _ (λ i. simp has_or (omega arith))

pub within_less : (a b : ℕ) → Within (less a b) a
within_less a b = has_within _ _ (λ i. simp has_less (omega arith))

-- two subsets make a subset together
pub or_within : (a b c : ℕ) → Within a c → Within b c → Within (bit_or a b) c
or_within a b c h k = has_within _ _ (λ i. simp has_or (omega (arith, within_has a c i h, within_has b c i k)))

pub and_within_and : (a b m : ℕ) → Within a b → Within (bit_and a m) (bit_and b m)
and_within_and a b m h = has_within _ _ (λ i. simp has_and (omega (arith, within_has a b i h)))

pub less_within_less : (a b s : ℕ) → Within a b → Within (less a s) (less b s)
less_within_less a b s h = has_within _ _ (λ i. simp has_less (omega (arith, within_has a b i h)))

-- to add a subset changes nothing
pub or_subset : (a b : ℕ) → Within a b → bit_or a b ≡ b
or_subset a b h = same _ _ (λ i. simp has_or (omega (arith, within_has a b i h)))

-- ---- intersections

pub and_twice : (s m : ℕ) → bit_and (bit_and s m) m ≡ bit_and s m
and_twice s m = same _ _ (λ i. simp has_and (omega arith))

pub and_and : (a b m : ℕ) → bit_and (bit_and a m) (bit_and b m) ≡ bit_and (bit_and a b) m
and_and a b m = same _ _ (λ i. simp has_and (omega arith))

-- a member of an intersection is a member of each
pub has_each : (a b i : ℕ) → has (bit_and a b) i ≡ 1 → (has a i ≡ 1) × (has b i ≡ 1)
has_each a b i h =
    let e = sym (has_and a b i) ∙ h in
    (omega (arith, e, has_le a i), omega (arith, e, has_le b i))
