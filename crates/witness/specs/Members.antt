-- The members of the sets that houses are added to and taken from.
use Rattle.std.specs.Prelude.{◌≡◌, ℕ, ◌/◌, ◌%◌, ◌^◌, ◌<◌, ◌≤◌, ◌≢◌, bit_and, bit_or}
use Rattle.std.proofs.Common.{sym, ap, ◌∙◌, ⊎_elim, mod-eq_of_lt, one-mul, lt_of_lt_of_le, arith, pow_mono}
use Rattle.std.proofs.Math.Nat.{zero-div, div-eq_of_lt}
use Rattle.std.proofs.lemmas.Nat.{and_comm, and_mask, shl-shr}
use Rattle.std.specs.Int.Bits.{and_shifted}
use Rattle.std.proofs.Math.Pow.{pow-lt, ones_lt}
use Rattle.std.proofs.lemmas.Bool.{cases_lt}
use Rattle.bits.specs.Bits.{has}
use Rattle.bits.proofs.Bits.{has_le, has_and, has_or}
use Rattle.witness.specs.Sets.{full, Within}
use Rattle.witness.specs.SetsLemmas.{within_has, has_within}

pub has_none : (i : ℕ) → has 0 i ≡ 0
unfolding has
has_none i = rw zero-div

-- ---- one house

pub has_power : (i : ℕ) → has (2 ^ i) i ≡ 1
unfolding has
has_power i = ap (λ (p : ℕ). p / 2 ^ i % 2) (sym (one-mul (2 ^ i))) ∙ ap (λ (q : ℕ). q % 2) (shl-shr 1 i)

lower_apart : (i j : ℕ) → j < i → bit_and (2 ^ i) (2 ^ j) ≡ 0
lower_apart i j h = ap (λ (p : ℕ). bit_and p (2 ^ j)) (sym (one-mul (2 ^ i))) ∙ and_shifted 1 i (2 ^ j) (pow-lt h)

apart : (i j : ℕ) → i ≢ j → bit_and (2 ^ i) (2 ^ j) ≡ 0
apart i j ne =
    ⊎_elim (λ h. and_comm (2 ^ i) (2 ^ j) ∙ lower_apart j i h) (λ h. lower_apart i j (omega arith)) (cases_lt i j)

pub has_other : (i j : ℕ) → i ≢ j → has (2 ^ i) j ≡ 0
has_other i j ne =
    let none = sym (has_and (2 ^ i) (2 ^ j) j) ∙ ap (λ (s : ℕ). has s j) (apart i j ne) ∙ has_none j in
    omega (arith, none, has_power j)

-- ---- one house added

pub has_added : (s i : ℕ) → has (bit_or s (2 ^ i)) i ≡ 1
has_added s i = simp (has_or, has_power) (omega (arith, has_le s i))

pub has_kept : (s i j : ℕ) → i ≢ j → has (bit_or s (2 ^ i)) j ≡ has s j
has_kept s i j ne = simp has_or (omega (arith, has_other i j ne))

-- ---- the first n houses

pub has_beyond : (s n i : ℕ) → s < 2 ^ n → n ≤ i → has s i ≡ 0
unfolding has
has_beyond s n i h k = ap (λ (q : ℕ). q % 2) (div-eq_of_lt (lt_of_lt_of_le h (pow_mono k)))

pub below_within : (s n : ℕ) → s < 2 ^ n → Within s (full n)
below_within s n h = and_mask s n ∙ mod-eq_of_lt h

pub full_has : (n i : ℕ) → i < n → has (full n) i ≡ 1
full_has n i h =
    let more = within_has (2 ^ i) (full n) i (below_within (2 ^ i) n (pow-lt h)) in
    omega (arith, more, has_power i, has_le (full n) i)

pub full_lacks : (n i : ℕ) → n ≤ i → has (full n) i ≡ 0
full_lacks n i h = has_beyond (full n) n i (ones_lt n) h

pub within_below : (s n i : ℕ) → Within s (full n) → has s i ≡ 1 → i < n
within_below s n i h e =
    ⊎_elim (λ l. l) (λ l. absurd (omega (arith, full_lacks n i l, within_has s (full n) i h))) (cases_lt i n)

pub members_within : (s n : ℕ) → ((i : ℕ) → has s i ≡ 1 → i < n) → Within s (full n)
members_within s n h =
    has_within s (full n) (λ i. ⊎_elim (λ l. omega (arith, full_has n i l, has_le s i))
    (λ l. ⊎_elim (λ e. absurd (omega (arith, h i (omega (arith, has_le s i))))) (λ e. omega arith) (cases_lt 0 (has s i))) (cases_lt i n))
