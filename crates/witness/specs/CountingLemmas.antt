-- How sets count: to count is to weigh where each house weighs 1, at a width that holds the sets.
use Rattle.std.specs.Prelude.{◌≡◌, ℕ, zero, suc, ◌+◌, ◌*◌, ◌/◌, ◌%◌, ◌^◌, ◌<◌, ◌≤◌, bit_and, bit_or, refl}
use Rattle.std.proofs.Common.{sym, ap, ◌∙◌, ⊎_elim, mod-eq_of_lt, mod-lt, pow-suc, one-add, arith, pow_mono, pow_pos}
use Rattle.std.proofs.Math.Nat.{mod-one}
use Rattle.std.proofs.lemmas.Nat.{and_comm, and_le_l, and_mask, or_lt, xor_lt, ones_cat, mod-pow-add}
use Rattle.std.specs.Int.Bits.{and_lt}
use Rattle.std.specs.Int.Count.{ones, ones-ones}
use Rattle.std.proofs.lemmas.Bool.{cases_eq}
use Rattle.bits.specs.Bits.{has}
use Rattle.bits.proofs.Bits.{has_le, has_and, same}
use Rattle.witness.specs.Counting.{Counts, Weighs}
use Rattle.witness.specs.Sets.{full, Within, less, missing, sum, weight}
use Rattle.witness.specs.SetsLemmas.{or_within, less_within_less}
use Rattle.witness.specs.Members.{has_none, has_other}
use Rattle.witness.specs.Weights.{sum_some, weight_both, weight_parts, weight_rest, weight_within, weight_overlap}

-- ---- to count is to weigh

ones_bit : (b : ℕ) → b < 2 → ones b ≡ b
unfolding ones
ones_bit zero h = refl
ones_bit (suc zero) h = refl
ones_bit (suc (suc b)) h = absurd (omega arith)

-- the highest of k + 1 bits, and the others
ones_top : (k s : ℕ) → ones (s % 2 ^ suc k) ≡ has s k + ones (s % 2 ^ k)
unfolding has
ones_top k s =
    ap (λ (x : ℕ). ones (s % 2 ^ x)) (sym (one-add k)) ∙ ap ones (mod-pow-add s 1 k)
    ∙ ones_cat k (s / 2 ^ k % 2) (s % 2 ^ k) (mod-lt s (pow_pos k))
    ∙ ap (λ (x : ℕ). x + ones (s % 2 ^ k)) (ones_bit (s / 2 ^ k % 2) (omega arith))

ones_low : (k s : ℕ) → weight (λ _. 1) k s ≡ ones (s % 2 ^ k)
unfolding sum ones
ones_low zero s = sym (ap ones (mod-one s))
ones_low (suc k) s = omega (arith, ones_low k s, ones_top k s)

-- where each house weighs 1, a set weighs what it counts
pub weight_ones : (n s : ℕ) → weight (λ _. 1) n s ≡ ones (bit_and s (full n))
weight_ones n s = ones_low n s ∙ ap ones (sym (and_mask s n))

-- a number is below the power that it is the exponent of, so that there is a width for any sets
self_lt : (a : ℕ) → a < 2 ^ a
self_lt zero = omega arith
self_lt (suc a) = omega (arith, self_lt a, pow-suc 2 a)

fits : (a k : ℕ) → a ≤ k → a < 2 ^ k
fits a k h = omega (arith, self_lt a, pow_mono h)

weighed : (k s : ℕ) → s < 2 ^ k → weight (λ _. 1) k s ≡ ones s
weighed k s h = ones_low k s ∙ ap ones (mod-eq_of_lt h)

-- ---- counts

pub ones_none : ones 0 ≡ 0
unfolding ones
ones_none = refl

-- two sets count as many as what they share and what they are together
pub ones_both : (a b : ℕ) → ones a + ones b ≡ ones (bit_and a b) + ones (bit_or a b)
ones_both a b =
    let k = a + b in
    let h : a < 2 ^ k = fits a k (omega arith) in
    let l : b < 2 ^ k = fits b k (omega arith) in
    let shared = weighed k (bit_and a b) (and_lt k a b h l) in
    let together = weighed k (bit_or a b) (or_lt k a b h l) in
    omega (arith, weight_both (λ _. 1) k a b, weighed k a h, weighed k b l, shared, together)

-- a subset counts no more
pub ones_within : (a b : ℕ) → Within a b → ones a ≤ ones b
ones_within a b h =
    let k = a + b in
    let first = weighed k a (fits a k (omega arith)) in
    let second = weighed k b (fits b k (omega arith)) in
    omega (arith, weight_within (λ _. 1) k a b h, first, second)

-- a set counts what it has in another and what it has beside it
pub ones_parts : (a b : ℕ) → ones (bit_and a b) + ones (less a b) ≡ ones a
ones_parts a b =
    let h : a < 2 ^ a = self_lt a in
    let l : bit_and a b < 2 ^ a = fits (bit_and a b) a (and_le_l a b) in
    let beside = weighed a (less a b) (xor_lt a a (bit_and a b) h l) in
    omega (arith, weight_parts (λ _. 1) a a b, weighed a a h, weighed a (bit_and a b) l, beside)

-- of n houses, those in a set and those missing from it are n
pub ones_rest : (n s : ℕ) → ones (bit_and s (full n)) + ones (missing n s) ≡ n
ones_rest n s = omega (arith, ones_parts (full n) s, ones-ones n, ap ones (and_comm s (full n)))

-- two subsets of m with a and b members share at least a + b less the members of m
pub ones_overlap_in : (m a b : ℕ) → Within a m → Within b m → ones a + ones b ≤ ones (bit_and a b) + ones m
ones_overlap_in m a b h k = omega (arith, ones_both a b, ones_within (bit_or a b) m (or_within a b m h k))

pub ones_overlap : (n a b : ℕ) → Within a (full n) → Within b (full n) → ones a + ones b ≤ ones (bit_and a b) + n
ones_overlap n a b h k = omega (arith, ones_overlap_in (full n) a b h k, ones-ones n)

-- a set of houses has all its members in s but for those that are missing from s
pub ones_lacks : (n m s : ℕ) → Within m (full n) → ones m ≤ ones (bit_and s m) + ones (missing n s)
ones_lacks n m s h =
    let lacking = ones_within (less m s) (missing n s) (less_within_less m (full n) s h) in
    omega (arith, ones_parts m s, ap ones (and_comm s m), lacking)

-- ---- members

-- a set that counts something has a member
pub some_member : (s : ℕ) → 0 < ones s → (i : ℕ) × (has s i ≡ 1)
some_member s h =
    let found = sum_some (λ i. has s i * 1) s (omega (arith, weighed s s (self_lt s))) in
    (found.0, omega (arith, has_le s found.0))

ones_power : (i : ℕ) → ones (2 ^ i) ≡ 1
unfolding ones
ones_power i =
    let e : 2 ^ i ≡ 1 * 2 ^ i + 0 = omega arith in
    ap ones e ∙ ones_cat i 1 0 (pow_pos i)

-- a set does not meet a house that is no member
apart : (s i : ℕ) → has s i ≡ 0 → bit_and s (2 ^ i) ≡ 0
apart s i h =
    same _ _ (λ j. has_and s (2 ^ i) j ∙ ⊎_elim (λ e. omega (arith, has_none j, ap (has s) e))
    (λ ne. omega (arith, has_none j, has_other i j ne)) (cases_eq i j))

-- a house that is added counts one
pub ones_added : (s i : ℕ) → has s i ≡ 0 → ones (bit_or s (2 ^ i)) ≡ ones s + 1
unfolding ones
ones_added s i h = omega (arith, ones_both s (2 ^ i), ones_power i, ap ones (apart s i h))

-- ---- the statements

pub counts : Counts
counts = record { both = ones_both; parts = ones_parts; rest = ones_rest; within = ones_within; overlap = ones_overlap }

pub weighs : Weighs
weighs =
    record {
      counts = weight_ones;
      both = weight_both;
      parts = weight_parts;
      rest = weight_rest;
      within = weight_within;
      overlap = weight_overlap;
    }
