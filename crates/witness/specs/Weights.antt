-- How sets weigh where each house has a weight: what holds of each house, summed up.
use Rattle.std.specs.Prelude.{◌≡◌, ℕ, zero, suc, ◌+◌, ◌*◌, ◌<◌, ◌≤◌, bit_and, bit_or, refl}
use Rattle.std.proofs.Common.{sym, ap, ◌∙◌, ⊎_elim, add-mul, mul-le-mul_right, arith}
use Rattle.std.proofs.lemmas.Nat.{and_comm}
use Rattle.std.proofs.lemmas.Bool.{cases_lt}
use Rattle.bits.specs.Bits.{has}
use Rattle.bits.proofs.Bits.{has_le, has_and, has_or}
use Rattle.witness.specs.Sets.{full, Within, less, missing, sum, weight}
use Rattle.witness.specs.SetsLemmas.{has_less, within_has, within_and}
use Rattle.witness.specs.Members.{full_has}

-- ---- sums

sum_same : (f g : ℕ → ℕ) (k : ℕ) → ((i : ℕ) → i < k → f i ≡ g i) → sum f k ≡ sum g k
unfolding sum
sum_same f g zero h = refl
sum_same f g (suc k) h = omega (arith, sum_same f g k (λ i l. h i (omega arith)), h k (omega arith))

sum_le : (f g : ℕ → ℕ) (k : ℕ) → ((i : ℕ) → f i ≤ g i) → sum f k ≤ sum g k
unfolding sum
sum_le f g zero h = omega arith
sum_le f g (suc k) h = omega (arith, sum_le f g k h, h k)

sum_add : (f g p : ℕ → ℕ) (k : ℕ) → ((i : ℕ) → f i + g i ≡ p i) → sum f k + sum g k ≡ sum p k
unfolding sum
sum_add f g p zero h = refl
sum_add f g p (suc k) h = omega (arith, sum_add f g p k h, h k)

-- a sum above 0 has a part above 0
pub sum_some : (f : ℕ → ℕ) (k : ℕ) → 0 < sum f k → (i : ℕ) × (0 < f i)
unfolding sum
sum_some f zero h = absurd (omega arith)
sum_some f (suc k) h = ⊎_elim (λ l. (k, l)) (λ l. sum_some f k (omega arith)) (cases_lt 0 (f k))

-- ---- weights

-- a house of weight x, once for each set that it is in
together : (a b c x : ℕ) → a + b ≡ c → a * x + b * x ≡ c * x
together a b c x e = sym (add-mul a b x) ∙ ap (λ (v : ℕ). v * x) e

module _ (w : ℕ → ℕ) (n : ℕ) where
  -- two sets weigh as much as what they share and what they are together
  pub weight_both : (a b : ℕ) → weight w n a + weight w n b ≡ weight w n (bit_and a b) + weight w n (bit_or a b)
  weight_both a b =
      let each : ℕ → ℕ = λ i. (has a i + has b i) * w i in
      sum_add _ _ each n (λ i. together _ _ _ (w i) refl)
      ∙ sym (sum_add _ _ each n (λ i. together _ _ _ (w i) (simp (has_and, has_or) (omega arith))))

  -- a set weighs what it has in another and what it has beside it
  pub weight_parts : (a b : ℕ) → weight w n (bit_and a b) + weight w n (less a b) ≡ weight w n a
  weight_parts a b = sum_add _ _ _ n (λ i. together _ _ _ (w i) (simp (has_and, has_less) (omega arith)))

  -- a subset weighs no more
  pub weight_within : (a b : ℕ) → Within a b → weight w n a ≤ weight w n b
  weight_within a b h = sum_le _ _ n (λ i. mul-le-mul_right (w i) (within_has a b i h))

  -- only the n houses have a weight
  pub weight_full : (s : ℕ) → weight w n (bit_and s (full n)) ≡ weight w n s
  weight_full s =
      sum_same _ _ n (λ i l. ap (λ (v : ℕ). v * w i) (has_and s (full n) i ∙ omega (arith, full_has n i l, has_le s i)))

  -- a set and what is missing from it weigh what all houses do
  pub weight_rest : (s : ℕ) → weight w n s + weight w n (missing n s) ≡ weight w n (full n)
  weight_rest s = omega (arith, weight_parts (full n) s, weight_full s, ap (weight w n) (and_comm s (full n)))

  -- two sets of weights a and b share at least a + b less what all houses weigh
  pub weight_overlap : (a b : ℕ) → weight w n a + weight w n b ≤ weight w n (bit_and a b) + weight w n (full n)
  weight_overlap a b =
      let u = bit_or a b in
      omega (arith, weight_both a b, weight_full u, weight_within (bit_and u (full n)) (full n) (within_and u (full n)))
