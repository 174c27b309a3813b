-- How sets count and weigh: what every rule's laws rest on, for sets of any width.
use Rattle.std.specs.Prelude.{◌≡◌, ℕ, ◌+◌, ◌≤◌, bit_and, bit_or, count_ones}
use Rattle.witness.specs.Sets.{full, Within, less, missing, weight}

-- how sets count
pub record Counts : Type 0 where
  -- two sets count as many as what they share and what they are together
  pub both : (a b : ℕ) → count_ones a + count_ones b ≡ count_ones (bit_and a b) + count_ones (bit_or a b)
  -- a set counts what it has in another and what it has beside it
  pub parts : (a b : ℕ) → count_ones (bit_and a b) + count_ones (less a b) ≡ count_ones a
  -- of n houses, those in a set and those missing from it are n
  pub rest : (n s : ℕ) → count_ones (bit_and s (full n)) + count_ones (missing n s) ≡ n
  -- a subset counts no more
  pub within : (a b : ℕ) → Within a b → count_ones a ≤ count_ones b
  -- two sets of a and b members within n houses share at least a + b − n
  pub overlap : (n a b : ℕ) → Within a (full n) → Within b (full n) → count_ones a + count_ones b ≤ count_ones (bit_and a b) + n

-- how sets of n houses weigh, where house i weighs w i
pub record Weighs : Type 0 where
  -- where each house weighs 1, a set weighs what it counts
  pub counts : (n s : ℕ) → weight (λ _. 1) n s ≡ count_ones (bit_and s (full n))
  -- two sets weigh as much as what they share and what they are together
  pub both : (w : ℕ → ℕ) (n a b : ℕ) → weight w n a + weight w n b ≡ weight w n (bit_and a b) + weight w n (bit_or a b)
  -- a set weighs what it has in another and what it has beside it
  pub parts : (w : ℕ → ℕ) (n a b : ℕ) → weight w n (bit_and a b) + weight w n (less a b) ≡ weight w n a
  -- a set and what is missing from it weigh what all houses do
  pub rest : (w : ℕ → ℕ) (n s : ℕ) → weight w n s + weight w n (missing n s) ≡ weight w n (full n)
  -- a subset weighs no more
  pub within : (w : ℕ → ℕ) (n a b : ℕ) → Within a b → weight w n a ≤ weight w n b
  -- two sets of weights a and b share at least a + b less what all houses weigh
  pub overlap : (w : ℕ → ℕ) (n a b : ℕ) → weight w n a + weight w n b ≤ weight w n (bit_and a b) + weight w n (full n)
