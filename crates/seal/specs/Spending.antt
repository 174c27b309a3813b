-- What a house has left, before and after one of its seals is spent.
use Rattle.std.proofs.Common.{⊎_elim, ap, subst, arith}
use Rattle.std.specs.Prelude.{◌≡◌, ℕ, ◌+◌, ◌-◌, ◌<◌, ◌≤◌, cond, List, length, ◌≢◌, nat_lt, slice_index}
use Rattle.std.proofs.lemmas.List.{get_or-set_same, get_or-set_other, get_or_past}
use Rattle.std.proofs.lemmas.Bool.{lt-ltb, le-ltb, cond-true, cond-false, cases_lt}
use Rattle.seal.specs.declared.houses.Supply.{Supply}
use Rattle.seal.specs.Houses.{left_of, spent}

module _ (n : ℕ) (left : List ℕ) (i : ℕ) where
  pub left_below : i < n → left_of n left i ≡ slice_index left i
  left_below h = cond-true (nat_lt i n) (slice_index left i) 0 (lt-ltb i n h)

  pub left_none : n ≤ i → left_of n left i ≡ 0
  left_none h = cond-false (nat_lt i n) (slice_index left i) 0 (le-ltb i n h)

module _ (n : ℕ) (left : List ℕ) (i : ℕ) (had : 0 < left_of n left i) where
  -- who has one left is one of the houses
  pub has_below : i < n
  has_below = ⊎_elim (λ h. h) (λ h. absurd (omega (arith, left_none n left i h))) (cases_lt i n)

  pub has_some : 0 < slice_index left i
  has_some = subst (λ (k : ℕ). 0 < k) (left_below n left i has_below) had

  pub has_place : i < length left
  has_place = ⊎_elim (λ h. h) (λ h. absurd (let none = get_or_past left i 0 h in let some = has_some in omega arith)) (cases_lt i (length left))

  pub spent_falls : left_of n (spent left i) i + 1 ≡ left_of n left i
  spent_falls =
      let some = has_some in
      let before = left_below n left i has_below in
      let after = left_below n (spent left i) i has_below in
      let here = get_or-set_same left i (slice_index left i - 1) 0 has_place in
      omega arith

pub spent_others : (n : ℕ) (left : List ℕ) (i k : ℕ) → (k ≢ i) → left_of n (spent left i) k ≡ left_of n left k
spent_others n left i k other = ap (λ (v : ℕ). cond (nat_lt k n) v 0) (get_or-set_other left i k (slice_index left i - 1) 0 other)

-- what is left of a supply
abbrev pub spent_supply : Supply → ℕ → Supply
spent_supply y i = record { houses = y.houses; left = spent y.left i; few = y.few }
