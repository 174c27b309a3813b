-- The houses that follow one another around the circle are different, as long as they are no more than n.
use Rattle.std.specs.Prelude.{◌≡◌, ℕ, zero, suc, ◌+◌, ◌*◌, ◌/◌, ◌%◌, ◌^◌, ◌<◌, ◌≤◌, ◌≢◌, bit_or}
use Rattle.std.proofs.Math.Path.{refl}
use Rattle.std.proofs.Common.{sym, ap, ◌∙◌, ⊎_elim, div-add-mod', lt_of_lt_of_le, mod-lt, mul-le-mul_right, suc-mul, add-one, zero-add, arith}
use Rattle.std.specs.Int.Bits.{or_lt}
use Rattle.std.specs.List.{fold, range_with_len}
use Rattle.std.specs.Int.Count.{ones}
use Rattle.std.proofs.Math.Pow.{pow-lt, pow_pos}
use Rattle.std.proofs.lemmas.Nat.{one_shl}
use Rattle.std.proofs.lemmas.Bool.{cases_lt}
use Rattle.bits.specs.Bits.{has}
use Rattle.bits.proofs.Bits.{has_or}
use Rattle.witness.specs.Rotating.{circle}
use Rattle.witness.specs.Sets.{full, Within}
use Rattle.witness.specs.CountingLemmas.{ones_added}
use Rattle.witness.specs.Members.{has_none, has_other, below_within}

-- ---- two numbers less than n apart leave different remainders

-- the larger of two numbers of one remainder is at least n larger
next_turn : (n x y : ℕ) → x / n < y / n → x % n ≡ y % n → x + n ≤ y
next_turn n x y h e =
    omega (arith, div-add-mod' x n, div-add-mod' y n, mul-le-mul_right n h, suc-mul (x / n) n)

one_turn : (n x y : ℕ) → x < y → y < x + n → x / n ≡ y / n → x % n ≢ y % n
one_turn n x y h l e r =
    omega (arith, div-add-mod' x n, div-add-mod' y n, ap (λ (q : ℕ). q * n) e)

steps_apart : (n x y : ℕ) → x < y → y < x + n → x % n ≢ y % n
steps_apart n x y h l e =
    ⊎_elim (λ q. omega (arith, next_turn n x y q e))
    (λ q. ⊎_elim (λ p. omega (arith, next_turn n y x p (sym e))) (λ p. one_turn n x y h l (omega arith) e) (cases_lt (y / n) (x / n)))
    (cases_lt (x / n) (y / n))

-- ---- the circle

pub circle_none : (n first : ℕ) → circle n first 0 ≡ 0
unfolding circle
circle_none n first = refl

-- one house more, as a bit of a word of 16 bits
pub circle_more : (n first r : ℕ) → 1 ≤ n → n ≤ 16
    → bit_or (circle n first r) ((1 * 2 ^ ((first + r) % n)) % 2 ^ 16) ≡ circle n first (r + 1)
unfolding circle
circle_more n first r least most =
    rw (add-one, one_shl ((first + r) % n) 16 (lt_of_lt_of_le (mod-lt (first + r) least) most))

-- a set with one house more, as a word of 16 bits
abbrev pub joined : (n first set r : ℕ) → ℕ
joined n first set r = bit_or set ((1 * 2 ^ ((first + r) % n)) % 2 ^ 16)

module _ (n first : ℕ) (least : 1 ≤ n) (most : n ≤ 16) where
  -- the c houses from r on join those before
  circle_goes_on : (c r : ℕ) → fold (joined n first) (circle n first r) (range_with_len r c) ≡ circle n first (r + c)
  circle_goes_on zero r = ap (circle n first) (omega arith)
  circle_goes_on (suc c) r =
      ap (λ (s : ℕ). fold (joined n first) s (range_with_len (r + 1) c)) (circle_more n first r least most)
      ∙ circle_goes_on c (r + 1) ∙ ap (circle n first) (omega arith)

  pub circle_joined : (c : ℕ) → fold (joined n first) 0 (range_with_len 0 c) ≡ circle n first c
  circle_joined c =
      ap (λ (s : ℕ). fold (joined n first) s (range_with_len 0 c)) (sym (circle_none n first))
      ∙ circle_goes_on c 0 ∙ ap (circle n first) (zero-add c)

module _ (n first : ℕ) (some : 1 ≤ n) where
  circle_below : (c : ℕ) → circle n first c < 2 ^ n
  unfolding circle
  circle_below zero = pow_pos n
  circle_below (suc r) =
      or_lt n (circle n first r) (2 ^ ((first + r) % n)) (circle_below r) (pow-lt (mod-lt (first + r) some))

  pub circle_within : (c : ℕ) → Within (circle n first c) (full n)
  circle_within c = below_within (circle n first c) n (circle_below c)

  -- the houses before are others than the one at q
  circle_lacks : (r q : ℕ) → r ≤ q → q < n → has (circle n first r) ((first + q) % n) ≡ 0
  unfolding circle
  circle_lacks zero q h l = has_none ((first + q) % n)
  circle_lacks (suc r) q h l =
      let i = (first + r) % n in
      let j = (first + q) % n in
      has_or (circle n first r) (2 ^ i) j
      ∙ omega (arith, circle_lacks r q (omega arith) l, has_other i j (steps_apart n (first + r) (first + q) (omega arith) (omega arith)))

  pub circle_ones : (c : ℕ) → c ≤ n → ones (circle n first c) ≡ c
  unfolding circle ones
  circle_ones zero h = refl
  circle_ones (suc r) h =
      ones_added (circle n first r) ((first + r) % n) (circle_lacks r r (omega arith) h)
      ∙ omega (arith, circle_ones r (omega arith))
