-- A rule that compares a size keeps the laws; All and Rotating are such rules.
use Rattle.std.specs.Prelude.{◌≡◌, ℕ, ◌+◌, ◌*◌, ◌<◌, ◌≤◌, Bool, true, false, cond, leb, bit_and, bit_or, count_ones, nat_le, nat_lt, refl}
use Rattle.std.proofs.Common.{sym, ap, le_trans, arith}
use Rattle.std.specs.Int.Bits.{and_self, and_zero_r}
use Rattle.std.specs.Int.Count.{ones-ones}
use Rattle.std.proofs.lemmas.Bool.{and_from, and_parts, le-leb, leb-true, lt-ltb, ltb-true}
use Rattle.bits.specs.Bits.{has}
use Rattle.witness.specs.All.{all_mark, all_need, all_ruling}
use Rattle.witness.specs.Rotating.{rotating_mark, rotating_need, rotating_ruling}
use Rattle.witness.specs.Rules.{Lawful, most_houses}
use Rattle.witness.specs.Sets.{full, Within, missing}
use Rattle.witness.specs.Sized.{asked, named_of, sized, counted}
use Rattle.witness.specs.Circle.{circle_within, circle_ones}
use Rattle.witness.specs.CountingLemmas.{ones_lacks, ones_none, ones_overlap_in, ones_within}
use Rattle.witness.specs.Members.{has_none, within_below}
use Rattle.witness.specs.SetsLemmas.{and_and, and_twice, and_within_and, within_and, within_first, within_or}

-- ---- what can be asked

asked_parts : (n j k : ℕ) → asked n j k ≡ true → (j < n) × (0 < k)
asked_parts n j k e =
    let both = and_parts (nat_lt j n) (nat_lt 0 k) e in
    (ltb-true j n both.0, ltb-true 0 k both.1)

asked_from : (n j k : ℕ) → j < n → 0 < k → asked n j k ≡ true
asked_from n j k h l = and_from (nat_lt j n) (nat_lt 0 k) (lt-ltb j n h) (lt-ltb 0 k l)

-- ---- every rule that compares a size

-- what such a rule has to show: m are the houses that it names, need is the least size that it accepts
pub record Measured (n t : ℕ) (m : ℕ → ℕ → ℕ) (size : ℕ → ℕ) (need : ℕ) : Type 0 where
  -- every named house is one of the houses
  pub inside : (j k : ℕ) → Within (m j k) (full n)
  -- the empty set is too small
  pub nobody : size 0 < need
  -- a subset is no larger
  pub larger : (a b : ℕ) → Within a b → size a ≤ size b
  -- two sets that are large enough share more than t houses
  pub share : (j k a b : ℕ) → need ≤ size (bit_and a (m j k)) → need ≤ size (bit_and b (m j k)) → t < count_ones (bit_and a b)
  -- a set that lacks at most t houses is large enough
  pub suffice : (j k s : ℕ) → count_ones (missing n s) ≤ t → need ≤ size (bit_and s (m j k))

-- named_where, named_below and taken: b says whether the question can be asked, and x are the houses that are named if it can

named_where : (b : Bool) (x : ℕ) → 0 < cond b x 0 → b ≡ true
named_where true x h = refl
named_where false x h = absurd (omega arith)

named_below : (n : ℕ) (b : Bool) (x i : ℕ) → Within x (full n) → has (cond b x 0) i ≡ 1 → i < n
named_below n true x i h e = within_below x n i h e
named_below n false x i h e = absurd (omega (arith, has_none i))

module _ (size : ℕ → ℕ) (need : ℕ) where
  taken : size 0 < need → (b : Bool) (x s : ℕ) → nat_le need (size (bit_and s (cond b x 0))) ≡ true
      → (b ≡ true) × (need ≤ size (bit_and s x))
  taken h true x s e = (refl, leb-true need (size (bit_and s x)) e)
  taken h false x s e = absurd (omega (arith, leb-true need (size (bit_and s 0)) e, ap size (and_zero_r s)))

  larger_taken : (a b : ℕ) → size a ≤ size b → nat_le need (size a) ≡ true → nat_le need (size b) ≡ true
  larger_taken a b h e = le-leb need (size b) (le_trans (leb-true need (size a) e) h)

pub sized_laws : (n t mark : ℕ) (m : ℕ → ℕ → ℕ) (size : ℕ → ℕ) (need : ℕ) → 1 ≤ n → n ≤ most_houses → 3 * t + 1 ≤ n
    → Measured n t m size need → Lawful (sized n t mark m size need)
sized_laws n t mark m size need least most few made =
    let named : ℕ → ℕ → ℕ = named_of n m in
    let large = λ (j k s : ℕ). taken size need made.nobody (asked n j k) (m j k) s in
    let masked = λ (j k s more : ℕ). and_within_and s (bit_or s more) (named j k) (within_or s more) in
    record {
      least = least;
      most = most;
      few = few;
      below = λ j k i e. named_below n (asked n j k) (m j k) i (made.inside j k) e;
      names_inside = λ j k h. asked_parts n j k (named_where (asked n j k) (m j k) h);
      accepts_inside = λ j k s e. asked_parts n j k (large j k s e).0;
      grows = λ j k s more e. larger_taken size need _ _ (made.larger _ _ (masked j k s more)) e;
      by_named = λ j k s. ap (λ (v : ℕ). leb need (size v)) (sym (and_twice s (named j k)));
      shares = λ j k a b p q. made.share j k a b (large j k a p).1 (large j k b q).1;
      enough = λ j k s h l lacks. rw (asked_from n j k h l) (le-leb _ _ (made.suffice j k s lacks));
    }

-- ---- rules that count

-- two sets with need of the members of m share more than t houses, where m has fewer than 2 need − t members
pub counted_share : (m t need a b : ℕ) → count_ones m + t < need + need
    → need ≤ count_ones (bit_and a m) → need ≤ count_ones (bit_and b m) → t < count_ones (bit_and a b)
counted_share m t need a b h p q =
    let overlap = ones_overlap_in m (bit_and a m) (bit_and b m) (within_and a m) (within_and b m) in
    let shared = ones_within (bit_and (bit_and a b) m) (bit_and a b) (within_first (bit_and a b) m) in
    omega (arith, overlap, shared, ap count_ones (and_and a b m))

-- a rule that names c houses
pub counted_laws : (n t mark : ℕ) (m : ℕ → ℕ → ℕ) (c need : ℕ) → 1 ≤ n → n ≤ most_houses → 3 * t + 1 ≤ n
    → ((j k : ℕ) → Within (m j k) (full n)) → ((j k : ℕ) → count_ones (m j k) ≡ c) → c + t < need + need → need + t ≤ c
    → Lawful (counted n t mark m need)
counted_laws n t mark m c need least most few inside count double spare =
    sized_laws n t mark m count_ones need least most few (record {
      inside = inside;
      nobody = omega (arith, ones_none);
      larger = ones_within;
      share = λ j k a b. counted_share (m j k) t need a b (omega (arith, count j k));
      suffice = λ j k s h. omega (arith, count j k, ones_lacks n (m j k) s (inside j k));
    })

-- ---- the two rules

module _ (n t : ℕ) (least : 1 ≤ n) (most : n ≤ most_houses) (few : 3 * t + 1 ≤ n) where
  pub all_lawful : Lawful (all_ruling n t)
  all_lawful =
      counted_laws n t all_mark _ n (all_need n t) least most few
      (λ _ _. and_self (full n)) (λ _ _. ones-ones n) (omega arith) (omega arith)

  pub rotating_lawful : Lawful (rotating_ruling n t)
  rotating_lawful =
      counted_laws n t rotating_mark _ (3 * t + 1) (rotating_need t) least most few
      (λ j k. circle_within n (j + k) least (3 * t + 1)) (λ j k. circle_ones n (j + k) least (3 * t + 1) few)
      (omega arith) (omega arith)
