-- What follows from a rule's laws alone.
use Rattle.std.proofs.Common.{◌≡◌, ℕ, ◌<◌, true, sym, ap, ◌∙◌, arith}
use lib.Bits.{bit_and}
use lib.Count.{ones}
use Rattle.bits.specs.Bits.{has}
use Rattle.witness.specs.Consequences.{Trusted, Common, HonestInCommon, HonestSuffice}
use Rattle.witness.specs.Rules.{Ruling, Lawful}
use Rattle.witness.specs.Sets.{full, Within}
use Rattle.witness.specs.CountingLemmas.{ones_lacks, some_member}
use Rattle.witness.specs.Members.{members_within}
use Rattle.witness.specs.SetsLemmas.{and_and, has_each, or_subset, within_and, within_trans}

module _ {r : Ruling} (law : Lawful r) (j k : ℕ) where
  pub named_within : Within (r.named j k) (full r.houses)
  named_within = members_within (r.named j k) r.houses (law.below j k)

  -- a set that holds an accepted one is accepted
  pub grown : (a b : ℕ) → Within a b → r.accepts j k a ≡ true → r.accepts j k b ≡ true
  grown a b h e = ap (r.accepts j k) (sym (or_subset a b h)) ∙ law.grows j k a b e

  -- two accepted sets share more named houses than may misbehave
  pub share_named : (a b : ℕ) → r.accepts j k a ≡ true → r.accepts j k b ≡ true
      → r.faults < ones (bit_and (bit_and a b) (r.named j k))
  share_named a b p q =
      let m = r.named j k in
      let more = law.shares j k (bit_and a m) (bit_and b m) (sym (law.by_named j k a) ∙ p) (sym (law.by_named j k b) ∙ q) in
      omega (arith, more, ap ones (and_and a b m))

  module _ (honest : ℕ) (trusted : Trusted r honest) where
    -- more houses than may misbehave have an honest one among them
    pub some_honest : (s : ℕ) → Within s (full r.houses) → r.faults < ones s → (i : ℕ) × (has (bit_and honest s) i ≡ 1)
    some_honest s h l = some_member (bit_and honest s) (omega (arith, ones_lacks r.houses s honest h))

    pub common : (a b : ℕ) → r.accepts j k a ≡ true → r.accepts j k b ≡ true → Common r j k honest a b
    common a b p q =
        let m = r.named j k in
        let all = bit_and (bit_and a b) m in
        let found = some_honest all (within_trans all m (full r.houses) (within_and (bit_and a b) m) named_within) (share_named a b p q) in
        let first = has_each honest all found.0 found.1 in
        let second = has_each (bit_and a b) m found.0 first.1 in
        let third = has_each a b found.0 second.0 in
        record {
          house = found.0;
          is_house = law.below j k found.0 second.1;
          is_honest = first.0;
          is_named = second.1;
          in_first = third.0;
          in_second = third.1;
        }

    pub all_honest : (s : ℕ) → j < r.houses → 0 < k → Within (bit_and honest (r.named j k)) s → r.accepts j k s ≡ true
    all_honest s h l w =
        grown (bit_and honest (r.named j k)) s w (sym (law.by_named j k honest) ∙ law.enough j k honest h l trusted)

pub agreement : HonestInCommon
agreement r law j k honest a b trusted p q = common law j k honest trusted a b p q

pub progress : HonestSuffice
progress r law j k honest s trusted h l w = all_honest law j k honest trusted s h l w
