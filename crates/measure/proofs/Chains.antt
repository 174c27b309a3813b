-- A chain is the fold of its stamps over as many turns.
use Rattle.std.proofs.Common.{◌≡◌, ℕ, zero, suc, ◌+◌, List, refl, ap, ◌∙◌}
use Rattle.std.specs.List.{fold, range_with_len}
use Rattle.measure.specs.Chains.{chained}

-- the first stamp may be taken apart from the rest
after_first : (n : ℕ) (block m : List ℕ) → chained n block (chained 1 block m) ≡ chained (suc n) block m
unfolding chained
after_first zero block m = refl
after_first (suc n) block m = ap (chained 1 block) (after_first n block m)

pub folded : (n i : ℕ) (block m : List ℕ) → fold (λ a x. chained 1 block a) m (range_with_len i n) ≡ chained n block m
unfolding chained
folded zero i block m = refl
folded (suc n) i block m = folded n (i + 1) block (chained 1 block m) ∙ after_first n block m
