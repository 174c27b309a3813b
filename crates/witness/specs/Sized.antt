-- Rules that compare a size: a set is accepted where its named members have at least the size that the rule needs.
use Rattle.std.specs.Prelude.{ℕ, Bool, cond, ◌&&◌, bit_and, count_ones, nat_le, nat_lt}
use Rattle.witness.specs.Rules.{Ruling}

-- whether j is one of the n houses, and k a number above 0
abbrev pub asked : ℕ → ℕ → ℕ → Bool
asked n j k = nat_lt j n && nat_lt 0 k

-- the houses m j k for a house and a number that can be asked of, and else none
abbrev pub named_of : ℕ → (ℕ → ℕ → ℕ) → ℕ → ℕ → ℕ
named_of n m j k = cond (asked n j k) (m j k) 0

-- the rule that names m and accepts a set whose named members have a size of at least need
abbrev pub sized : (n t mark : ℕ) → (m : ℕ → ℕ → ℕ) → (size : ℕ → ℕ) → (need : ℕ) → Ruling
sized n t mark m size need =
    record {
      houses = n;
      faults = t;
      mark = mark;
      named = named_of n m;
      accepts = λ j k s. nat_le need (size (bit_and s (named_of n m j k)));
    }

-- the rule that names m and accepts a set with at least need named members
abbrev pub counted : (n t mark : ℕ) → (m : ℕ → ℕ → ℕ) → (need : ℕ) → Ruling
counted n t mark m need = sized n t mark m count_ones need
