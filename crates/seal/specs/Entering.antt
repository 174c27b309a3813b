-- A register's room, when the next row is used.
use Rattle.std.proofs.Common.{arith, length-append}
use Rattle.std.specs.Prelude.{ℕ, ◌+◌, ◌-◌, ◌<◌, ◌≤◌, List, [], ◌∷◌, ◌++◌, sum, vec_len, vec_capacity, slice_index}
use Rattle.std.proofs.lemmas.List.Sums.{get_or-le-sum_by, sum_by-set}
use Rattle.std.specs.declared.vec.Vec.{Vec}
use Rattle.seal.specs.Houses.{left_of, spent}
use Rattle.seal.specs.Spending.{has_some, has_place}

-- there is room for as many rows, and there are numbers for as many, as are used and as seals are left
module _ (n used : ℕ) (left : List ℕ) (i limit : ℕ) (had : 0 < left_of n left i) (room : used + sum left ≤ limit) where
  pub next_within : used < limit
  next_within =
      let some = has_some n left i had in
      let part = get_or-le-sum_by (λ (x : ℕ). x) left i 0 (has_place n left i had) in
      omega arith

  pub room_kept : used + 1 + sum (spent left i) ≤ limit
  room_kept =
      let some = has_some n left i had in
      let change = sum_by-set (λ (x : ℕ). x) left i (slice_index left i - 1) 0 (has_place n left i had) in
      omega arith

-- v with one element more, for which it has room
abbrev pub longer : {X Z : Type 0} (v : Vec X Z) → X → vec_len v < vec_capacity v → Vec X Z
longer v x room =
    let long = length-append v.items (x ∷ []) in
    record { ptr = v.ptr; len = v.len + 1; cap = v.cap; alloc = v.alloc; items = v.items ++ (x ∷ []); ok = (omega (arith, v.ok.0), omega arith); small = v.small }
