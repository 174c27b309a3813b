-- What every seal kind owes, of a register, and what a sign adds to what checks.
use Rattle.std.specs.Prelude.{◌≡◌, ℕ, ◌+◌, ◌<◌, ◌≤◌, true, ltb, ◌⊎◌, List, ◌++◌, length, take, drop, Some, Option, vec_len, vec_capacity, ◌==◌, ◌≢◌, nat_eq, nat_lt, refl}
use Rattle.std.specs.List.{slice_get}
use Rattle.std.proofs.Common.{inl, inr, ⊎_elim, sym, ap, ap₂, ◌∙◌, arith, lit≤}
use Rattle.std.proofs.lemmas.List.{take_at, drop_at}
use Rattle.std.proofs.lemmas.Bool.{and_parts, and_from, and_left, lt-ltb, le-ltb, eqb-true, eq-eqb, cases_eq}
use Rattle.seal.specs.declared.entry.Entry.{Entry}
use Rattle.seal.specs.declared.register.Register.{Register}
use Rattle.seal.specs.declared.statement.Statement.{Statement}
use Rattle.seal.specs.Houses.{left_of, spent}
use Rattle.seal.specs.Meanings.{Sealed, Meant}
use Rattle.seal.specs.Registers.{entries_of, used, row_at, Unused, row_checks, Entered, register}
use Rattle.seal.specs.Rows.{entry, holds, row_size, most_rows, row_bytes, row_number}
use Rattle.seal.specs.Entering.{next_within, room_kept, longer}
use Rattle.seal.specs.Fronts.{front_long}
use Rattle.seal.specs.RowsLemmas.{holds_own, holds_only, holds_within, next_row, other_rows, row_number_bytes}
use Rattle.seal.specs.Spending.{left_none, has_below, spent_falls, spent_others, spent_supply}

-- the three parts of what checks
record Checked (s : Register) (i : ℕ) (x : Statement) (z : List ℕ) : Type 0 where
  below : ltb i s.supply.houses ≡ true
  sized : nat_eq (length z) row_size ≡ true
  held : holds (row_at s (row_number z)) i x ≡ true

module _ (s : Register) (i : ℕ) (x : Statement) (z : List ℕ) where
  parts : register.checks s i x z ≡ true → Checked s i x z
  parts e =
      let first = and_parts (nat_lt i s.supply.houses) (row_checks s i x z) e in
      let second = and_parts (length z == row_size) (holds (row_at s (row_number z)) i x) first.1 in
      record { below = first.0; sized = second.0; held = second.1 }

  whole : Checked s i x z → register.checks s i x z ≡ true
  whole c =
      and_from (nat_lt i s.supply.houses) (row_checks s i x z) c.below
      (and_from (length z == row_size) (holds (row_at s (row_number z)) i x) c.sized c.held)

-- the state after a sign that is not refused
entering : (s : Register) (i : ℕ) → Statement → 0 < register.left s i → Register
entering s i x had =
    let n = s.supply.houses in
    let left = s.supply.left in
    let rows = vec_len s.entries in
    record {
      supply = spent_supply s.supply i;
      entries = longer s.entries (entry i x) (next_within n rows left i (vec_capacity s.entries) had s.room);
      room = room_kept n rows left i (vec_capacity s.entries) had s.room;
      numbered = room_kept n rows left i most_rows had s.numbered;
    }

goes : (s : Register) (i : ℕ) (x : Statement) (m : List ℕ) → 0 < register.left s i → row_size ≤ length m → (s' : Register) × ((m' : List ℕ) × Entered s i x m s' m')
unfolding entering
goes s i x m had fits =
    (entering s i x had, (row_bytes (used s) ++ drop row_size m, record { had = had; fits = fits; same_houses = refl; enters = refl; spends = refl; writes = refl }))

module _ (s : Register) (i : ℕ) (x : Statement) (m : List ℕ) (s' : Register) (m' : List ℕ) (t : Entered s i x m s' m') where
  -- the row that the sign used, and every other row
  new_row : row_at s' (used s) ≡ Some (entry i x)
  new_row = ap (λ (v : List Entry). slice_get v (used s)) t.enters ∙ next_row (entries_of s) (entry i x)

  old_row : (k : ℕ) → (k ≢ used s) → row_at s' k ≡ row_at s k
  old_row k other = ap (λ (v : List Entry). slice_get v k) t.enters ∙ other_rows (entries_of s) (entry i x) k other

  same_below : (k : ℕ) → nat_lt k s'.supply.houses ≡ nat_lt k s.supply.houses
  same_below k = ap (ltb k) t.same_houses

  seals : register.checks s' i x (take row_size m') ≡ true
  seals =
      let front = ap (take row_size) t.writes ∙ take_at (row_bytes (used s)) (drop row_size m) row_size refl in
      let number = ap row_number front ∙ row_number_bytes (used s) in
      whole s' i x (take row_size m') (
      record {
        below = same_below i ∙ lt-ltb i s.supply.houses (has_below s.supply.houses s.supply.left i t.had);
        sized = eq-eqb (length (take row_size m')) row_size (ap length front);
        held = ap (λ (row : Option Entry). holds row i x) (ap (row_at s') number ∙ new_row) ∙ holds_own i x;
      })

  keeps : (k : ℕ) (y : Statement) (z : List ℕ) → register.checks s k y z ≡ true → register.checks s' k y z ≡ true
  keeps k y z e =
      let c = parts s k y z e in
      let before = holds_within (entries_of s) (row_number z) k y c.held in
      whole s' k y z (
      record {
        below = same_below k ∙ c.below;
        sized = c.sized;
        held = ap (λ (row : Option Entry). holds row k y) (old_row (row_number z) (omega arith)) ∙ c.held;
      })

  -- what checks after a sign is what was signed, or checked before
  pub only_signed : (k : ℕ) (y : Statement) (z : List ℕ) → register.checks s' k y z ≡ true → ((i ≡ k) × (x ≡ y)) ⊎ (register.checks s k y z ≡ true)
  only_signed k y z e =
      let c = parts s' k y z e in
      ⊎_elim
      (λ here. inl (holds_only i x k y (ap (λ (row : Option Entry). holds row k y) (sym (ap (row_at s') here ∙ new_row)) ∙ c.held)))
      (λ other. inr (whole s k y z (
      record {
        below = sym (same_below k) ∙ c.below;
        sized = c.sized;
        held = ap (λ (row : Option Entry). holds row k y) (sym (old_row (row_number z) other)) ∙ c.held;
      })))
      (cases_eq (row_number z) (used s))

  -- what is left, by what was spent
  spends : (k : ℕ) → register.left s' k ≡ left_of s.supply.houses (spent s.supply.left i) k
  spends k = ap₂ (λ (n : ℕ) (left : List ℕ). left_of n left k) t.same_houses t.spends

  sound : Sealed register s i x m s' m'
  sound =
      record {
        seals = seals;
        keeps = keeps;
        rest = ap (drop row_size) t.writes ∙ drop_at (row_bytes (used s)) (drop row_size m) row_size refl;
        long = ap length t.writes ∙ front_long (row_bytes (used s)) m row_size refl t.fits;
        falls = ap (λ (n : ℕ). n + 1) (spends i) ∙ spent_falls s.supply.houses s.supply.left i t.had;
        others = λ k other. spends k ∙ spent_others s.supply.houses s.supply.left i k other;
        same_houses = t.same_houses;
      }

pub register_meant : Meant register
register_meant =
    record {
      least = lit≤ tt;
      most = lit≤ tt;
      sized = λ s i x z e. eqb-true (length z) row_size (parts s i x z e).sized;
      none_left = λ s i h. left_none s.supply.houses s.supply.left i h;
      none_check = λ s i x z h. and_left (nat_lt i s.supply.houses) (row_checks s i x z) (le-ltb i s.supply.houses h);
      goes = goes;
      sound = sound;
    }

-- where no row is used, nothing checks
pub none_checks : (s : Register) → Unused s → (i : ℕ) (x : Statement) (z : List ℕ) → register.checks s i x z ≢ true
none_checks s unused i x z e =
    let within = holds_within (entries_of s) (row_number z) i x (parts s i x z e).held in
    let none = ap length unused in
    omega arith
