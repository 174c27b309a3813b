-- Any sequence of signs from a register as it was opened.
use Rattle.std.specs.Prelude.{◌≡◌, ℕ, true, ◌⊎◌, List, [], ◌∷◌}
use Rattle.seal.specs.declared.register.Register.{Register}
use Rattle.seal.specs.declared.statement.Statement.{Statement}
use Rattle.seal.specs.Registers.{Unused, register}

-- a taken sign: the house and the statement
pub record Sign : Type 0 where
  pub house : ℕ
  pub statement : Statement

-- the register has come by these signs, the newest first, from one of which no row was used
abbrev pub CameBy : List Sign → Register → Type 0
CameBy [] s = Unused s
CameBy (a ∷ before) s' =
    (s : Register) × ((m : List ℕ) × ((m' : List ℕ) × (CameBy before s × register.signs s a.house a.statement m s' m')))

-- one of the signs was of that house on that statement
abbrev pub Signed : List Sign → ℕ → Statement → Type 0
Signed [] i x = ⊥
Signed (a ∷ before) i x = ((a.house ≡ i) × (a.statement ≡ x)) ⊎ Signed before i x

-- a seal that checks for a house and a statement was made by a sign of that house on that statement
abbrev pub SealsAreSigned : Type 0
SealsAreSigned =
    (signs : List Sign) (s : Register) → CameBy signs s
    → (i : ℕ) (x : Statement) (z : List ℕ) → register.checks s i x z ≡ true → Signed signs i x
