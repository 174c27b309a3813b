-- What a seal kind means: which seals check, how many each house has left, and what a sign leaves.
use Rattle.std.specs.Prelude.{◌≡◌, ℕ, ◌+◌, ◌<◌, ◌≤◌, Bool, true, false, List, length, take, drop, Ok, Err, Result, ◌≢◌}
use Rattle.refusal.specs.declared.Refusal.{Refusal}
use Rattle.seal.specs.declared.statement.Statement.{Statement}
use Rattle.seal.specs.Houses.{sign_asked}

-- the meaning of a seal kind whose states are of type S
pub record Meaning (S : Type 0) : Type 1 where
  -- how many bytes a seal has
  pub size : ℕ
  -- the kind's own number of houses
  pub houses : S → ℕ
  -- whether these bytes are the house's seal on the statement
  pub checks : S → ℕ → Statement → List ℕ → Bool
  -- how many seals the house has left
  pub left : S → ℕ → ℕ
  -- a taken sign: from a state, a house, a statement and memory to a state and memory
  pub signs : S → ℕ → Statement → List ℕ → S → List ℕ → Type 0

-- what holds of every taken sign
pub record Sealed {S : Type 0} (k : Meaning S) (s : S) (house : ℕ) (statement : Statement) (m : List ℕ) (s' : S) (m' : List ℕ) : Type 0 where
  -- the memory's front is a seal that checks
  pub seals : k.checks s' house statement (take k.size m') ≡ true
  -- whatever checked still checks
  pub keeps : (i : ℕ) (x : Statement) (z : List ℕ) → k.checks s i x z ≡ true → k.checks s' i x z ≡ true
  -- the memory's other bytes stay
  pub rest : drop k.size m' ≡ drop k.size m
  pub long : length m' ≡ length m
  -- the house has one seal less, every other as many as before
  pub falls : k.left s' house + 1 ≡ k.left s house
  pub others : (i : ℕ) → (i ≢ house) → k.left s' i ≡ k.left s i
  pub same_houses : k.houses s' ≡ k.houses s

-- the laws that each seal kind owes
pub record Meant {S : Type 0} (k : Meaning S) : Type 0 where
  pub least : 1 ≤ k.size
  pub most : k.size ≤ 2048
  -- a seal of another length does not check
  pub sized : (s : S) (i : ℕ) (x : Statement) (z : List ℕ) → k.checks s i x z ≡ true → length z ≡ k.size
  -- a house not below the kind's number has no seal left, and none of its seals checks
  pub none_left : (s : S) (i : ℕ) → k.houses s ≤ i → k.left s i ≡ 0
  pub none_check : (s : S) (i : ℕ) (x : Statement) (z : List ℕ) → k.houses s ≤ i → k.checks s i x z ≡ false
  -- a sign that is not refused has a step
  pub goes : (s : S) (i : ℕ) (x : Statement) (m : List ℕ) → 0 < k.left s i → k.size ≤ length m → (s' : S) × ((m' : List ℕ) × k.signs s i x m s' m')
  pub sound : (s : S) (i : ℕ) (x : Statement) (m : List ℕ) (s' : S) (m' : List ℕ) → k.signs s i x m s' m' → Sealed k s i x m s' m'

-- what a sign asks, of a house and of the memory's length
abbrev pub sign_answer : {S : Type 0} → Meaning S → S → ℕ → ℕ → Result (Unit {0}) Refusal
sign_answer k s house room = sign_asked (k.left s house) k.size room

-- what a sign leaves: a taken one is a step of the kind, a refused one changes nothing
abbrev pub Signing : {S E : Type 0} → Meaning S → Result (Unit {0}) E → ℕ → Statement → S → List ℕ → S → List ℕ → Type 0
Signing k (Ok t) house statement s m s' m' = k.signs s house statement m s' m'
Signing k (Err e) house statement s m s' m' = (s' ≡ s) × (m' ≡ m)
