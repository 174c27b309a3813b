-- Chains of questions, taken apart and put together.
use Rattle.std.proofs.Common.{◌≡◌, ℕ, Bool, true, false, Ok, Err, Result, sym, refl, arith}
use Rattle.std.proofs.lemmas.Bool.{false≢true}
use Rattle.refusal.specs.Questions.{ask}
use Rattle.exchange.specs.Machine.{go_on}

pub refused_not_taken : {A E : Type 0} (e : E) (x : A) → ◌≡◌ {A = Result A E} (Err e) (Ok x) → ⊥
refused_not_taken e x h = let z : ◌≡◌ {A = ℕ} 0 1 = cc in omega arith

refused_alike : {A E : Type 0} (e f : E) → ◌≡◌ {A = Result A E} (Err e) (Err f) → f ≡ e
refused_alike e f h = cc

-- a taken chain had a yes, and went on
pub asked : {A E : Type 0} (holds : Bool) (e : E) (rest : Result A E) (x : A) → ask holds e rest ≡ Ok x → (holds ≡ true) × (rest ≡ Ok x)
asked true e rest x taken = (refl, taken)
asked false e rest x taken = absurd (refused_not_taken e x taken)

-- one question that refused had a no
pub denied : {A E : Type 0} (holds : Bool) (e : E) (x : A) (f : E) → ask holds e (Ok x) ≡ Err f → (holds ≡ false) × (f ≡ e)
denied true e x f refused = absurd (refused_not_taken f x (sym refused))
denied false e x f refused = (refl, refused_alike e f refused)

-- a yes goes on
pub yes_to : {A E : Type 0} (holds : Bool) (e : E) (rest : Result A E) → holds ≡ true → ask holds e rest ≡ rest
yes_to true e rest h = refl
yes_to false e rest h = absurd (false≢true h)

-- a no refuses
pub no_to : {A E : Type 0} (holds : Bool) (e : E) (rest : Result A E) → holds ≡ false → ask holds e rest ≡ Err e
no_to false e rest h = refl
no_to true e rest h = absurd (false≢true (sym h))

-- what went on, and from what
pub went_on : {A B E : Type 0} (first : Result A E) (next : A → Result B E) (y : B) → go_on first next ≡ Ok y → (x : A) × ((first ≡ Ok x) × (next x ≡ Ok y))
went_on (Ok x) next y taken = (x, (refl, taken))
went_on (Err e) next y taken = absurd (refused_not_taken e y taken)
