-- What opening a seal kind answers.
use Rattle.std.specs.Prelude.{◌≡◌, ℕ, Ok, Err, Result}
use Rattle.refusal.specs.declared.Refusal.{Refusal}
use Rattle.seal.specs.declared.houses.Supply.{Supply}
use Rattle.seal.specs.Houses.{shares}

-- it is refused as the questions say; a kind that it gives is such
abbrev pub Opens : {S : Type 0} → Result (Unit {0}) Refusal → (S → Type 0) → Result S Refusal → Type 0
Opens asked Such (Ok s) = (asked ≡ Ok tt) × Such s
Opens asked Such (Err e) = asked ≡ Err e

-- each of n houses has so many seals left
abbrev pub Shared : ℕ → ℕ → Supply → Type 0
Shared n each y = (y.houses ≡ n) × (y.left ≡ shares n each)
