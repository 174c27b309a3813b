-- Laws of the numbers of seals that are shared out.
use Rattle.std.proofs.Common.{◌≡◌, ℕ, ◌+◌, ◌-◌, ◌*◌, ◌≤◌, ◌++◌, take, drop, length, replicate, sum, ap, ◌∙◌, ap₂, add-zero, mul-zero, length-take-le}
use Rattle.std.proofs.lemmas.List.{drop-replicate}
use Rattle.std.proofs.lemmas.List.Folds.{sum_by-replicate}
use Rattle.std.proofs.lemmas.List.Sums.{sum_by-append}
use Rattle.seal.specs.declared.houses.Supply.{Supply}
use Rattle.seal.specs.Houses.{most_houses, shares}

pub shares_sum : (n each : ℕ) → sum (shares n each) ≡ n * each
unfolding shares
shares_sum n each =
    sum_by-append (λ (x : ℕ). x) (replicate n each) (replicate (most_houses - n) 0)
    ∙ ap₂ (λ (a b : ℕ). a + b) (sum_by-replicate (λ (x : ℕ). x) n each) (sum_by-replicate (λ (x : ℕ). x) (most_houses - n) 0 ∙ mul-zero (most_houses - n))
    ∙ add-zero (n * each)

-- a supply of no house has no seal
pub no_seals : (y : Supply) → y.left ≡ shares 0 0 → sum y.left ≡ 0
no_seals y none = ap sum none ∙ shares_sum 0 0

-- the places that are filled, and those that are not
pub filled : (n each : ℕ) → n ≤ most_houses → replicate (length {A = ℕ} (take n (replicate most_houses 0))) each ++ drop n (replicate most_houses 0) ≡ shares n each
unfolding shares
filled n each within = simp (length-take-le, drop-replicate)
