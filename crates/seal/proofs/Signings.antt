-- Whatever checks was signed.
use Rattle.std.proofs.Common.{[], ◌∷◌, inl, inr, ⊎_elim}
use Rattle.seal.specs.Signings.{SealsAreSigned}
use Rattle.seal.specs.RegisterLaws.{only_signed, none_checks}

pub seals_are_signed : SealsAreSigned
seals_are_signed [] s unused i x z e = none_checks s unused i x z e
seals_are_signed (a ∷ before) s' (s, (m, (m', (came, t)))) i x z e =
    ⊎_elim inl (λ old. inr (seals_are_signed before s came i x z old)) (only_signed s a.house a.statement m s' m' t i x z e)
