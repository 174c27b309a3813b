-- What the comparison gathers: zero exactly where no byte differs.
use Rattle.std.proofs.Common.{◌≡◌, ℕ, List, [], ◌∷◌, map, length, sym, refl, ap, ◌∙◌, ap₂, arith}
use Rattle.std.specs.List.{fold, zip}
use lib.Bits.{bit_or, bit_xor, and_le_l, and_le_r, or_add_and, xor_add_and, xor_self}

or_none : (d e : ℕ) → bit_or d e ≡ 0 → (d ≡ 0) × (e ≡ 0)
or_none d e h =
    let sum = or_add_and d e in
    let left = and_le_l d e in
    let right = and_le_r d e in
    (omega arith, omega arith)

xor_none : (x y : ℕ) → bit_xor x y ≡ 0 → x ≡ y
xor_none x y h =
    let sum = xor_add_and x y in
    let left = and_le_l x y in
    let right = and_le_r x y in
    omega arith

-- each byte of a xor the one of b beside it
abbrev pub apart : List ℕ → List ℕ → List ℕ
apart a b = map (λ (p : ℕ × ℕ). bit_xor p.0 p.1) (zip a b)

pub gathered : (diff : ℕ) (a b : List ℕ) → length a ≡ length b
    → (fold bit_or diff (apart a b) ≡ 0 → (diff ≡ 0) × (a ≡ b)) × (diff ≡ 0 → a ≡ b → fold bit_or diff (apart a b) ≡ 0)
gathered diff [] [] long = (λ none. (none, refl), λ none _. none)
gathered diff [] (y ∷ b) long = absurd (omega (arith, long))
gathered diff (x ∷ a) [] long = absurd (omega (arith, long))
gathered diff (x ∷ a) (y ∷ b) long =
    let rest : length a ≡ length b = omega (arith, long) in
    let after = gathered (bit_or diff (bit_xor x y)) a b rest in (
      λ none.
          let parts = after.0 none in
          let before = or_none diff (bit_xor x y) parts.0 in
          (before.0, ap₂ (λ (v : ℕ) (vs : List ℕ). v ∷ vs) (xor_none x y before.1) parts.1),
      λ none same.
          let here : x ≡ y = cc in
          let others : a ≡ b = cc in
          after.1 (ap₂ bit_or none (ap (bit_xor x) (sym here) ∙ xor_self x)) others,
    )
