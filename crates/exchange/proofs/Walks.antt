-- What a walk over a bundle's receipts has met.
use Rattle.std.proofs.Common.{◌≡◌, ℕ, zero, suc, ◌+◌, ◌^◌, ◌<◌, ◌≤◌, true, ◌⊎◌, List, length, Ok, sym, ap, ◌∙◌, subst, inl, inr, ⊎_elim, mul-le-mul_right, zero-add, arith}
use lib.Bits.{bit_or}
use Rattle.std.proofs.lemmas.Bool.{cases_eq, eqb-true}
use Rattle.bits.specs.Bits.{has}
use Rattle.witness.specs.Rules.{Ruling}
use Rattle.witness.specs.Members.{has_kept, has_none}
use Rattle.seal.specs.Meanings.{Meaning}
use Rattle.exchange.specs.Layout.{receipt_length, receipt_at, receipt_house, receipt_seal, bundle_count, bundle_statement}
use Rattle.exchange.specs.Machine.{walk}
use Rattle.exchange.proofs.Questions.{went_on}
use Rattle.exchange.proofs.Walk.{this, walk_none, walk_more, taken_counts}
use Rattle.exchange.proofs.Files.{Fit}

-- whoever is met with one house more was met before, or is that house
met_more : (met house z : ℕ) → has (bit_or met (2 ^ house)) z ≡ 1 → (has met z ≡ 1) ⊎ (house ≡ z)
met_more met house z now = ⊎_elim inr (λ other. inl (sym (has_kept met house z other) ∙ now)) (cases_eq house z)

module _ {S : Type 0} (r : Ruling) (k : Meaning S) (s : S) (b : List ℕ) where
  -- house z has a receipt before place n whose seal checks
  pub record Receipted (n z : ℕ) : Type 0 where
    pub place : ℕ
    pub before : place < n
    pub house : receipt_house k.size b place ≡ z
    pub checks : k.checks s (receipt_house k.size b place) (bundle_statement b) (receipt_seal k.size b place) ≡ true

  -- whoever is met in the end was met before, or has such a receipt
  walk_met : (n i met all : ℕ) → walk r k s b n i met ≡ Ok all → (z : ℕ) → has all z ≡ 1 → (has met z ≡ 1) ⊎ Receipted (i + n) z
  walk_met zero i met all walked z z-in = inl (let none = walk_none r k s b i met in let e : all ≡ met = cc in ap (λ (x : ℕ). has x z) (sym e) ∙ z-in)
  walk_met (suc n) i met all walked z z-in =
      let house = receipt_house k.size b i in
      let step = went_on (this r k s b i met) _ all (sym (walk_more r k s b n i met) ∙ walked) in
      let counted = taken_counts r k s (bundle_statement b) (i + 1) met house step.0 (receipt_seal k.size b i) step.1.0 in
      let later : i + 1 + n ≡ i + suc n = omega arith in
      let before = λ (now : has step.0 z ≡ 1). met_more met house z (ap (λ (x : ℕ). has x z) counted.1 ∙ now) in
      ⊎_elim
      (λ now. ⊎_elim inl (λ same. inr (record { place = i; before = omega arith; house = same; checks = counted.0.checks })) (before now))
      (λ receipt. inr (subst (λ (m : ℕ). Receipted m z) later receipt))
      (walk_met n (i + 1) step.0 all step.1.1 z z-in)

  module _ (fit : Fit r k s b) where
    -- every signer has a receipt
    pub signer_receipted : (z : ℕ) → has fit.signers z ≡ 1 → Receipted (bundle_count b) z
    signer_receipted z z-in =
        ⊎_elim (λ none. absurd (omega (arith, has_none z))) (subst (λ (n : ℕ). Receipted n z) (zero-add (bundle_count b)))
        (walk_met (bundle_count b) 0 0 fit.signers fit.walked z z-in)

    -- each receipt stands whole in the bundle
    pub receipt_whole : (i : ℕ) → i < bundle_count b → receipt_at k.size (i + 1) ≤ length b
    receipt_whole i inside =
        let up_to : i + 1 ≤ bundle_count b = omega arith in
        omega (arith, mul-le-mul_right (receipt_length k.size) up_to, eqb-true (length b) (receipt_at k.size (bundle_count b)) fit.sized)
