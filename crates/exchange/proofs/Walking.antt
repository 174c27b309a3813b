-- Receipts that count for a statement: what the walk over a bundle's receipts takes, and what adds have gathered.
use Rattle.std.proofs.Common.{◌≡◌, ℕ, zero, suc, ◌+◌, ◌^◌, true, not, List, [], ◌∷◌, ◌++◌, length, Ok, Result, sym, ap, ◌∙◌, subst, arith}
use lib.Bits.{bit_or}
use lib.Count.{ones}
use Rattle.std.proofs.lemmas.Bool.{not-true, eqb-false}
use Rattle.bits.specs.Bits.{has}
use Rattle.bits.proofs.Bits.{has_le}
use Rattle.refusal.specs.declared.Refused.{Refused}
use Rattle.witness.specs.Rules.{Ruling}
use Rattle.witness.specs.CountingLemmas.{ones_added}
use Rattle.seal.specs.Meanings.{Meaning, Meant}
use Rattle.seal.specs.declared.statement.Statement.{Statement}
use Rattle.exchange.specs.Layout.{bundle_statement, bundle_count, receipt_house, receipt_seal}
use Rattle.exchange.specs.Machine.{member, go_on, walk}
use Rattle.exchange.specs.Law.{Receipt, receipts_from}
use Rattle.exchange.proofs.Questions.{went_on}
use Rattle.exchange.proofs.Walk.{this, walk_none, walk_more, Counts, counts_taken, taken_counts}
use Rattle.exchange.proofs.Files.{Fit}
use Rattle.exchange.proofs.Memory.{Sized}

pub no_member : (set i : ℕ) → not (member set i) ≡ true → has set i ≡ 0
no_member set i h = let no = eqb-false (has set i) 1 (not-true (member set i) h) in omega (arith, has_le set i)

-- whatever checks in one state checks in the other
abbrev pub Grows : {S : Type 0} → Meaning S → S → S → Type 0
Grows k s s' = (i : ℕ) (x : Statement) (z : List ℕ) → k.checks s i x z ≡ true → k.checks s' i x z ≡ true

module _ {S : Type 0} (r : Ruling) (k : Meaning S) where
  -- receipts that count one after the other, and the houses met after them
  abbrev pub Gathers : S → Statement → ℕ → List Receipt → ℕ → Type 0
  Gathers s x met [] out = met ≡ out
  Gathers s x met (z ∷ zs) out = Counts r k s x met z.house z.seal × Gathers s x (bit_or met (2 ^ z.house)) zs out

  pub gathers_more : (s : S) (x : Statement) (met : ℕ) (zs : List Receipt) (out : ℕ) (z : Receipt)
      → Gathers s x met zs out → Counts r k s x out z.house z.seal → Gathers s x met (zs ++ (z ∷ [])) (bit_or out (2 ^ z.house))
  gathers_more s x met [] out z e counts = (subst (λ (m : ℕ). Counts r k s x m z.house z.seal) (sym e) counts, ap (λ (m : ℕ). bit_or m (2 ^ z.house)) e)
  gathers_more s x met (y ∷ zs) out z g counts = (g.0, gathers_more s x (bit_or met (2 ^ y.house)) zs out z g.1 counts)

  pub gathers_grows : (s s' : S) (x : Statement) (met : ℕ) (zs : List Receipt) (out : ℕ) → Grows k s s' → Gathers s x met zs out → Gathers s' x met zs out
  gathers_grows s s' x met [] out grows e = e
  gathers_grows s s' x met (z ∷ zs) out grows g =
      let c = g.0 in (
        record { inside = c.inside; named = c.named; new = c.new; checks = grows z.house x z.seal c.checks },
        gathers_grows s s' x (bit_or met (2 ^ z.house)) zs out grows g.1,
      )

  pub gathers_ones : (s : S) (x : Statement) (met : ℕ) (zs : List Receipt) (out : ℕ) → Gathers s x met zs out → ones out ≡ ones met + length zs
  gathers_ones s x met [] out e = omega (arith, ap ones e)
  gathers_ones s x met (z ∷ zs) out g =
      omega (arith, gathers_ones s x (bit_or met (2 ^ z.house)) zs out g.1, ones_added met z.house (no_member met z.house g.0.new))

  pub gathers_sized : Meant k → (s : S) (x : Statement) (met : ℕ) (zs : List Receipt) (out : ℕ) → Gathers s x met zs out → Sized k.size zs
  gathers_sized meant s x met [] out e = tt
  gathers_sized meant s x met (z ∷ zs) out g =
      (meant.sized s z.house x z.seal g.0.checks, gathers_sized meant s x (bit_or met (2 ^ z.house)) zs out g.1)

  -- the walk over a bundle's receipts takes them
  pub gathers_walk : (s : S) (b : List ℕ) (n i met out : ℕ) → Gathers s (bundle_statement b) met (receipts_from k.size b n i) out → walk r k s b n i met ≡ Ok out
  unfolding receipts_from
  gathers_walk s b zero i met out e = walk_none r k s b i met ∙ ap Ok e
  gathers_walk s b (suc n) i met out g =
      let house = receipt_house k.size b i in
      walk_more r k s b n i met
      ∙ ap (λ (y : Result ℕ Refused). go_on y (λ all. walk r k s b n (i + 1) all)) (counts_taken r k s (bundle_statement b) (i + 1) met house (receipt_seal k.size b i) g.0)
      ∙ gathers_walk s b n (i + 1) (bit_or met (2 ^ house)) out g.1

  -- and takes no others
  pub walk_gathers : (s : S) (b : List ℕ) (n i met out : ℕ) → walk r k s b n i met ≡ Ok out → Gathers s (bundle_statement b) met (receipts_from k.size b n i) out
  unfolding receipts_from
  walk_gathers s b zero i met out taken = let none = walk_none r k s b i met in cc
  walk_gathers s b (suc n) i met out taken =
      let x = bundle_statement b in
      let step = went_on (this r k s b i met) _ out (sym (walk_more r k s b n i met) ∙ taken) in
      let counted = taken_counts r k s x (i + 1) met (receipt_house k.size b i) step.0 (receipt_seal k.size b i) step.1.0 in
      (counted.0, subst (λ (m : ℕ). Gathers s x m (receipts_from k.size b n (i + 1)) out) (sym counted.1) (walk_gathers s b n (i + 1) step.0 out step.1.1))

  -- a bundle that fits stays fit
  pub fit_grows : (s s' : S) (b : List ℕ) → Grows k s s' → Fit r k s b → Fit r k s' b
  fit_grows s s' b grows fit =
      let n = bundle_count b in
      let g = walk_gathers s b n 0 0 fit.signers fit.walked in
      record {
        long = fit.long;
        marked = fit.marked;
        housed = fit.housed;
        sized = fit.sized;
        signers = fit.signers;
        walked = gathers_walk s' b n 0 0 fit.signers (gathers_grows s s' (bundle_statement b) 0 (receipts_from k.size b n 0) fit.signers grows g);
        accepted = fit.accepted;
      }
