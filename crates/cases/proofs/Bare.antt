-- A bundle of no receipts is not accepted.
use Rattle.std.proofs.Common.{◌≡◌, ℕ, ◌+◌, ◌<◌, ◌≤◌, false, List, [], length, Err, refl, ap, ◌∙◌, ⊎_elim, zero-mul, arith, lit≤}
use lib.Count.{ones}
use Rattle.std.proofs.lemmas.Bool.{cases_Bool}
use Rattle.refusal.specs.Questions.{whole}
use Rattle.refusal.specs.declared.Refusal.TheVariants.{NotAccepted}
use Rattle.sha256.specs.Text.{digest_of, bytes32}
use Rattle.edition.specs.Pages.{most_bytes}
use Rattle.witness.specs.Rules.{Ruling, Lawful}
use Rattle.seal.specs.Meanings.{Meaning}
use Rattle.seal.specs.Statements.{laid_out}
use Rattle.exchange.specs.declared.station.Station.{Station}
use Rattle.exchange.specs.Stations.{row_of}
use Rattle.exchange.specs.Layout.{head_length, receipt_at, bundle_house, bundle_number, bundle_count, bundle_statement}
use Rattle.exchange.specs.Machine.{statement_of, walk, file_answer}
use Rattle.exchange.proofs.Questions.{no_to}
use Rattle.exchange.proofs.Files.{file_judged}
use Rattle.cases.specs.Cases.{bare_bundle}
use Rattle.exchange.proofs.Heads.{stated}
use Rattle.cases.proofs.Asked.{all_asked}

-- a lawful rule does not accept the empty set, since two accepted sets share a house
nobody_accepted : {r : Ruling} → Lawful r → (j n : ℕ) → r.accepts j n 0 ≡ false
unfolding ones
nobody_accepted {r} law j n =
    ⊎_elim (λ yes. absurd (none (law.shares j n 0 0 yes yes))) (λ answer. answer) (cases_Bool (r.accepts j n 0))
  where
    none : {t : ℕ} → t < 0 → ⊥
    none h = omega arith

module _ {S : Type 0} (r : Ruling) (k : Meaning S) (x : Station) (j n : ℕ) (p : List ℕ) where
  abbrev b : List ℕ
  b = bare_bundle r j n p

  long : head_length ≤ length b
  unfolding laid_out bytes32
  long = lit≤ tt

  counted : bundle_count b ≡ 0
  unfolding laid_out bytes32
  counted = refl

  sized : length b ≡ receipt_at k.size (bundle_count b)
  unfolding laid_out bytes32
  sized = rw zero-mul

  read : bundle_statement b ≡ statement_of r j n (digest_of p)
  unfolding laid_out bytes32
  read = stated p (statement_of r j n (digest_of p)) 0 [] refl

  pub bare_refused : x.house < r.houses → j < r.houses → n ≡ (row_of x j).last + 1 → length p ≤ most_bytes
      → Lawful r → (s : S) → file_answer r k s x b p ≡ Err (whole NotAccepted)
  unfolding walk
  bare_refused own member next within law s =
      let first = all_asked r k x j n b p own member next within long read sized in
      file_judged r k s x b p 0 first (ap (λ (c : ℕ). walk r k s b c 0 0) counted)
      ∙ no_to (r.accepts (bundle_house b) (bundle_number b) 0) (whole NotAccepted) _ (nobody_accepted law (bundle_house b) (bundle_number b))
