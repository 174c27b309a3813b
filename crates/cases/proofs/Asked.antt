-- All that file asks before the receipts, of a bundle whose head is sound.
use Rattle.std.proofs.Common.{◌≡◌, ℕ, ◌+◌, ◌<◌, ◌≤◌, true, eqb, ltb, leb, List, length, Ok, refl, ap, ◌∙◌, arith}
use Rattle.std.proofs.lemmas.Bool.{lt-ltb, le-leb, eq-eqb}
use Rattle.refusal.specs.Questions.{whole}
use Rattle.refusal.specs.declared.Refusal.TheVariants.{StationHouse, PagesTooLong, NoSuchHouse, NumberPast, NumberAhead, BundleTooShort, OtherRule, OtherPages, BundleLength}
use Rattle.sha256.specs.Text.{digest_of}
use Rattle.edition.specs.Pages.{most_bytes}
use Rattle.witness.specs.Rules.{Ruling}
use Rattle.seal.specs.declared.statement.Statement.{Statement}
use Rattle.seal.specs.Meanings.{Meaning}
use Rattle.exchange.specs.declared.station.Station.{Station}
use Rattle.exchange.specs.Stations.{row_of, same_digest}
use Rattle.exchange.specs.Layout.{head_length, receipt_at, bundle_mark, bundle_house, bundle_number, bundle_digest, bundle_count, bundle_statement}
use Rattle.exchange.specs.Machine.{statement_of, file_questions}
use Rattle.exchange.proofs.Heads.{same_digests}
use Rattle.exchange.proofs.Questions.{yes_to}

module _ {S : Type 0} (r : Ruling) (k : Meaning S) (x : Station) (j n : ℕ) (b p : List ℕ)
    (own : x.house < r.houses) (member : j < r.houses) (next : n ≡ (row_of x j).last + 1) (within : length p ≤ most_bytes)
    (long : head_length ≤ length b) (read : bundle_statement b ≡ statement_of r j n (digest_of p)) (sized : length b ≡ receipt_at k.size (bundle_count b))
  where
    marked : bundle_mark b ≡ r.mark
    unfolding bundle_statement
    marked = ap (λ (y : Statement). y.mark) read

    housed : bundle_house b ≡ j
    unfolding bundle_statement
    housed = ap (λ (y : Statement). y.house) read

    numbered : bundle_number b ≡ n
    unfolding bundle_statement
    numbered = ap (λ (y : Statement). y.number) read

    same : same_digest (bundle_digest b) (digest_of p) ≡ true
    unfolding bundle_statement
    same = ap (λ (y : Statement). same_digest y.digest (digest_of p)) read ∙ same_digests (digest_of p) (digest_of p) refl

    last : (row_of x (bundle_house b)).last ≡ (row_of x j).last
    last = ap (λ (i : ℕ). (row_of x i).last) housed

    pub all_asked : file_questions r k x b p ≡ Ok tt
    unfolding file_questions
    all_asked =
        yes_to (ltb x.house r.houses) (whole StationHouse) _ (lt-ltb x.house r.houses own)
        ∙ yes_to (leb (length p) most_bytes) (whole PagesTooLong) _ (le-leb (length p) most_bytes within)
        ∙ yes_to (leb head_length (length b)) (whole BundleTooShort) _ (le-leb head_length (length b) long)
        ∙ yes_to (eqb (bundle_mark b) r.mark) (whole OtherRule) _ (eq-eqb (bundle_mark b) r.mark marked)
        ∙ yes_to (ltb (bundle_house b) r.houses) (whole NoSuchHouse) _ (lt-ltb (bundle_house b) r.houses (omega (arith, housed)))
        ∙ yes_to (ltb (row_of x (bundle_house b)).last (bundle_number b)) (whole NumberPast) _ (lt-ltb (row_of x (bundle_house b)).last (bundle_number b) (omega (arith, last, numbered)))
        ∙ yes_to (eqb (bundle_number b) ((row_of x (bundle_house b)).last + 1)) (whole NumberAhead) _ (eq-eqb (bundle_number b) ((row_of x (bundle_house b)).last + 1) (omega (arith, last, numbered)))
        ∙ yes_to (same_digest (bundle_digest b) (digest_of p)) (whole OtherPages) _ same
        ∙ yes_to (eqb (length b) (receipt_at k.size (bundle_count b))) (whole BundleLength) _ (eq-eqb (length b) (receipt_at k.size (bundle_count b)) sized)
