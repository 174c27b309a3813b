-- The last questions of a file before the receipts, once those before them are answered yes.
use Rattle.std.proofs.Common.{◌≡◌, ℕ, ◌+◌, Bool, true, false, eqb, ltb, leb, List, length, Ok, Err, Result, sym, ap, ap₂, ◌∙◌}
use Rattle.refusal.specs.Questions.{ask, whole}
use Rattle.refusal.specs.declared.Refused.{Refused}
use Rattle.refusal.specs.declared.Refusal.{Refusal}
use Rattle.refusal.specs.declared.Refusal.TheVariants.{StationHouse, PagesTooLong, NoSuchHouse, NumberPast, NumberAhead, BundleTooShort, OtherRule, OtherPages, BundleLength}
use Rattle.sha256.specs.Text.{digest_of}
use Rattle.edition.specs.Pages.{most_bytes}
use Rattle.witness.specs.Rules.{Ruling}
use Rattle.seal.specs.Meanings.{Meaning}
use Rattle.exchange.specs.declared.station.Station.{Station}
use Rattle.exchange.specs.Stations.{row_of, same_digest}
use Rattle.exchange.specs.Layout.{head_length, receipt_at, bundle_mark, bundle_house, bundle_number, bundle_digest, bundle_count}
use Rattle.exchange.specs.Machine.{placed, file_questions}
use Rattle.exchange.proofs.Questions.{refused_not_taken, asked, yes_to, no_to}

-- two questions of which one refuses, followed by others
two_refused : (a b : Bool) (x y e : Refusal) (rest : Result (Unit {0}) Refused) → ask {A = Unit {0}} a x (ask b y (Ok tt)) ≡ Err e → ask a (whole x) (ask b (whole y) rest) ≡ Err (whole e)
two_refused true true x y e rest h = absurd (refused_not_taken e tt (sym h))
two_refused true false x y e rest h = ap placed h
two_refused false b x y e rest h = ap placed h

module _ {S : Type 0} (r : Ruling) (k : Meaning S) (x : Station) (b p : List ℕ)
    (member : ltb x.house r.houses ≡ true) (within : leb (length p) most_bytes ≡ true) (long : leb head_length (length b) ≡ true)
    (marked : eqb (bundle_mark b) r.mark ≡ true) (housed : ltb (bundle_house b) r.houses ≡ true)
  where
    abbrev last : ℕ
    last = (row_of x (bundle_house b)).last

    abbrev about_pages : Result (Unit {0}) Refused
    about_pages =
        ask (same_digest (bundle_digest b) (digest_of p)) (whole OtherPages)
        (ask (eqb (length b) (receipt_at k.size (bundle_count b))) (whole BundleLength) (Ok tt))

    five : file_questions r k x b p ≡ ask (ltb last (bundle_number b)) (whole NumberPast) (ask (eqb (bundle_number b) (last + 1)) (whole NumberAhead) about_pages)
    unfolding file_questions
    five =
        yes_to (ltb x.house r.houses) (whole StationHouse) _ member
        ∙ yes_to (leb (length p) most_bytes) (whole PagesTooLong) _ within
        ∙ yes_to (leb head_length (length b)) (whole BundleTooShort) _ long
        ∙ yes_to (eqb (bundle_mark b) r.mark) (whole OtherRule) _ marked
        ∙ yes_to (ltb (bundle_house b) r.houses) (whole NoSuchHouse) _ housed

    -- the number is not the next one
    pub other_number : (house number : ℕ) (e : Refusal) → house ≡ bundle_house b → number ≡ bundle_number b
        → ask {A = Unit {0}} (ltb (row_of x house).last number) NumberPast (ask (eqb number ((row_of x house).last + 1)) NumberAhead (Ok tt)) ≡ Err e
        → file_questions r k x b p ≡ Err (whole e)
    other_number house number e eh en refused =
        five
        ∙ ap₂ (λ (h n : ℕ). ask (ltb (row_of x h).last n) (whole NumberPast) (ask (eqb n ((row_of x h).last + 1)) (whole NumberAhead) about_pages)) (sym eh) (sym en)
        ∙ two_refused (ltb (row_of x house).last number) (eqb number ((row_of x house).last + 1)) NumberPast NumberAhead e about_pages refused

    pub other_length : (house number : ℕ) (t : Unit {0}) → house ≡ bundle_house b → number ≡ bundle_number b
        → ask {A = Unit {0}} (ltb (row_of x house).last number) NumberPast (ask (eqb number ((row_of x house).last + 1)) NumberAhead (Ok tt)) ≡ Ok t
        → same_digest (bundle_digest b) (digest_of p) ≡ true
        → eqb (length b) (receipt_at k.size (bundle_count b)) ≡ false → file_questions r k x b p ≡ Err (whole BundleLength)
    other_length house number t eh en taken same other =
        let later = asked (ltb (row_of x house).last number) NumberPast _ t taken in
        let next = asked (eqb number ((row_of x house).last + 1)) NumberAhead _ t later.1 in
        five
        ∙ ap₂ (λ (h n : ℕ). ask (ltb (row_of x h).last n) (whole NumberPast) (ask (eqb n ((row_of x h).last + 1)) (whole NumberAhead) about_pages)) (sym eh) (sym en)
        ∙ yes_to (ltb (row_of x house).last number) (whole NumberPast) _ later.0
        ∙ yes_to (eqb number ((row_of x house).last + 1)) (whole NumberAhead) _ next.0
        ∙ yes_to (same_digest (bundle_digest b) (digest_of p)) (whole OtherPages) _ same
        ∙ no_to (eqb (length b) (receipt_at k.size (bundle_count b))) (whole BundleLength) _ other
