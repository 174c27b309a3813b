-- What a taken file says of the bundle, the station and the pages; and that with all of it a file is taken.
use Rattle.std.proofs.Common.{◌≡◌, ℕ, ◌+◌, true, eqb, ltb, leb, List, length, Ok, Err, Result, sym, ap, ◌∙◌}
use Rattle.refusal.specs.Questions.{ask, after, whole}
use Rattle.refusal.specs.declared.Refused.{Refused}
use Rattle.refusal.specs.declared.Refusal.TheVariants.{StationHouse, PagesTooLong, NoSuchHouse, NumberPast, NumberAhead, NotAccepted, BundleTooShort, OtherRule, OtherPages, BundleLength}
use Rattle.sha256.specs.Text.{digest_of}
use Rattle.edition.specs.Pages.{most_bytes}
use Rattle.witness.specs.Rules.{Ruling}
use Rattle.seal.specs.declared.statement.Statement.{Statement}
use Rattle.seal.specs.Meanings.{Meaning}
use Rattle.exchange.specs.declared.station.Station.{Station}
use Rattle.exchange.specs.declared.filing.Filing.{Filing}
use Rattle.exchange.specs.Stations.{row_of, same_digest, with_row, filed_row}
use Rattle.exchange.specs.Layout.{head_length, receipt_at, bundle_mark, bundle_house, bundle_number, bundle_digest, bundle_count, bundle_statement}
use Rattle.exchange.specs.Machine.{go_on, walk, file_questions, file_answer, file_station}
use Rattle.exchange.proofs.Questions.{asked, yes_to, went_on}

module _ {S : Type 0} (r : Ruling) (k : Meaning S) where
  -- all that file asks of a bundle alone, upon the seals in the state s
  pub record Fit (s : S) (b : List ℕ) : Type 0 where
    pub long : leb head_length (length b) ≡ true
    pub marked : eqb (bundle_mark b) r.mark ≡ true
    pub housed : ltb (bundle_house b) r.houses ≡ true
    pub sized : eqb (length b) (receipt_at k.size (bundle_count b)) ≡ true
    pub signers : ℕ
    pub walked : walk r k s b (bundle_count b) 0 0 ≡ Ok signers
    pub accepted : r.accepts (bundle_house b) (bundle_number b) signers ≡ true

  -- and what it asks of the station and the pages for that bundle
  pub record Due (x : Station) (b p : List ℕ) : Type 0 where
    pub member : ltb x.house r.houses ≡ true
    pub within : leb (length p) most_bytes ≡ true
    pub later : ltb (row_of x (bundle_house b)).last (bundle_number b) ≡ true
    pub next : eqb (bundle_number b) ((row_of x (bundle_house b)).last + 1) ≡ true
    pub same : same_digest (bundle_digest b) (digest_of p) ≡ true

  abbrev pub filing : Station → List ℕ → ℕ → Filing
  filing x b signers = record { station = x.house; house = bundle_house b; number = bundle_number b; digest = bundle_digest b; signers = signers }

  pub record TakenFile (s : S) (x : Station) (b p : List ℕ) (f : Filing) : Type 0 where
    pub fit : Fit s b
    pub due : Due x b p
    pub is : f ≡ filing x b fit.signers

  -- all that is asked before the receipts
  pub record Answered (x : Station) (b p : List ℕ) : Type 0 where
    pub long : leb head_length (length b) ≡ true
    pub marked : eqb (bundle_mark b) r.mark ≡ true
    pub housed : ltb (bundle_house b) r.houses ≡ true
    pub sized : eqb (length b) (receipt_at k.size (bundle_count b)) ≡ true
    pub due : Due x b p

  pub questions_answered : (x : Station) (b p : List ℕ) → file_questions r k x b p ≡ Ok tt → Answered x b p
  unfolding file_questions
  questions_answered x b p taken =
      let q1 = asked (ltb x.house r.houses) (whole StationHouse) _ tt taken in
      let q2 = asked (leb (length p) most_bytes) (whole PagesTooLong) _ tt q1.1 in
      let q3 = asked (leb head_length (length b)) (whole BundleTooShort) _ tt q2.1 in
      let q4 = asked (eqb (bundle_mark b) r.mark) (whole OtherRule) _ tt q3.1 in
      let q5 = asked (ltb (bundle_house b) r.houses) (whole NoSuchHouse) _ tt q4.1 in
      let q6 = asked (ltb (row_of x (bundle_house b)).last (bundle_number b)) (whole NumberPast) _ tt q5.1 in
      let q7 = asked (eqb (bundle_number b) ((row_of x (bundle_house b)).last + 1)) (whole NumberAhead) _ tt q6.1 in
      let q8 = asked (same_digest (bundle_digest b) (digest_of p)) (whole OtherPages) _ tt q7.1 in
      let q9 = asked (eqb (length b) (receipt_at k.size (bundle_count b))) (whole BundleLength) _ tt q8.1 in
      record {
        long = q3.0;
        marked = q4.0;
        housed = q5.0;
        sized = q9.0;
        due = record { member = q1.0; within = q2.0; later = q6.0; next = q7.0; same = q8.0 };
      }

  -- a taken file
  pub file_taken : (s : S) (x : Station) (b p : List ℕ) (f : Filing) → file_answer r k s x b p ≡ Ok f → TakenFile s x b p f
  file_taken s x b p f taken =
      let after_questions = went_on (file_questions r k x b p) _ f taken in
      let first = questions_answered x b p after_questions.1.0 in
      let after-walk = went_on (walk r k s b (bundle_count b) 0 0) _ f after_questions.1.1 in
      let last = asked (r.accepts (bundle_house b) (bundle_number b) after-walk.0) (whole NotAccepted) _ f after-walk.1.1 in
      record {
        fit = record { long = first.long; marked = first.marked; housed = first.housed; sized = first.sized; signers = after-walk.0; walked = after-walk.1.0; accepted = last.0 };
        due = first.due;
        is = let e = last.1 in cc;
      }

  -- the last question, from what the receipts gave
  abbrev judged : Station → List ℕ → Result ℕ Refused → Result Filing Refused
  judged x b y =
      go_on y (λ signers. ask (r.accepts (bundle_house b) (bundle_number b) signers) (whole NotAccepted)
      (Ok (record { station = x.house; house = bundle_house b; number = bundle_number b; digest = bundle_digest b; signers = signers })))

  after_questions : (s : S) (x : Station) (b p : List ℕ) → file_questions r k x b p ≡ Ok tt → file_answer r k s x b p ≡ judged x b (walk r k s b (bundle_count b) 0 0)
  after_questions s x b p first = ap (λ (y : Result (Unit {0}) Refused). go_on y (λ _. judged x b (walk r k s b (bundle_count b) 0 0))) first

  -- a file whose receipts are taken
  pub file_judged : (s : S) (x : Station) (b p : List ℕ) (signers : ℕ) → file_questions r k x b p ≡ Ok tt → walk r k s b (bundle_count b) 0 0 ≡ Ok signers
      → file_answer r k s x b p ≡ ask (r.accepts (bundle_house b) (bundle_number b) signers) (whole NotAccepted) (Ok (filing x b signers))
  file_judged s x b p signers first walked = after_questions s x b p first ∙ ap (judged x b) walked

  -- a file that is taken
  pub fit_files : (s : S) (x : Station) (b p : List ℕ) → (fit : Fit s b) → Due x b p → file_answer r k s x b p ≡ Ok (filing x b fit.signers)
  unfolding file_questions
  fit_files s x b p fit due =
      let q9 = yes_to {A = Unit {0}} (eqb (length b) (receipt_at k.size (bundle_count b))) (whole BundleLength) (Ok tt) fit.sized in
      let q8 = yes_to (same_digest (bundle_digest b) (digest_of p)) (whole OtherPages) _ due.same ∙ q9 in
      let q7 = yes_to (eqb (bundle_number b) ((row_of x (bundle_house b)).last + 1)) (whole NumberAhead) _ due.next ∙ q8 in
      let q6 = yes_to (ltb (row_of x (bundle_house b)).last (bundle_number b)) (whole NumberPast) _ due.later ∙ q7 in
      let q5 = yes_to (ltb (bundle_house b) r.houses) (whole NoSuchHouse) _ fit.housed ∙ q6 in
      let q4 = yes_to (eqb (bundle_mark b) r.mark) (whole OtherRule) _ fit.marked ∙ q5 in
      let q3 = yes_to (leb head_length (length b)) (whole BundleTooShort) _ fit.long ∙ q4 in
      let q2 = yes_to (leb (length p) most_bytes) (whole PagesTooLong) _ due.within ∙ q3 in
      let q1 = yes_to (ltb x.house r.houses) (whole StationHouse) _ due.member ∙ q2 in
      file_judged s x b p fit.signers q1 fit.walked
      ∙ yes_to (r.accepts (bundle_house b) (bundle_number b) fit.signers) (whole NotAccepted) (Ok (filing x b fit.signers)) fit.accepted

  -- the same, from the statement and the count as they are read
  pub file_read : (s : S) (x : Station) (b p : List ℕ) (y : Statement) (count signers : ℕ) → file_questions r k x b p ≡ Ok tt → y ≡ bundle_statement b → count ≡ bundle_count b
      → walk r k s b count 0 0 ≡ Ok signers
      → file_answer r k s x b p ≡ ask (r.accepts y.house y.number signers) (whole NotAccepted)
      (Ok (record { station = x.house; house = y.house; number = y.number; digest = y.digest; signers = signers }))
  unfolding bundle_statement
  file_read s x b p y count signers first same counted walked =
      file_judged s x b p signers first (ap (λ (n : ℕ). walk r k s b n 0 0) (sym counted) ∙ walked)
      ∙ ap (λ (z : Statement). ask (r.accepts z.house z.number signers) (whole NotAccepted) (Ok (record { station = x.house; house = z.house; number = z.number; digest = z.digest; signers = signers }))) (sym same)

  -- a refused file leaves the station, a taken one changes the row of its house
  pub station_kept : (s : S) (x : Station) (b p : List ℕ) (e : Refused) → file_answer r k s x b p ≡ Err e → file_station r k s x b p ≡ x
  station_kept s x b p e refused = ap (λ (y : Result Filing Refused). after y (λ _. with_row x (bundle_house b) (filed_row (row_of x (bundle_house b)))) x) refused

  pub station_filed : (s : S) (x : Station) (b p : List ℕ) (f : Filing) → file_answer r k s x b p ≡ Ok f
      → file_station r k s x b p ≡ with_row x (bundle_house b) (filed_row (row_of x (bundle_house b)))
  station_filed s x b p f taken = ap (λ (y : Result Filing Refused). after y (λ _. with_row x (bundle_house b) (filed_row (row_of x (bundle_house b)))) x) taken

  -- a taken file answers the house and the number of its bundle
  pub filed_as : (s : S) (x : Station) (b p : List ℕ) (f : Filing) → file_answer r k s x b p ≡ Ok f → (f.house ≡ bundle_house b) × (f.number ≡ bundle_number b)
  filed_as s x b p f taken = let is = (file_taken s x b p f taken).is in (ap (λ (y : Filing). y.house) is, ap (λ (y : Filing). y.number) is)
