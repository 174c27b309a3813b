-- One house announces, notes, gathers, issues and files.
use Rattle.std.proofs.Common.{◌≡◌, ℕ, ◌<◌, ◌≤◌, true, leb, List, [], ◌∷◌, ◌++◌, length, replicate, Ok, Result, sym, refl, ap, ◌∙◌, inl, inr, ⊎_elim, arith, lit≤}
use lib.Count.{ones}
use lib.Seq.{paste}
use Rattle.std.proofs.lemmas.Bool.{le-leb}
use Rattle.bits.specs.Bits.{has}
use Rattle.refusal.specs.Questions.{whole, at_receipt}
use Rattle.refusal.specs.declared.Refused.{Refused}
use Rattle.refusal.specs.declared.Refusal.TheVariants.{PagesTooLong, SealFails}
use Rattle.sha256.specs.Text.{digest_of, bytes32}
use Rattle.edition.specs.Pages.{most_bytes}
use Rattle.seal.specs.declared.register.Register.{Register}
use Rattle.seal.specs.declared.statement.Statement.{Statement}
use Rattle.seal.specs.Registers.{used, Unused, Entered, register}
use Rattle.seal.specs.Rows.{row_bytes}
use Rattle.seal.specs.Statements.{laid_out, statement_bytes}
use Rattle.seal.specs.RegisterLaws.{register_meant}
use Rattle.exchange.specs.declared.station.Station.{Station}
use Rattle.exchange.specs.declared.gathering.Gathering.{Gathering}
use Rattle.exchange.specs.declared.gathering.Closed.{Closed}
use Rattle.exchange.specs.declared.filing.Filing.{Filing}
use Rattle.exchange.specs.Stations.{fresh_station}
use Rattle.exchange.specs.Layout.{head_bytes, bundle_statement}
use Rattle.exchange.specs.Machine.{statement_of, go_on, receipt_answer, with_house, announce_answer, add_answer, walk, file_answer, file_station}
use Rattle.exchange.specs.Runs.{Event, announced, noted, started, added, closed, issued, filed, World, open_with, closed_with, gone, opened, at_station, at_gathering, at_seal, Step, Run, Some, Each}
use Rattle.exchange.specs.Law.{Hands, Fair, Conditions}
use Rattle.exchange.proofs.Questions.{yes_to}
use Rattle.exchange.proofs.Files.{file_read}
use Rattle.cases.specs.Dishonest.{seal_memory}
use Rattle.cases.specs.Filing.{alone, only_zero, RunThatFiles, ConditionsCanHold, ConditionsCanHoldOpened}
use Rattle.cases.proofs.Asked.{all_asked}
use Rattle.cases.proofs.Forging.{register_unforged}
use Rattle.cases.proofs.Taken as taken
use Rattle.exchange.proofs.Heads.{stated}

-- memory for a bundle of one receipt
abbrev bundle_memory : List ℕ
bundle_memory = replicate 40 0

-- over the pages, and the register before and after house 0 signs
module _ (p : List ℕ) (e s : Register) where
  -- the seal of house 0
  abbrev z : List ℕ
  z = row_bytes (used e)

  abbrev statement : Statement
  statement = statement_of alone 0 1 (digest_of p)

  -- the station after announcing, and after noting
  abbrev announcing : Station
  announcing = taken.one_more (fresh_station 0)

  abbrev noting : Station
  noting = taken.with_note announcing 0 1 (digest_of p)

  -- the gathering at its start, and with the receipt
  abbrev starting : Gathering
  starting = record { notice = record { house = 0; number = 1; digest = digest_of p }; gathered = 0 }

  abbrev adding : Gathering
  adding = with_house starting 0

  abbrev closing : Closed
  closing = record { whole = adding }

  -- the memory with the receipt, and with the head
  abbrev with_receipt : List ℕ
  with_receipt = paste bundle_memory 37 (0 ∷ z) 3

  abbrev with_head : List ℕ
  with_head = paste with_receipt 0 (head_bytes statement 1) 37

  abbrev bundle : List ℕ
  bundle = statement_bytes statement ++ (1 ∷ 0 ∷ z)

  abbrev filing : Filing
  filing = record { station = 0; house = 0; number = 1; digest = digest_of p; signers = 1 }

  -- the worlds from call to call
  abbrev w0 : World Register
  w0 = opened e fresh_station

  abbrev w1 : World Register
  w1 = at_station w0 0 announcing

  abbrev w2 : World Register
  w2 = at_seal (at_station w1 0 noting) s

  abbrev w3 : World Register
  w3 = at_gathering w2 0 (open_with starting)

  abbrev w4 : World Register
  w4 = at_gathering w3 0 (open_with adding)

  abbrev w5 : World Register
  w5 = at_gathering w4 0 (closed_with closing)

  abbrev w6 : World Register
  w6 = at_gathering w5 0 gone

  abbrev w7 : World Register
  w7 = at_station w6 0 (file_station alone register s noting bundle p)

  -- the calls in their order
  abbrev c1 : Event
  c1 = announced 0 p (Ok (1, digest_of p))

  abbrev c2 : Event
  c2 = noted 0 0 1 (digest_of p) seal_memory (Ok tt) z

  abbrev c3 : Event
  c3 = started 0 0 1 (digest_of p) (Ok starting)

  abbrev c4 : Event
  c4 = added 0 0 z bundle_memory (Ok tt) with_receipt

  abbrev c5 : Event
  c5 = closed 0 (Ok closing)

  abbrev c6 : Event
  c6 = issued 0 with_receipt (Ok 40) with_head

  abbrev c7 : Event
  c7 = filed 0 bundle p (Ok filing)

  abbrev calls : List Event
  calls = c7 ∷ c6 ∷ c5 ∷ c4 ∷ c3 ∷ c2 ∷ c1 ∷ []

  -- no other pages are handed in
  only_these : (q : List ℕ) → Some (Hands q) calls → p ≡ q
  only_these q =
      ⊎_elim (λ same. same)
      (⊎_elim (λ x. absurd x)
      (⊎_elim (λ x. absurd x)
      (⊎_elim (λ x. absurd x)
      (⊎_elim (λ x. absurd x)
      (⊎_elim (λ x. absurd x)
      (⊎_elim (λ same. same) (λ x. absurd x)))))))

  fair : Each (Fair alone fresh_station only_zero) calls
  fair = (tt, (tt, (tt, (tt, (tt, (λ _ _. inl (refl, refl, refl), (tt, tt)))))))

  met : Conditions alone fresh_station only_zero calls
  unfolding ones
  met =
      record {
        trusted = lit≤ tt;
        one_station = λ i honest. (0, (ap fresh_station (first i honest.0), λ b same. same ∙ sym (first i honest.0)));
        apart = λ q q' handed handed' _. sym (only_these q handed) ∙ only_these q' handed';
        fair = fair;
      }
    where
      first : (i : ℕ) → i < 1 → 0 ≡ i
      first i h = omega arith

  module _ (within : length p ≤ most_bytes) (t : Entered e 0 statement seal_memory s z) where
    checks : register.checks s 0 statement z ≡ true
    checks = (register_meant.sound e 0 statement seal_memory s z t).seals

    announces : announce_answer alone (fresh_station 0) p ≡ Ok (1, digest_of p)
    announces = yes_to (leb (length p) most_bytes) (whole PagesTooLong) (Ok (1, digest_of p)) (le-leb (length p) most_bytes within)

    adds : add_answer alone register s starting 0 z 40 ≡ Ok tt
    unfolding has ones
    adds = yes_to (register.checks s 0 statement z) (whole SealFails) (Ok tt) checks

    reads : bundle_statement bundle ≡ statement
    unfolding laid_out bytes32
    reads = stated p statement 1 (0 ∷ z) refl

    counted : receipt_answer alone register s (bundle_statement bundle) 1 0 z 0 ≡ Ok 1
    unfolding has
    counted =
        ap (λ (x : Statement). receipt_answer alone register s x 1 0 z 0) reads
        ∙ yes_to (register.checks s 0 statement z) (at_receipt SealFails 1) (Ok 1) checks

    walks : walk alone register s bundle 1 0 0 ≡ Ok 1
    unfolding walk laid_out bytes32
    walks = ap (λ (y : Result ℕ Refused). go_on y (λ all. walk alone register s bundle 0 1 all)) counted

    files : file_answer alone register s noting bundle p ≡ Ok filing
    unfolding laid_out bytes32 ones
    files =
        file_read alone register s noting bundle p statement 1 1
        (all_asked alone register noting 0 1 bundle p (lit≤ tt) (lit≤ tt) refl within (lit≤ tt) reads refl)
        (sym reads) refl walks

    s1 : Step alone register w0 c1 w1
    s1 = taken.announces alone w0 0 p (1, digest_of p) announces

    s2 : Step alone register w1 c2 w2
    unfolding has
    s2 = taken.notes alone w1 0 0 1 (digest_of p) seal_memory s z refl t

    s3 : Step alone register w2 c3 w3
    s3 = (refl, refl, refl)

    s4 : Step alone register w3 c4 w4
    unfolding ones
    s4 = taken.adds alone w3 0 0 starting z bundle_memory refl adds

    s5 : Step alone register w4 c5 w5
    unfolding ones
    s5 = (adding, refl, refl, refl)

    s6 : Step alone register w5 c6 w6
    unfolding ones
    s6 = (closing, refl, refl, refl, refl)

    s7 : Step alone register w6 c7 w7
    s7 = (sym files, refl)

    run : Run alone register e fresh_station calls w7
    run = (w6, ((w5, ((w4, ((w3, ((w2, ((w1, ((w0, (refl, s1)), s2)), s3)), s4)), s5)), s6)), s7))

    pub filing_run : Unused e → RunThatFiles p e
    unfolding laid_out bytes32 has
    filing_run unused =
        record {
          history = calls;
          world = w7;
          run = run;
          met = met;
          unforged = register_unforged alone fresh_station only_zero e unused calls w7 run fair;
          honest = (lit≤ tt, refl);
          announces = inr (inr (inr (inr (inr (inr (inl (refl, refl, refl)))))));
          signs = inr (inr (inr (inr (inr (inl (refl, refl, tt))))));
          starts = inr (inr (inr (inr (inl (refl, refl, refl, refl, tt)))));
          adds = inr (inr (inr (inl (refl, refl, tt))));
          bundle = bundle;
          issues = inr (inl (refl, refl));
          files = inl (refl, refl, refl, refl, refl);
        }

pub conditions_can_hold : ConditionsCanHold
conditions_can_hold p e within unused had =
    taken.signs_next e 0 (statement_of alone 0 1 (digest_of p)) had (λ s t. filing_run p e s within t unused)

pub conditions_can_hold_opened : ConditionsCanHoldOpened
conditions_can_hold_opened p e n each table within begun some share =
    conditions_can_hold p e within begun.none_used (omega (arith, taken.begun_left e n each table begun 0 some))
