-- Four houses, of which one signs two digests for one number: an honest house files the one that was announced.
use Rattle.std.proofs.Common.{◌≡◌, ℕ, zero, suc, ◌<◌, ◌≤◌, true, false, eqb, leb, List, [], ◌∷◌, ◌++◌, length, replicate, Ok, Err, sym, refl, ◌∙◌, subst, inl, inr, ⊎_elim, arith, lit≤}
use lib.Count.{ones}
use lib.Seq.{paste}
use Rattle.std.proofs.lemmas.Bool.{le-leb, eqb-false, cases_Bool}
use Rattle.bits.specs.Bits.{has}
use Rattle.refusal.specs.Questions.{whole}
use Rattle.refusal.specs.declared.Refusal.TheVariants.{PagesTooLong, SealFails, OtherDigestNoted}
use Rattle.sha256.specs.Text.{digest_of, bytes32}
use Rattle.edition.specs.Pages.{most_bytes}
use Rattle.seal.specs.declared.register.Register.{Register}
use Rattle.seal.specs.declared.statement.Statement.{Statement}
use Rattle.seal.specs.Meanings.{Sealed}
use Rattle.seal.specs.Registers.{used, Unused, Entered, register}
use Rattle.seal.specs.Rows.{row_bytes}
use Rattle.seal.specs.Statements.{laid_out, statement_bytes}
use Rattle.seal.specs.RegisterLaws.{register_meant}
use Rattle.exchange.specs.declared.gathering.Gathering.{Gathering}
use Rattle.exchange.specs.declared.gathering.Closed.{Closed}
use Rattle.exchange.specs.declared.filing.Filing.{Filing}
use Rattle.exchange.specs.Stations.{fresh_station, same_digest}
use Rattle.exchange.specs.Layout.{head_bytes, bundle_statement}
use Rattle.exchange.specs.Machine.{statement_of, with_house, walk, file_answer, file_station}
use Rattle.exchange.specs.Runs.{Event, announced, noted, started, added, closed, issued, filed, signed, World, open_with, closed_with, gone, opened, at_station, at_gathering, at_seal, Step, Run, Some, Each}
use Rattle.exchange.specs.Law.{Hands, receipts_from, Honest, Signs, Fair, Conditions}
use Rattle.exchange.proofs.Questions.{yes_to, no_to}
use Rattle.exchange.proofs.Files.{file_read}
use Rattle.exchange.proofs.Heads.{stated}
use Rattle.exchange.proofs.Walking.{Gathers, gathers_walk}
use Rattle.exchange.proofs.Backing.{digests_same}
use Rattle.cases.specs.Dishonest.{four, all_but_three, states, seal_memory, RunWithTwoDigests, OneCanBeDishonest, OneCanBeDishonestOpened}
use Rattle.cases.proofs.Asked.{all_asked}
use Rattle.cases.proofs.Forging.{register_unforged}
use Rattle.cases.proofs.Taken as taken

-- different digests are tested to be different
told_apart : (p q : List ℕ) → (digest_of p ≡ digest_of q → ⊥) → same_digest (digest_of p) (digest_of q) ≡ false
told_apart p q apart =
    ⊎_elim (λ same. absurd (apart (digests_same (digest_of p) (digest_of q) refl refl same))) (λ other. other)
    (cases_Bool (same_digest (digest_of p) (digest_of q)))

honest_ones : (i : ℕ) → i < 3 → Honest four fresh_station all_but_three i
unfolding has
honest_ones zero h = (lit≤ tt, refl)
honest_ones (suc zero) h = (lit≤ tt, refl)
honest_ones (suc (suc zero)) h = (lit≤ tt, refl)
honest_ones (suc (suc (suc i))) h = absurd (omega arith)

three_is_not : Honest four fresh_station all_but_three 3 → ⊥
unfolding has
three_is_not honest = omega (arith, honest.1)

-- nothing is asked of a notice in the name of house 3
own_name : {A B : Type 0} → A → Honest four fresh_station all_but_three 3 → B
own_name _ member = absurd (three_is_not member)

-- what a taken sign says, and that another house has as many seals left
module _ {s : Register} {i : ℕ} {x : Statement} {s' : Register} {m' : List ℕ} (t : Entered s i x seal_memory s' m') where
  sealed : Sealed register s i x seal_memory s' m'
  sealed = register_meant.sound s i x seal_memory s' m' t

  still : (j : ℕ) → eqb j i ≡ false → register.left s' j ≡ register.left s j
  still j other = sealed.others j (eqb-false j i other)

-- over the pages, the register before and after each sign
module _ (p q : List ℕ) (e s1 s2 s3 s4 s5 s6 : Register) where
  -- the seals of houses 0, 1, 3, 1, 2 and 3
  abbrev z1 : List ℕ
  z1 = row_bytes (used e)

  abbrev z2 : List ℕ
  z2 = row_bytes (used s1)

  abbrev z3 : List ℕ
  z3 = row_bytes (used s2)

  abbrev z4 : List ℕ
  z4 = row_bytes (used s3)

  abbrev z5 : List ℕ
  z5 = row_bytes (used s4)

  abbrev z6 : List ℕ
  z6 = row_bytes (used s5)

  -- the gathering from its start to its close, and its memory
  abbrev g0 : Gathering
  g0 = record { notice = record { house = 0; number = 1; digest = digest_of p }; gathered = 0 }

  abbrev g1 : Gathering
  g1 = with_house g0 0

  abbrev g2 : Gathering
  g2 = with_house g1 2

  abbrev g3 : Gathering
  g3 = with_house g2 3

  abbrev closing : Closed
  closing = record { whole = g3 }

  abbrev m0 : List ℕ
  m0 = replicate 46 0

  abbrev m1 : List ℕ
  m1 = paste m0 37 (0 ∷ z1) 3

  abbrev m2 : List ℕ
  m2 = paste m1 40 (2 ∷ z5) 3

  abbrev m3 : List ℕ
  m3 = paste m2 43 (3 ∷ z6) 3

  abbrev bundle : List ℕ
  bundle = statement_bytes (states p) ++ (3 ∷ 0 ∷ z1 ++ (2 ∷ z5 ++ (3 ∷ z6)))

  abbrev filing : Filing
  filing = record { station = 1; house = 0; number = 1; digest = digest_of p; signers = 13 }

  -- a note of the digest of p at a station for a house, and the register after it
  abbrev noting : World Register → ℕ → ℕ → Register → World Register
  noting w a j s = at_seal (at_station w a (taken.with_note (w.stations a) j 1 (digest_of p))) s

  -- the worlds from call to call
  abbrev w0 : World Register
  w0 = opened e fresh_station

  abbrev w1 : World Register
  w1 = at_station w0 0 (taken.one_more (fresh_station 0))

  abbrev w2 : World Register
  w2 = noting w1 0 0 s1

  abbrev w3 : World Register
  w3 = noting w2 1 0 s2

  abbrev w4 : World Register
  w4 = at_seal w3 s3

  abbrev w5 : World Register
  w5 = noting w4 1 3 s4

  abbrev w6 : World Register
  w6 = at_seal (at_station w5 1 (w5.stations 1)) s4

  abbrev w7 : World Register
  w7 = noting w6 2 0 s5

  abbrev w8 : World Register
  w8 = at_seal w7 s6

  abbrev w9 : World Register
  w9 = at_gathering w8 0 (open_with g0)

  abbrev w10 : World Register
  w10 = at_gathering w9 0 (open_with g1)

  abbrev w11 : World Register
  w11 = at_gathering w10 0 (open_with g2)

  abbrev w12 : World Register
  w12 = at_gathering w11 0 (open_with g3)

  abbrev w13 : World Register
  w13 = at_gathering w12 0 (closed_with closing)

  abbrev w14 : World Register
  w14 = at_gathering w13 0 gone

  abbrev w15 : World Register
  w15 = at_station w14 1 (file_station four register s6 (w14.stations 1) bundle p)

  -- the calls up to the last sign, the newest first
  abbrev signing : List Event
  signing =
      signed 3 (states p) seal_memory (Ok tt) z6
      ∷ noted 2 0 1 (digest_of p) seal_memory (Ok tt) z5
      ∷ noted 1 3 1 (digest_of q) seal_memory (Err (whole OtherDigestNoted)) seal_memory
      ∷ noted 1 3 1 (digest_of p) seal_memory (Ok tt) z4
      ∷ signed 3 (states q) seal_memory (Ok tt) z3
      ∷ noted 1 0 1 (digest_of p) seal_memory (Ok tt) z2
      ∷ noted 0 0 1 (digest_of p) seal_memory (Ok tt) z1
      ∷ announced 0 p (Ok (1, digest_of p))
      ∷ []

  -- and those after it
  abbrev calls : List Event
  calls =
      filed 1 bundle p (Ok filing)
      ∷ issued 0 m3 (Ok 46) (paste m3 0 (head_bytes (states p) 3) 37)
      ∷ closed 0 (Ok closing)
      ∷ added 0 3 z6 m2 (Ok tt) m3
      ∷ added 0 2 z5 m1 (Ok tt) m2
      ∷ added 0 0 z1 m0 (Ok tt) m1
      ∷ started 0 0 1 (digest_of p) (Ok g0)
      ∷ signing

  -- no other pages are handed in
  only_these : (x : List ℕ) → Some (Hands x) calls → p ≡ x
  only_these x =
      ⊎_elim (λ same. same)
      (⊎_elim none (⊎_elim none (⊎_elim none (⊎_elim none (⊎_elim none (⊎_elim none
      (⊎_elim none (⊎_elim none (⊎_elim none (⊎_elim none (⊎_elim none (⊎_elim none (⊎_elim none
      (⊎_elim (λ same. same) none))))))))))))))
    where
      none : ⊥ → p ≡ x
      none n = absurd n

  -- every notice in the name of house 0 carries what it announced, and only house 3 signs directly
  fair_signing : Each (Fair four fresh_station all_but_three) signing
  fair_signing =
      let announced-so = inl (refl, refl, refl) in
      (three_is_not, (λ _ _. inr (inr (inr (inr (inr announced-so)))), (own_name, (own_name, (three_is_not, (λ _ _. inr announced-so, (λ _ _. announced-so, (tt, tt))))))))

  fair : Each (Fair four fresh_station all_but_three) calls
  fair = (tt, (tt, (tt, (tt, (tt, (tt, (tt, fair_signing)))))))

  met : Conditions four fresh_station all_but_three calls
  unfolding ones
  met =
      record {
        trusted = lit≤ tt;
        one_station = λ i _. (i, (refl, λ b same. same));
        apart = λ x y handed handed' _. sym (only_these x handed) ∙ only_these y handed';
        fair = fair;
      }

  signed_all : (i : ℕ) → i < 3 → Some (Signs four fresh_station i (states p)) calls
  signed_all zero h = inr (inr (inr (inr (inr (inr (inr (inr (inr (inr (inr (inr (inr (inl (refl, refl, tt))))))))))))))
  signed_all (suc zero) h = inr (inr (inr (inr (inr (inr (inr (inr (inr (inr (inr (inr (inl (refl, refl, tt)))))))))))))
  signed_all (suc (suc zero)) h = inr (inr (inr (inr (inr (inr (inr (inr (inl (refl, refl, tt)))))))))
  signed_all (suc (suc (suc i))) h = absurd (omega arith)

  module _ (within : length p ≤ most_bytes) (apart : digest_of p ≡ digest_of q → ⊥)
      (t1 : Entered e 0 (states p) seal_memory s1 z1) (t2 : Entered s1 1 (states p) seal_memory s2 z2)
      (t3 : Entered s2 3 (states q) seal_memory s3 z3) (t4 : Entered s3 1 (statement_of four 3 1 (digest_of p)) seal_memory s4 z4)
      (t5 : Entered s4 2 (states p) seal_memory s5 z5) (t6 : Entered s5 3 (states p) seal_memory s6 z6)
    where
      -- the three seals check in the end
      zero_checks : register.checks s6 0 (states p) z1 ≡ true
      zero_checks =
          (sealed t6).keeps 0 (states p) z1 ((sealed t5).keeps 0 (states p) z1 ((sealed t4).keeps 0 (states p) z1
          ((sealed t3).keeps 0 (states p) z1 ((sealed t2).keeps 0 (states p) z1 (sealed t1).seals))))

      two_checks : register.checks s6 2 (states p) z5 ≡ true
      two_checks = (sealed t6).keeps 2 (states p) z5 (sealed t5).seals

      three_checks : register.checks s6 3 (states p) z6 ≡ true
      three_checks = (sealed t6).seals

      reads : bundle_statement bundle ≡ states p
      unfolding laid_out bytes32
      reads = stated p (states p) 3 (0 ∷ z1 ++ (2 ∷ z5 ++ (3 ∷ z6))) refl

      -- its three receipts count
      gathers : Gathers four register s6 (states p) 0 (receipts_from 2 bundle 3 0) 13
      unfolding receipts_from laid_out bytes32 has
      gathers = (
        record { inside = refl; named = refl; new = refl; checks = zero_checks },
        (
          record { inside = refl; named = refl; new = refl; checks = two_checks },
          (record { inside = refl; named = refl; new = refl; checks = three_checks }, refl),
        ),
      )

      walks : walk four register s6 bundle 3 0 0 ≡ Ok 13
      walks =
          gathers_walk four register s6 bundle 3 0 0 13
          (subst (λ (x : Statement). Gathers four register s6 x 0 (receipts_from 2 bundle 3 0) 13) (sym reads) gathers)

      files : file_answer four register s6 (w14.stations 1) bundle p ≡ Ok filing
      unfolding laid_out bytes32 ones
      files =
          file_read four register s6 (w14.stations 1) bundle p (states p) 3 13
          (all_asked four register (w14.stations 1) 0 1 bundle p (lit≤ tt) (lit≤ tt) refl within (lit≤ tt) reads refl)
          (sym reads) refl walks

      st1 : Step four register w0 (announced 0 p (Ok (1, digest_of p))) w1
      st1 = taken.announces four w0 0 p (1, digest_of p) (yes_to (leb (length p) most_bytes) (whole PagesTooLong) (Ok (1, digest_of p)) (le-leb (length p) most_bytes within))

      st2 : Step four register w1 (noted 0 0 1 (digest_of p) seal_memory (Ok tt) z1) w2
      unfolding has
      st2 = taken.notes four w1 0 0 1 (digest_of p) seal_memory s1 z1 refl t1

      st3 : Step four register w2 (noted 1 0 1 (digest_of p) seal_memory (Ok tt) z2) w3
      unfolding has
      st3 = taken.notes four w2 1 0 1 (digest_of p) seal_memory s2 z2 refl t2

      st4 : Step four register w3 (signed 3 (states q) seal_memory (Ok tt) z3) w4
      st4 = taken.signs four w3 3 (states q) seal_memory s3 z3 t3

      st5 : Step four register w4 (noted 1 3 1 (digest_of p) seal_memory (Ok tt) z4) w5
      unfolding has
      st5 = taken.notes four w4 1 3 1 (digest_of p) seal_memory s4 z4 refl t4

      st6 : Step four register w5 (noted 1 3 1 (digest_of q) seal_memory (Err (whole OtherDigestNoted)) seal_memory) w6
      unfolding has
      st6 =
          taken.refuses four w5 1 3 1 (digest_of q) seal_memory (whole OtherDigestNoted)
          (no_to (same_digest (digest_of p) (digest_of q)) (whole OtherDigestNoted) _ (told_apart p q apart))

      st7 : Step four register w6 (noted 2 0 1 (digest_of p) seal_memory (Ok tt) z5) w7
      unfolding has
      st7 = taken.notes four w6 2 0 1 (digest_of p) seal_memory s5 z5 refl t5

      st8 : Step four register w7 (signed 3 (states p) seal_memory (Ok tt) z6) w8
      st8 = taken.signs four w7 3 (states p) seal_memory s6 z6 t6

      st9 : Step four register w8 (started 0 0 1 (digest_of p) (Ok g0)) w9
      st9 = (refl, refl, refl)

      st10 : Step four register w9 (added 0 0 z1 m0 (Ok tt) m1) w10
      unfolding has ones
      st10 = taken.adds four w9 0 0 g0 z1 m0 refl (yes_to (register.checks s6 0 (states p) z1) (whole SealFails) (Ok tt) zero_checks)

      st11 : Step four register w10 (added 0 2 z5 m1 (Ok tt) m2) w11
      unfolding has ones
      st11 = taken.adds four w10 0 2 g1 z5 m1 refl (yes_to (register.checks s6 2 (states p) z5) (whole SealFails) (Ok tt) two_checks)

      st12 : Step four register w11 (added 0 3 z6 m2 (Ok tt) m3) w12
      unfolding has ones
      st12 = taken.adds four w11 0 3 g2 z6 m2 refl (yes_to (register.checks s6 3 (states p) z6) (whole SealFails) (Ok tt) three_checks)

      st13 : Step four register w12 (closed 0 (Ok closing)) w13
      unfolding ones
      st13 = (g3, refl, refl, refl)

      st14 : Step four register w13 (issued 0 m3 (Ok 46) (paste m3 0 (head_bytes (states p) 3) 37)) w14
      unfolding ones
      st14 = (closing, refl, refl, refl, refl)

      st15 : Step four register w14 (filed 1 bundle p (Ok filing)) w15
      st15 = (sym files, refl)

      run_signing : Run four register e fresh_station signing w8
      run_signing = (w7, ((w6, ((w5, ((w4, ((w3, ((w2, ((w1, ((w0, (refl, st1)), st2)), st3)), st4)), st5)), st6)), st7)), st8))

      run : Run four register e fresh_station calls w15
      run = (w14, ((w13, ((w12, ((w11, ((w10, ((w9, ((w8, (run_signing, st9)), st10)), st11)), st12)), st13)), st14)), st15))

      pub two_digests : Unused e → RunWithTwoDigests p q e
      unfolding laid_out bytes32
      two_digests unused =
          record {
            history = calls;
            world = w15;
            run = run;
            met = met;
            unforged = register_unforged four fresh_station all_but_three e unused calls w15 run fair;
            honest = honest_ones;
            dishonest = three_is_not;
            announces = inr (inr (inr (inr (inr (inr (inr (inr (inr (inr (inr (inr (inr (inr (inl (refl, refl, refl)))))))))))))));
            signs = signed_all;
            one_seal = z6;
            signs_one = inr (inr (inr (inr (inr (inr (inr (inl refl)))))));
            other_seal = z3;
            signs_other = inr (inr (inr (inr (inr (inr (inr (inr (inr (inr (inr (inl refl)))))))))));
            notes = inr (inr (inr (inr (inr (inr (inr (inr (inr (inr (inl (refl, refl, tt)))))))))));
            refuses = inr (inr (inr (inr (inr (inr (inr (inr (inr (inl refl)))))))));
            starts = inr (inr (inr (inr (inr (inr (inl (refl, refl, refl, refl, tt)))))));
            adds_zero = inr (inr (inr (inr (inr (inl (refl, refl, tt))))));
            adds_two = inr (inr (inr (inr (inl (refl, refl, tt)))));
            adds_three = inr (inr (inr (inl (refl, refl, tt))));
            bundle = bundle;
            issues = inr (inl (refl, refl));
            files = inl (refl, refl, refl, refl, refl);
          }

pub one_can_be_dishonest : OneCanBeDishonest
one_can_be_dishonest p q e within apart unused had =
    taken.signs_next e 0 (states p) (omega (arith, had 0 (lit≤ tt)))
    (λ s1 t1. taken.signs_next s1 1 (states p) (omega (arith, had 1 (lit≤ tt), still t1 1 refl))
    (λ s2 t2. taken.signs_next s2 3 (states q) (omega (arith, had 3 (lit≤ tt), still t1 3 refl, still t2 3 refl))
    (λ s3 t3. taken.signs_next s3 1 (statement_of four 3 1 (digest_of p)) (omega (arith, had 1 (lit≤ tt), still t1 1 refl, (sealed t2).falls, still t3 1 refl))
    (λ s4 t4. taken.signs_next s4 2 (states p) (omega (arith, had 2 (lit≤ tt), still t1 2 refl, still t2 2 refl, still t3 2 refl, still t4 2 refl))
    (λ s5 t5. taken.signs_next s5 3 (states p) (omega (arith, had 3 (lit≤ tt), still t1 3 refl, still t2 3 refl, (sealed t3).falls, still t4 3 refl, still t5 3 refl))
    (λ s6 t6. two_digests p q e s1 s2 s3 s4 s5 s6 within apart t1 t2 t3 t4 t5 t6 unused))))))

pub one_can_be_dishonest_opened : OneCanBeDishonestOpened
one_can_be_dishonest_opened p q e n each table within apart begun some share =
    one_can_be_dishonest p q e within apart begun.none_used (λ i h. omega (arith, taken.begun_left e n each table begun i (omega arith)))
