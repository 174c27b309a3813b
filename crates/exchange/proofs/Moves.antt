-- What each call leaves of a station: nothing new, one number noted, or one number filed.
use Rattle.std.proofs.Common.{◌≡◌, ℕ, ◌+◌, ◌<◌, ◌≤◌, true, false, ◌&&◌, eqb, ltb, leb, ◌≢◌, ◌⊎◌, List, ◌∷◌, length, Ok, Err, Result, sym, refl, ap, ◌∙◌, subst, inl, inr}
use Rattle.std.proofs.lemmas.Bool.{and_from, and_left, and_right, cond_both, cond-false, cond-true, eqb-false, eqb-true, eq-eqb, leb-true, ltb-true, ne_eqb}
use Rattle.refusal.specs.Questions.{after, whole}
use Rattle.refusal.specs.declared.Refusal.TheVariants.{StationHouse, NoSuchHouse, NumberPast, NumberAhead, NotNamed, AlreadyNoted, OtherDigestNoted}
use Rattle.sha256.specs.declared.value.Digest.{Digest}
use Rattle.witness.specs.Rules.{Ruling}
use Rattle.seal.specs.declared.statement.Statement.{Statement}
use Rattle.seal.specs.Meanings.{Meaning}
use Rattle.exchange.specs.declared.station.Station.{Station}
use Rattle.exchange.specs.declared.filing.Filing.{Filing}
use Rattle.exchange.specs.Stations.{row_of, slot_of, is_empty, free_of_other, noted_row, filed_row, with_row}
use Rattle.exchange.specs.Layout.{bundle_house, bundle_number}
use Rattle.exchange.specs.Machine.{member, window, statement_of, announce_answer, note_questions, note_answer, note_station, file_answer, file_station}
use Rattle.exchange.specs.Runs.{Event, announced, noted, started, added, closed, issued, filed, signed, World, put, Step}
use Rattle.exchange.specs.Law.{Signs, numbers}
use Rattle.exchange.proofs.Questions.{asked, went_on}
use Rattle.exchange.proofs.Files.{file_taken, filed_as}

-- what stands at a name after another value was put at one
pub put_either : {A : Type 0} (P : A → Type 0) (f : ℕ → A) (a : ℕ) (x : A) (b : ℕ) → (b ≡ a → P x) → (b ≢ a → P (f b)) → P (put f a x b)
put_either P f a x b here there = cond_both (eqb b a) x (f b) P (λ e. here (eqb-true b a e)) (λ e. there (eqb-false b a e))

-- what is left by an answer that is known
left_by : {A E B : Type 0} (new : A → B) (old : B) {y z : Result A E} → y ≡ z → after z new old ≡ after y new old
left_by {A} {E} new old e = ap (λ (x : Result A E). after x new old) (sym e)

-- what the new has of the old, whatever is left has
after_kept : {A E B C : Type 0} (f : B → C) (y : Result A E) (new : A → B) (old : B) → ((x : A) → f (new x) ≡ f old) → f (after y new old) ≡ f old
after_kept f (Ok x) new old kept = kept x
after_kept f (Err e) new old kept = refl

-- ---- the house

put_house : (f : ℕ → Station) (a : ℕ) (x : Station) → x.house ≡ (f a).house → (b : ℕ) → (put f a x b).house ≡ (f b).house
put_house f a x kept b =
    put_either (λ (y : Station). y.house ≡ (f b).house) f a x b (λ here. kept ∙ ap (λ (c : ℕ). (f c).house) (sym here)) (λ _. refl)

module _ {S : Type 0} (r : Ruling) (k : Meaning S) where
  -- a station stays with its house
  pub step_house : (c : Event) (w w' : World S) → Step r k w c w' → (a : ℕ) → (w'.stations a).house ≡ (w.stations a).house
  step_house (announced a p y) w w' step b =
      ap (λ (v : World S). (v.stations b).house) step.1
      ∙ put_house w.stations a _ (after_kept (λ (x : Station). x.house) (announce_answer r (w.stations a) p) _ (w.stations a) (λ _. refl)) b
  step_house (noted a j n d m y m') w w' step b =
      ap (λ (v : World S). (v.stations b).house) step.3
      ∙ put_house w.stations a _ (after_kept (λ (x : Station). x.house) (note_answer r k w.seal (w.stations a) j n d (length m)) _ (w.stations a) (λ _. refl)) b
  step_house (started g j n d y) w w' step b = ap (λ (v : World S). (v.stations b).house) step.2
  step_house (added g i z m y m') w w' step b = ap (λ (v : World S). (v.stations b).house) step.4
  step_house (closed g y) w w' step b = ap (λ (v : World S). (v.stations b).house) step.3
  step_house (issued g m y m') w w' step b = ap (λ (v : World S). (v.stations b).house) step.4
  step_house (filed a b' p y) w w' step b =
      ap (λ (v : World S). (v.stations b).house) step.1
      ∙ put_house w.stations a _ (after_kept (λ (x : Station). x.house) (file_answer r k w.seal (w.stations a) b' p) _ (w.stations a) (λ _. refl)) b
  step_house (signed i x m y m') w w' step b = ap (λ (v : World S). (v.stations b).house) step.3

-- ---- what a taken call says of the station

module _ (r : Ruling) (s : Station) where
  -- the number that a taken note brings: above the last one filed, within the window, and not noted yet
  pub record FreshNumber (j n : ℕ) : Type 0 where
    pub inside : j < r.houses
    pub above : (row_of s j).last < n
    pub ahead : n ≤ (row_of s j).last + window
    pub empty : is_empty (slot_of (row_of s j) n) ≡ true

  module _ {S : Type 0} (k : Meaning S) (z : S) where
    note_taken : (j n : ℕ) (d : Digest) (room : ℕ) (t : Unit {0}) → note_answer r k z s j n d room ≡ Ok t → FreshNumber j n
    note_taken j n d room t taken =
        let after_questions = went_on (note_questions r s j n d) _ t taken in
        let q1 = asked (ltb s.house r.houses) (whole StationHouse) _ tt after_questions.1.0 in
        let q2 = asked (ltb j r.houses) (whole NoSuchHouse) _ tt q1.1 in
        let q3 = asked (ltb (row_of s j).last n) (whole NumberPast) _ tt q2.1 in
        let q4 = asked (leb n ((row_of s j).last + window)) (whole NumberAhead) _ tt q3.1 in
        let q5 = asked (member (r.named j n) s.house) (whole NotNamed) _ tt q4.1 in
        let q6 = asked (free_of_other (slot_of (row_of s j) n) d) (whole OtherDigestNoted) _ tt q5.1 in
        let q7 = asked (is_empty (slot_of (row_of s j) n)) (whole AlreadyNoted) _ tt q6.1 in
        record {
          inside = ltb-true j r.houses q2.0;
          above = ltb-true (row_of s j).last n q3.0;
          ahead = leb-true n ((row_of s j).last + window) q4.0;
          empty = q7.0;
        }

module _ (r : Ruling) (first : ℕ → Station) (i : ℕ) where
  -- a call by which house i signs nothing
  abbrev pub Silent : Event → Type 0
  Silent c = (x : Statement) → Signs r first i x c → ⊥

  -- a call by which house i files nothing of house j
  abbrev pub Unfiled : Event → ℕ → Type 0
  Unfiled c j = (h : List Event) → numbers r first i j (c ∷ h) ≡ numbers r first i j h

  -- a call that leaves the rows of house i's station as they were
  pub record Still (c : Event) (s s' : Station) : Type 0 where
    pub kept : s'.rows ≡ s.rows
    pub silent : Silent c
    pub unfiled : (j : ℕ) → Unfiled c j

  -- a call that notes a number there
  pub record Notes (c : Event) (s s' : Station) : Type 0 where
    pub house : ℕ
    pub number : ℕ
    pub digest : Digest
    pub fresh : FreshNumber r s house number
    pub left : s' ≡ with_row s house (noted_row (row_of s house) number digest)
    pub signs : (x : Statement) → Signs r first i x c → statement_of r house number digest ≡ x
    pub unfiled : (j : ℕ) → Unfiled c j

  -- a call that files a number there
  pub record Advances (c : Event) (s s' : Station) : Type 0 where
    pub house : ℕ
    pub inside : house < r.houses
    pub left : s' ≡ with_row s house (filed_row (row_of s house))
    pub silent : Silent c
    pub files : (h : List Event) → numbers r first i house (c ∷ h) ≡ ((row_of s house).last + 1) ∷ numbers r first i house h
    pub unfiled : (j : ℕ) → j ≢ house → Unfiled c j

  abbrev pub Moves : Event → Station → Station → Type 0
  Moves c s s' = Still c s s' ⊎ (Notes c s s' ⊎ Advances c s s')

  -- a file at a station of house i adds a number of the house that it files, and no other file does
  numbers_more : (c j : ℕ) (b p : List ℕ) (f : Filing) (h : List Event) → (first c).house ≡ i → f.house ≡ j
      → numbers r first i j (filed c b p (Ok f) ∷ h) ≡ f.number ∷ numbers r first i j h
  numbers_more c j b p f h own of =
      cond-true (eqb (first c).house i && eqb f.house j) (f.number ∷ numbers r first i j h) (numbers r first i j h)
      (and_from (eqb (first c).house i) (eqb f.house j) (eq-eqb _ _ own) (eq-eqb _ _ of))

  numbers_same : (c j : ℕ) (b p : List ℕ) (f : Filing) (h : List Event) → (eqb (first c).house i && eqb f.house j) ≡ false
      → numbers r first i j (filed c b p (Ok f) ∷ h) ≡ numbers r first i j h
  numbers_same c j b p f h e =
      cond-false (eqb (first c).house i && eqb f.house j) (f.number ∷ numbers r first i j h) (numbers r first i j h) e

  -- what calls leave of the one station a of house i
  module _ {S : Type 0} (k : Meaning S) (a : ℕ) (mine : (first a).house ≡ i) (only : (b : ℕ) → (first b).house ≡ i → b ≡ a) where
    -- a call of another kind
    still : (c : Event) (s s' : Station) → s'.rows ≡ s.rows → Silent c → ((j : ℕ) → Unfiled c j) → Moves c s s'
    still c s s' kept silent unfiled = inl (record { kept = kept; silent = silent; unfiled = unfiled })

    -- a call at station b
    put_moves : (c : Event) (w w' : World S) (b : ℕ) (x : Station) → w'.stations ≡ put w.stations b x
        → (a ≡ b → Moves c (w.stations b) x) → (a ≢ b → Moves c (w.stations a) (w.stations a)) → Moves c (w.stations a) (w'.stations a)
    put_moves c w w' b x left here there =
        subst (λ (f : ℕ → Station). Moves c (w.stations a) (f a)) (sym left)
        (put_either (Moves c (w.stations a)) w.stations b x a (λ e. subst (λ (y : ℕ). Moves c (w.stations y) x) (sym e) (here e)) there)

    noting : (b j n : ℕ) (d : Digest) (m m' : List ℕ) (t : Unit {0}) (s : Station) (z : S) → Ok t ≡ note_answer r k z s j n d (length m)
        → Moves (noted b j n d m (Ok t) m') s (note_station r k z s j n d (length m))
    noting b j n d m m' t s z taken =
        inr (inl (record {
          house = j;
          number = n;
          digest = d;
          fresh = note_taken r s k z j n d (length m) t (sym taken);
          left = left_by (λ _. with_row s j (noted_row (row_of s j) n d)) s taken;
          signs = λ x signs. signs.1;
          unfiled = λ _ _. refl;
        }))

    advancing : (c : ℕ) (b p : List ℕ) (f : Filing) (s : Station) (z : S) → (first c).house ≡ i → Ok f ≡ file_answer r k z s b p
        → Moves (filed c b p (Ok f)) s (file_station r k z s b p)
    advancing c b p f s z own taken =
        let is = filed_as r k z s b p f (sym taken) in
        let file = file_taken r k z s b p f (sym taken) in
        let j = bundle_house b in
        inr (inr (record {
          house = j;
          inside = ltb-true j r.houses file.fit.housed;
          left = left_by (λ _. with_row s j (filed_row (row_of s j))) s taken;
          silent = λ _ signs. signs;
          files = λ h.
              numbers_more c j b p f h own is.0
              ∙ ap (λ (n : ℕ). n ∷ numbers r first i j h) (is.1 ∙ eqb-true (bundle_number b) ((row_of s j).last + 1) file.due.next);
          unfiled = λ x other h. numbers_same c x b p f h (and_right (eqb (first c).house i) (eqb f.house x) (ne_eqb _ _ (λ e. other (sym e ∙ is.0))));
        }))

    pub moves : (c : Event) (w w' : World S) → Step r k w c w' → Moves c (w.stations a) (w'.stations a)
    moves (announced b p y) w w' step =
        put_moves (announced b p y) w w' b _ (ap (λ (v : World S). v.stations) step.1)
        (λ _. still _ _ _ (after_kept (λ (x : Station). x.rows) (announce_answer r (w.stations b) p) _ (w.stations b) (λ _. refl)) (λ _ signs. signs) (λ _ _. refl))
        (λ _. still _ _ _ refl (λ _ signs. signs) (λ _ _. refl))
    moves (noted b j n d m (Ok t) m') w w' step =
        put_moves (noted b j n d m (Ok t) m') w w' b _ (ap (λ (v : World S). v.stations) step.3)
        (λ _. noting b j n d m m' t (w.stations b) w.seal step.1)
        (λ other. still _ _ _ refl (λ _ signs. other (sym (only b signs.0))) (λ _ _. refl))
    moves (noted b j n d m (Err e) m') w w' step =
        put_moves (noted b j n d m (Err e) m') w w' b _ (ap (λ (v : World S). v.stations) step.3)
        (λ _. still _ _ _ (ap (λ (x : Station). x.rows) (left_by _ (w.stations b) step.1)) (λ _ signs. signs.2) (λ _ _. refl))
        (λ _. still _ _ _ refl (λ _ signs. signs.2) (λ _ _. refl))
    moves (started g j n d y) w w' step = still _ _ _ (ap (λ (v : World S). (v.stations a).rows) step.2) (λ _ signs. signs) (λ _ _. refl)
    moves (added g x z m y m') w w' step = still _ _ _ (ap (λ (v : World S). (v.stations a).rows) step.4) (λ _ signs. signs) (λ _ _. refl)
    moves (closed g y) w w' step = still _ _ _ (ap (λ (v : World S). (v.stations a).rows) step.3) (λ _ signs. signs) (λ _ _. refl)
    moves (issued g m y m') w w' step = still _ _ _ (ap (λ (v : World S). (v.stations a).rows) step.4) (λ _ signs. signs) (λ _ _. refl)
    moves (filed c b p (Ok f)) w w' step =
        put_moves (filed c b p (Ok f)) w w' c _ (ap (λ (v : World S). v.stations) step.1)
        (λ here. advancing c b p f (w.stations c) w.seal (ap (λ (x : ℕ). (first x).house) (sym here) ∙ mine) step.0)
        (λ other. still _ _ _ refl (λ _ signs. signs)
        (λ j h. numbers_same c j b p f h (and_left (eqb (first c).house i) (eqb f.house j) (ne_eqb _ _ (λ e. other (sym (only c e)))))))
    moves (filed c b p (Err e)) w w' step =
        put_moves (filed c b p (Err e)) w w' c _ (ap (λ (v : World S). v.stations) step.1)
        (λ _. still _ _ _ (ap (λ (x : Station). x.rows) (left_by _ (w.stations c) step.0)) (λ _ signs. signs) (λ _ _. refl))
        (λ _. still _ _ _ refl (λ _ signs. signs) (λ _ _. refl))
    moves (signed x st m y m') w w' step = still _ _ _ (ap (λ (v : World S). (v.stations a).rows) step.3) (λ _ signs. signs) (λ _ _. refl)
