-- What a station of a house that has no other knows of all that it has noted and filed, after any list of calls.
use Rattle.std.proofs.Common.{◌≡◌, ℕ, zero, suc, ◌+◌, ◌<◌, ◌≢◌, List, [], ◌∷◌, length, get_or, sym, refl, ap, ◌∙◌, subst, inl, inr, ⊎_elim, lt_of_lt_of_le, add-one}
use Rattle.std.proofs.lemmas.List.{get_or_past, get_or-replicate, get_or-set_same, get_or-set_other, length-set}
use Rattle.std.proofs.lemmas.Bool.{cases_eq, cases_lt}
use Rattle.sha256.specs.declared.value.Digest.{Digest}
use Rattle.witness.specs.Rules.{Ruling, Lawful}
use Rattle.seal.specs.declared.statement.Statement.{Statement}
use Rattle.seal.specs.Meanings.{Meaning}
use Rattle.exchange.specs.declared.station.Row.{Row}
use Rattle.exchange.specs.declared.station.Station.{Station}
use Rattle.exchange.specs.Stations.{fresh_row, fresh_station, row_of, noted_row, with_row}
use Rattle.exchange.specs.Machine.{statement_of}
use Rattle.exchange.specs.Runs.{Event, World, Run, Some}
use Rattle.exchange.specs.Law.{countdown, Signs, numbers}
use Rattle.exchange.proofs.Slots.{Remembers, remembers_new, remembers_old, remembers_filed, remembers_not_empty}
use Rattle.exchange.proofs.Moves.{step_house, Silent, Unfiled, Still, Notes, Advances, Moves, moves}

-- ---- the house

-- a station stays with its house
pub station_house : {S : Type 0} (r : Ruling) (k : Meaning S) (e : S) (first : ℕ → Station) (h : List Event) (w : World S) → Run r k e first h w
    → (a : ℕ) → (w.stations a).house ≡ (first a).house
station_house {S} r k e first [] w run a = ap (λ (v : World S). (v.stations a).house) run
station_house r k e first (c ∷ h) w run a =
    step_house r k c run.0 w run.1.1 a ∙ station_house r k e first h run.0 run.1.0 a

-- ---- rows

-- each row, after one is replaced
row_either : (P : ℕ → Row → Type 0) (s : Station) (j : ℕ) (row : Row) → j < length s.rows
    → P j row → ((i : ℕ) → i ≢ j → P i (row_of s i)) → (i : ℕ) → P i (row_of (with_row s j row) i)
row_either P s j row inside here there i = ⊎_elim same other (cases_eq i j)
  where
    same : i ≡ j → P i (row_of (with_row s j row) i)
    same e = subst (λ (x : ℕ). P x (row_of (with_row s j row) x)) (sym e) (subst (P j) (sym (get_or-set_same s.rows j row _ inside)) here)

    other : i ≢ j → P i (row_of (with_row s j row) i)
    other e = subst (P i) (sym (get_or-set_other s.rows j i row _ e)) (there i e)

same_rows : (s s' : Station) → s.rows ≡ s'.rows → (j : ℕ) → row_of s j ≡ row_of s' j
same_rows s s' e j = ap (λ (rows : List Row). get_or rows j (record { last = 0; slots = [] })) e

fresh_rows : (i j : ℕ) → j < 16 → row_of (fresh_station i) j ≡ fresh_row
fresh_rows i j inside = get_or-replicate 16 j fresh_row _ inside

fresh_last : (i j : ℕ) → (row_of (fresh_station i) j).last ≡ 0
fresh_last i j =
    ⊎_elim (λ inside. ap (λ (row : Row). row.last) (fresh_rows i j inside))
    (λ past. ap (λ (row : Row). row.last) (get_or_past (fresh_station i).rows j _ past)) (cases_lt j 16)

countdown_next : (n : ℕ) → (n + 1) ∷ countdown n ≡ countdown (n + 1)
unfolding countdown
countdown_next n = rw add-one

countdown_none : [] ≡ countdown 0
unfolding countdown
countdown_none = refl

countdown_length : (n : ℕ) → length (countdown n) ≡ n
unfolding countdown
countdown_length zero = refl
countdown_length (suc n) = ap suc (countdown_length n)

-- ---- what is noted and filed

module _ (r : Ruling) (first : ℕ → Station) (i : ℕ) where
  -- house i has signed digest d for number n of house j
  abbrev pub Signed : ℕ → ℕ → Digest → List Event → Type 0
  Signed j n d h = Some (Signs r first i (statement_of r j n d)) h

  -- what holds of the station's state s after the history h
  pub record Sound (h : List Event) (s : Station) : Type 0 where
    pub rows : length s.rows ≡ 16
    pub slots : (j : ℕ) → j < 16 → length (row_of s j).slots ≡ 4
    pub memo : (j n : ℕ) (d : Digest) → Signed j n d h → Remembers (row_of s j) n d
    pub once : (j n : ℕ) (d d' : Digest) → Signed j n d h → Signed j n d' h → d ≡ d'
    pub files : (j : ℕ) → numbers r first i j h ≡ countdown (row_of s j).last

  sound_fresh : Sound [] (fresh_station i)
  sound_fresh =
      record {
        rows = refl;
        slots = λ j inside. ap (λ (row : Row). length row.slots) (fresh_rows i j inside);
        memo = λ _ _ _ none. absurd none;
        once = λ _ _ _ _ none _. absurd none;
        files = λ j. countdown_none ∙ ap countdown (sym (fresh_last i j));
      }

  module _ (h : List Event) (c : Event) (s : Station) (sound : Sound h s) where
    earlier : Silent r first i c → (x : Statement) → Some (Signs r first i x) (c ∷ h) → Some (Signs r first i x) h
    earlier silent x = ⊎_elim (λ now. absurd (silent x now)) (λ before. before)

    sound_still : (s' : Station) → Still r first i c s s' → Sound (c ∷ h) s'
    sound_still s' still =
        let row = same_rows s s' (sym still.kept) in
        record {
          rows = ap length still.kept ∙ sound.rows;
          slots = λ j inside. subst (λ (x : Row). length x.slots ≡ 4) (row j) (sound.slots j inside);
          memo = λ j n d signed. subst (λ (x : Row). Remembers x n d) (row j) (sound.memo j n d (earlier still.silent _ signed));
          once = λ j n d d' p q. sound.once j n d d' (earlier still.silent _ p) (earlier still.silent _ q);
          files = λ j. still.unfiled j h ∙ sound.files j ∙ ap (λ (x : Row). countdown x.last) (row j);
        }

    -- where one row was replaced, it is enough to look at that row
    sound_row : (j : ℕ) (row : Row) → j < 16 → length row.slots ≡ 4
        → ((n : ℕ) (d : Digest) → Signed j n d (c ∷ h) → Remembers row n d)
        → ((x n : ℕ) (d : Digest) → x ≢ j → Signed x n d (c ∷ h) → Signed x n d h)
        → ((x n : ℕ) (d d' : Digest) → Signed x n d (c ∷ h) → Signed x n d' (c ∷ h) → d ≡ d')
        → numbers r first i j (c ∷ h) ≡ countdown row.last
        → ((x : ℕ) → x ≢ j → Unfiled r first i c x)
        → Sound (c ∷ h) (with_row s j row)
    sound_row j row below four memo elsewhere once files unfiled =
        let inside : j < length s.rows = subst (λ (n : ℕ). j < n) (sym sound.rows) below in
        record {
          rows = length-set s.rows j row ∙ sound.rows;
          slots = row_either (λ x y. x < 16 → length y.slots ≡ 4) s j row inside (λ _. four) (λ x _. sound.slots x);
          memo =
              row_either (λ x y. (n : ℕ) (d : Digest) → Signed x n d (c ∷ h) → Remembers y n d) s j row inside
              memo (λ x other n d signed. sound.memo x n d (elsewhere x n d other signed));
          once = once;
          files =
              row_either (λ x y. numbers r first i x (c ∷ h) ≡ countdown y.last) s j row inside
              files (λ x other. unfiled x other h ∙ sound.files x);
        }

    module _ (law : Lawful r) (s' : Station) where
      housed : (j : ℕ) → j < r.houses → j < 16
      housed j inside = lt_of_lt_of_le inside law.most

      module _ (notes : Notes r first i c s s') where
        -- nothing was signed for the number that is noted
        not_yet : (d : Digest) → Signed notes.house notes.number d h → ⊥
        not_yet d signed =
            remembers_not_empty (row_of s notes.house) notes.number d notes.fresh.above notes.fresh.empty
            (sound.memo notes.house notes.number d signed)

        signed_anew : (j n : ℕ) (d d' : Digest) → Signs r first i (statement_of r j n d) c → Signed j n d' h → ⊥
        signed_anew j n d d' now before =
            not_yet d' (subst (λ (x : Statement). Signed x.house x.number d' h) (sym (notes.signs (statement_of r j n d) now)) before)

        notes_once : (j n : ℕ) (d d' : Digest) → Signed j n d (c ∷ h) → Signed j n d' (c ∷ h) → d ≡ d'
        notes_once j n d d' (inl p) (inl q) =
            ap (λ (x : Statement). x.digest) (sym (notes.signs (statement_of r j n d) p) ∙ notes.signs (statement_of r j n d') q)
        notes_once j n d d' (inl p) (inr q) = absurd (signed_anew j n d d' p q)
        notes_once j n d d' (inr p) (inl q) = absurd (signed_anew j n d' d q p)
        notes_once j n d d' (inr p) (inr q) = sound.once j n d d' p q

        notes_memo : (n : ℕ) (d : Digest) → Signed notes.house n d (c ∷ h)
            → Remembers (noted_row (row_of s notes.house) notes.number notes.digest) n d
        notes_memo n d (inl now) =
            let j = notes.house in
            let row = row_of s j in
            subst (λ (x : Statement). Remembers (noted_row row notes.number notes.digest) x.number x.digest)
            (notes.signs (statement_of r j n d) now)
            (remembers_new row notes.number notes.digest (sound.slots j (housed j notes.fresh.inside)) notes.fresh.above notes.fresh.ahead)
        notes_memo n d (inr before) =
            let j = notes.house in
            ⊎_elim (λ same. absurd (not_yet d (subst (λ (m : ℕ). Signed j m d h) same before)))
            (λ other. remembers_old (row_of s j) n d notes.number notes.digest other notes.fresh.above (sound.memo j n d before))
            (cases_eq n notes.number)

        notes_elsewhere : (j n : ℕ) (d : Digest) → j ≢ notes.house → Signed j n d (c ∷ h) → Signed j n d h
        notes_elsewhere j n d other =
            ⊎_elim (λ now. absurd (other (ap (λ (x : Statement). x.house) (sym (notes.signs (statement_of r j n d) now))))) (λ before. before)

        sound_notes : Sound (c ∷ h) s'
        sound_notes =
            let j = notes.house in
            let below = housed j notes.fresh.inside in
            subst (Sound (c ∷ h)) (sym notes.left)
            (sound_row j _ below (length-set (row_of s j).slots _ _ ∙ sound.slots j below) notes_memo notes_elsewhere notes_once
            (notes.unfiled j h ∙ sound.files j) (λ x _. notes.unfiled x))

      sound_advances : Advances r first i c s s' → Sound (c ∷ h) s'
      sound_advances advances =
          let j = advances.house in
          let row = row_of s j in
          let before = λ (x : Statement). earlier advances.silent x in
          subst (Sound (c ∷ h)) (sym advances.left)
          (sound_row j _ (housed j advances.inside) refl
          (λ n d signed. remembers_filed row n d (sound.memo j n d (before _ signed)))
          (λ x n d _. before _)
          (λ x n d d' p q. sound.once x n d d' (before _ p) (before _ q))
          (advances.files h ∙ ap (λ (ns : List ℕ). (row.last + 1) ∷ ns) (sound.files j) ∙ countdown_next row.last)
          advances.unfiled)

      sound_moves : Moves r first i c s s' → Sound (c ∷ h) s'
      sound_moves = ⊎_elim (sound_still s') (⊎_elim sound_notes sound_advances)

-- ---- after any list of calls

-- station a is fresh at the opening, and house i has no other
module _ {S : Type 0} (r : Ruling) (law : Lawful r) (k : Meaning S) (e : S) (first : ℕ → Station) (i a : ℕ)
    (opened : first a ≡ fresh_station i) (only : (b : ℕ) → (first b).house ≡ i → b ≡ a) where
  pub sound : (h : List Event) (w : World S) → Run r k e first h w → Sound r first i h (w.stations a)
  sound [] w run = subst (Sound r first i []) (sym (ap (λ (v : World S). v.stations a) run ∙ opened)) (sound_fresh r first i)
  sound (c ∷ h) w run =
      sound_moves r first i h c (run.0.stations a) (sound h run.0 run.1.0) law (w.stations a)
      (moves r first i k a (ap (λ (s : Station). s.house) opened) only c run.0 w run.1.1)

  -- the last number filed is how many were filed
  pub last_filed : (h : List Event) (w : World S) → Run r k e first h w → (j : ℕ)
      → ((row_of (w.stations a) j).last ≡ length (numbers r first i j h)) × (numbers r first i j h ≡ countdown (row_of (w.stations a) j).last)
  last_filed h w run j =
      let files = (sound h w run).files j in
      (sym (ap length files ∙ countdown_length (row_of (w.stations a) j).last), files)
