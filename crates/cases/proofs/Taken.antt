-- Calls over a register that are taken, and a note that is refused, upon any world.
use Rattle.std.proofs.Common.{◌≡◌, ℕ, ◌+◌, ◌-◌, ◌<◌, ltb, leb, List, length, get_or, replicate, Ok, Err, Result, sym, refl, ap, ◌∙◌, subst, ap₂, lit≤}
use lib.Count.{ones}
use lib.Seq.{paste}
use Rattle.std.proofs.lemmas.List.{length-replicate, get_or_append_left, get_or-replicate}
use Rattle.std.proofs.lemmas.Bool.{lt-ltb, le-leb, cond-true}
use Rattle.refusal.specs.Questions.{after}
use Rattle.refusal.specs.declared.Refused.{Refused}
use Rattle.refusal.specs.declared.Refusal.TheVariants.{NoSealLeft, MemoryTooSmall}
use Rattle.sha256.specs.declared.value.Digest.{Digest}
use Rattle.witness.specs.Rules.{Ruling}
use Rattle.seal.specs.declared.register.Register.{Register}
use Rattle.seal.specs.declared.statement.Statement.{Statement}
use Rattle.seal.specs.declared.table.Table.{Table}
use Rattle.seal.specs.Houses.{most_houses, shares, left_of}
use Rattle.seal.specs.Meanings.{sign_answer}
use Rattle.seal.specs.Registers.{Begun, Entered, used, register}
use Rattle.seal.specs.Rows.{row_size, row_bytes}
use Rattle.seal.specs.RegisterLaws.{register_meant}
use Rattle.exchange.specs.declared.station.Station.{Station}
use Rattle.exchange.specs.declared.gathering.Gathering.{Gathering}
use Rattle.exchange.specs.Stations.{row_of, noted_row, with_row}
use Rattle.exchange.specs.Layout.{receipt_at, receipt_bytes, receipt_length}
use Rattle.exchange.specs.Machine.{statement_of, go_on, placed, with_house, announce_answer, note_questions, add_answer}
use Rattle.exchange.specs.Runs.{announced, noted, added, signed, World, open_with, at_station, at_gathering, at_seal, Step}
use Rattle.exchange.proofs.Questions.{yes_to}
use Rattle.cases.specs.Dishonest.{seal_memory}

-- A house that has a seal left can sign, and its seal is the number of the next row: what holds after that, holds.
pub signs_next : {P : Type 0} (s : Register) (i : ℕ) (x : Statement) → 0 < register.left s i
    → ((s' : Register) → Entered s i x seal_memory s' (row_bytes (used s)) → P) → P
signs_next s i x had then =
    let step = register_meant.goes s i x seal_memory had (lit≤ tt) in
    then step.0 (subst (λ (m : List ℕ). Entered s i x seal_memory step.0 m) step.1.1.writes step.1.1)

-- a sign that is a step was taken
signs_taken : (s : Register) (i : ℕ) (x : Statement) (m : List ℕ) (s' : Register) (m' : List ℕ) → Entered s i x m s' m' → sign_answer register s i (length m) ≡ Ok tt
signs_taken s i x m s' m' t =
    yes_to (ltb 0 (register.left s i)) NoSealLeft _ (lt-ltb 0 (register.left s i) t.had)
    ∙ yes_to (leb row_size (length m)) MemoryTooSmall (Ok tt) (le-leb row_size (length m) t.fits)

-- what each house has at the opening
pub begun_left : (e : Register) (n each : ℕ) (table : Table) → Begun e n each table → (i : ℕ) → i < n → register.left e i ≡ each
unfolding shares
begun_left e n each table begun i h =
    let long : i < length (replicate n each) = simp length-replicate h in
    ap₂ (λ (m : ℕ) (left : List ℕ). left_of m left i) begun.of_houses begun.all_left
    ∙ cond-true (ltb i n) (get_or (shares n each) i 0) 0 (lt-ltb i n h)
    ∙ get_or_append_left (replicate n each) (replicate (most_houses - n) 0) 0 i long
    ∙ get_or-replicate n i each 0 h

-- the station with one number more announced, and with a digest noted
abbrev pub one_more : Station → Station
one_more x = record { house = x.house; announced = x.announced + 1; rows = x.rows }

abbrev pub with_note : Station → ℕ → ℕ → Digest → Station
with_note x j n d = with_row x j (noted_row (row_of x j) n d)

-- the memory with the next receipt of a gathering
abbrev pub with_receipt : Gathering → ℕ → List ℕ → List ℕ → List ℕ
with_receipt x i z m = paste m (receipt_at row_size (ones x.gathered)) (receipt_bytes i z) (receipt_length row_size)

module _ (r : Ruling) (w : World Register) where
  pub announces : (a : ℕ) (p : List ℕ) (y : ℕ × Digest) → announce_answer r (w.stations a) p ≡ Ok y
      → Step r register w (announced a p (Ok y)) (at_station w a (one_more (w.stations a)))
  announces a p y taken = (
    sym taken,
    ap (λ (v : Result (ℕ × Digest) Refused). at_station w a (after v (λ _. one_more (w.stations a)) (w.stations a))) (sym taken),
  )

  module _ (a j n : ℕ) (d : Digest) (m : List ℕ) where
    abbrev answer : Result (Unit {0}) Refused → Result (Unit {0}) Refused
    answer y = go_on y (λ _. placed (sign_answer register w.seal (w.stations a).house (length m)))

    abbrev left : Result (Unit {0}) Refused → Register → World Register
    left y s = at_seal (at_station w a (after y (λ _. with_note (w.stations a) j n d) (w.stations a))) s

    pub notes : (s : Register) (m' : List ℕ) → note_questions r (w.stations a) j n d ≡ Ok tt
        → Entered w.seal (w.stations a).house (statement_of r j n d) m s m'
        → Step r register w (noted a j n d m (Ok tt) m') (at_seal (at_station w a (with_note (w.stations a) j n d)) s)
    notes s m' asked t =
        let taken = ap answer asked ∙ ap placed (signs_taken w.seal (w.stations a).house (statement_of r j n d) m s m' t) in
        (s, sym taken, t, ap (λ (y : Result (Unit {0}) Refused). left y s) (sym taken))

    pub refuses : (e : Refused) → note_questions r (w.stations a) j n d ≡ Err e
        → Step r register w (noted a j n d m (Err e) m) (at_seal (at_station w a (w.stations a)) w.seal)
    refuses e asked =
        let refused = ap answer asked in
        (w.seal, sym refused, (refl, refl), ap (λ (y : Result (Unit {0}) Refused). left y w.seal) (sym refused))

  pub adds : (g i : ℕ) (x : Gathering) (z m : List ℕ) → w.gatherings g ≡ open_with x → add_answer r register w.seal x i z (length m) ≡ Ok tt
      → Step r register w (added g i z m (Ok tt) (with_receipt x i z m)) (at_gathering w g (open_with (with_house x i)))
  adds g i x z m held taken = (
    x,
    held,
    sym taken,
    ap (λ (y : Result (Unit {0}) Refused). after y (λ _. with_receipt x i z m) m) (sym taken),
    ap (λ (y : Result (Unit {0}) Refused). at_gathering w g (open_with (after y (λ _. with_house x i) x))) (sym taken),
  )

  pub signs : (i : ℕ) (x : Statement) (m : List ℕ) (s : Register) (m' : List ℕ) → Entered w.seal i x m s m'
      → Step r register w (signed i x m (Ok tt) m') (at_seal w s)
  signs i x m s m' t = (s, sym (ap placed (signs_taken w.seal i x m s m' t)), t, refl)
