-- Histories of calls, and the worlds that they lead to.
use Rattle.std.specs.Prelude.{◌≡◌, ℕ, cond, ◌⊎◌, List, [], ◌∷◌, length, Result, ◌==◌}
use Rattle.refusal.specs.Questions.{after}
use Rattle.refusal.specs.declared.Refused.{Refused}
use Rattle.sha256.specs.declared.value.Digest.{Digest}
use Rattle.witness.specs.Rules.{Ruling}
use Rattle.seal.specs.declared.statement.Statement.{Statement}
use Rattle.seal.specs.Meanings.{Meaning, Signing, sign_answer}
use Rattle.exchange.specs.declared.station.Station.{Station}
use Rattle.exchange.specs.declared.gathering.Gathering.{Gathering}
use Rattle.exchange.specs.declared.gathering.Closed.{Closed}
use Rattle.exchange.specs.declared.filing.Filing.{Filing}
use Rattle.exchange.specs.Machine.{statement_of, placed, announce_answer, announce_station, note_answer, note_station, start_answer, add_answer, add_gathering, add_memory, close_answer, issue_answer, issue_memory, file_answer, file_station}

-- One call with what it was given, its answer, and the memory that it left. Stations and gatherings go by names.
pub data Event : Type 0 where
  announced : (station : ℕ) (pages : List ℕ) (answer : Result (ℕ × Digest) Refused) → Event
  noted : (station house number : ℕ) (digest : Digest) (memory : List ℕ) (answer : Result (Unit {0}) Refused) (left : List ℕ) → Event
  started : (gathering house number : ℕ) (digest : Digest) (answer : Result Gathering Refused) → Event
  added : (gathering house : ℕ) (seal memory : List ℕ) (answer : Result (Unit {0}) Refused) (left : List ℕ) → Event
  closed : (gathering : ℕ) (answer : Result Closed (Refused × Gathering)) → Event
  issued : (gathering : ℕ) (memory : List ℕ) (answer : Result ℕ (Refused × Closed)) (left : List ℕ) → Event
  filed : (station : ℕ) (bundle pages : List ℕ) (answer : Result Filing Refused) → Event
  signed : (house : ℕ) (statement : Statement) (memory : List ℕ) (answer : Result (Unit {0}) Refused) (left : List ℕ) → Event

-- where a gathering's name stands: not used yet, open, closed, or issued and gone
pub data Held : Type 0 where
  none : Held
  open_with : Gathering → Held
  closed_with : Closed → Held
  gone : Held

-- the seal kind's state, the stations and the gatherings, by their names
pub record World (S : Type 0) : Type 0 where
  pub seal : S
  pub stations : ℕ → Station
  pub gatherings : ℕ → Held

-- another value at one name, and at every other name as before
abbrev pub put : {A : Type 0} → (ℕ → A) → ℕ → A → ℕ → A
put f a x b = cond (b == a) x (f b)

abbrev pub at_station : {S : Type 0} → World S → ℕ → Station → World S
at_station w a s = record { seal = w.seal; stations = put w.stations a s; gatherings = w.gatherings }

abbrev pub at_gathering : {S : Type 0} → World S → ℕ → Held → World S
at_gathering w g x = record { seal = w.seal; stations = w.stations; gatherings = put w.gatherings g x }

abbrev pub at_seal : {S : Type 0} → World S → S → World S
at_seal w s = record { seal = s; stations = w.stations; gatherings = w.gatherings }

-- nothing is gathered at the opening
abbrev pub opened : {S : Type 0} → S → (ℕ → Station) → World S
opened seal stations = record { seal = seal; stations = stations; gatherings = λ _. none }

-- one call, answered and left exactly as the machine says, upon what the world was before it
abbrev pub Step : {S : Type 0} → Ruling → Meaning S → World S → Event → World S → Type 0
Step r k w (announced a p y) w' =
    (y ≡ announce_answer r (w.stations a) p)
    × (w' ≡ at_station w a (announce_station r (w.stations a) p))
Step {S} r k w (noted a j n d m y m') w' =
    (s : S)
    × (y ≡ note_answer r k w.seal (w.stations a) j n d (length m))
    × Signing k y (w.stations a).house (statement_of r j n d) w.seal m s m'
    × (w' ≡ at_seal (at_station w a (note_station r k w.seal (w.stations a) j n d (length m))) s)
Step r k w (started g j n d y) w' =
    (w.gatherings g ≡ none)
    × (y ≡ start_answer r j n d)
    × (w' ≡ at_gathering w g (after y open_with none))
Step r k w (added g i z m y m') w' =
    (x : Gathering)
    × (w.gatherings g ≡ open_with x)
    × (y ≡ add_answer r k w.seal x i z (length m))
    × (m' ≡ add_memory r k w.seal x i z m)
    × (w' ≡ at_gathering w g (open_with (add_gathering r k w.seal x i z (length m))))
Step r k w (closed g y) w' =
    (x : Gathering)
    × (w.gatherings g ≡ open_with x)
    × (y ≡ close_answer r x)
    × (w' ≡ at_gathering w g (after y closed_with (open_with x)))
Step r k w (issued g m y m') w' =
    (x : Closed)
    × (w.gatherings g ≡ closed_with x)
    × (y ≡ issue_answer k x (length m))
    × (m' ≡ issue_memory r k x m)
    × (w' ≡ at_gathering w g (after y (λ _. gone) (closed_with x)))
Step r k w (filed a b p y) w' =
    (y ≡ file_answer r k w.seal (w.stations a) b p)
    × (w' ≡ at_station w a (file_station r k w.seal (w.stations a) b p))
Step {S} r k w (signed i x m y m') w' =
    (s : S)
    × (y ≡ placed (sign_answer k w.seal i (length m)))
    × Signing k y i x w.seal m s m'
    × (w' ≡ at_seal w s)

-- any list of calls from the opening, the newest first, and the world after it
abbrev pub Run : {S : Type 0} → Ruling → Meaning S → S → (ℕ → Station) → List Event → World S → Type 0
Run r k e first [] w = w ≡ opened e first
Run {S} r k e first (c ∷ h) w' = (w : World S) × (Run r k e first h w × Step r k w c w')

-- some event of a history is such
abbrev pub Some : (Event → Type 0) → List Event → Type 0
Some P [] = ⊥
Some P (c ∷ h) = P c ⊎ Some P h

-- each event is such, seen with the events before it
abbrev pub Each : (List Event → Event → Type 0) → List Event → Type 0
Each P [] = Unit {0}
Each P (c ∷ h) = P h c × Each P h
