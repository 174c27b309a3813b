-- A whole rehearsal: its event lines played one after the other, the report, and what the exchange's law says of it.
use Rattle.std.specs.Prelude.{◌≡◌, ℕ, ◌+◌, ◌*◌, ◌<◌, Bool, true, false, cond, ◌&&◌, ◌⊎◌, List, [], ◌∷◌, ◌++◌, length, Some, None, Ok, Err, vec_capacity, Option, Result, ◌==◌}
use Rattle.refusal.specs.declared.Refusal.{Refusal}
use Rattle.refusal.specs.declared.Refusal.TheVariants.{BadLine}
use Rattle.sha256.specs.Text.{digest_of}
use Rattle.witness.specs.All.{all_ruling}
use Rattle.witness.specs.Opening.{opened}
use Rattle.witness.specs.Rotating.{rotating_ruling}
use Rattle.witness.specs.Rules.{Ruling}
use Rattle.seal.specs.declared.register.Register.{Register}
use Rattle.seal.specs.declared.table.Table.{Table}
use Rattle.seal.specs.Registers.{Begun}
use Rattle.exchange.specs.declared.station.Station.{Station}
use Rattle.exchange.specs.Law.{countdown}
use Rattle.exchange.specs.Stations.{fresh_station}
use Rattle.rehearsal.specs.declared.events.Call.{Call}
use Rattle.rehearsal.specs.declared.events.Call.TheVariants.{Announce, Note, File}
use Rattle.rehearsal.specs.declared.opening.Mark.{Mark}
use Rattle.rehearsal.specs.declared.opening.Mark.TheVariants.{All, Rotating}
use Rattle.rehearsal.specs.declared.report.Line.{Line}
use Rattle.rehearsal.specs.Calls.{station_at, shown_event, Gave, stations_after, Left, first_event, after_first}
use Rattle.rehearsal.specs.Events.{Meant}
use Rattle.rehearsal.specs.Openings.{Begin, opening_of}
use Rattle.rehearsal.specs.Reports.{open_lines, report_text}

-- the register, the stations, and the bytes of the event lines that are to come
pub record State : Type 0 where
  pub register : Register
  pub stations : List Station
  pub rest : List ℕ

-- an event line that was played: what it says, if it has the right form, and what came of it
pub record Played : Type 0 where
  pub event : Option Meant
  pub outcome : Result ℕ Refusal

-- there are sixteen stations, each fresh and of the house of its place
abbrev pub Fresh : List Station → Type 0
Fresh stations = (length stations ≡ 16) × ((i : ℕ) → i < 16 → station_at stations i ≡ fresh_station i)

-- how many rows of the register there are for each house
abbrev pub rows_each : ℕ
rows_each = 64

-- the opening with n houses: a register of empty rows, so many for each house, and fresh stations
pub record Opens (n : ℕ) (s : Register) (stations : List Station) : Type 0 where
  pub table : Table
  pub rows : vec_capacity table.entries ≡ rows_each * n
  pub begun : Begun s n rows_each table
  pub fresh : Fresh stations

-- the next event line is played, upon what the lines before it left
pub record PlaysOne (r : Ruling) (v : State) (c : Played) (v' : State) : Type 0 where
  pub more : 0 < length v.rest
  pub says : c.event ≡ first_event v.rest
  pub gives : Gave r v.register v.stations c.event c.outcome
  pub stations : v'.stations ≡ stations_after r v.register v.stations c.event
  pub register : Left r v.register v.stations c.event v'.register
  pub rest : v'.rest ≡ after_first v.rest

-- event lines are played in their order, here the newest first
abbrev pub Plays : Ruling → State → List Played → State → Type 0
Plays r v [] v' = v' ≡ v
Plays r v (c ∷ before) v'' = (v' : State) × (Plays r v before v' × PlaysOne r v' c v'')

-- the report's lines, in the order of the event lines and counted from 1
abbrev pub lines_of : List Played → List Line
lines_of [] = []
lines_of (c ∷ before) =
    lines_of before ++ (record { place = length before + 1; call = shown_event c.event; outcome = c.outcome } ∷ [])

-- the event lines played between two states give these lines of the report
pub record Ran (r : Ruling) (v v' : State) (lines : List Line) : Type 0 where
  pub history : List Played
  pub plays : Plays r v history v'
  pub told : lines ≡ lines_of history

abbrev pub is_file : Call → Bool
is_file Announce = false
is_file Note = false
is_file File = true

-- a taken file line at house i, for number k of house j, with a text
abbrev pub FilesSo : ℕ → ℕ → ℕ → List ℕ → Option Meant → Result ℕ Refusal → Type 0
FilesSo i j k text None o = ⊥
FilesSo i j k text (Some e) (Ok v) = (is_file e.call ≡ true) × (e.at ≡ i) × (e.house ≡ j) × (e.number ≡ k) × (e.text ≡ text)
FilesSo i j k text (Some e) (Err x) = ⊥

-- among the lines played there is such a line
abbrev pub HasFiled : ℕ → ℕ → ℕ → List ℕ → List Played → Type 0
HasFiled i j k text [] = ⊥
HasFiled i j k text (c ∷ before) = FilesSo i j k text c.event c.outcome ⊎ HasFiled i j k text before

-- the number of a taken file line at house i for house j, before those of earlier lines
abbrev pub with_number : ℕ → ℕ → Option Meant → Result ℕ Refusal → List ℕ → List ℕ
with_number i j None o earlier = earlier
with_number i j (Some e) (Ok v) earlier = cond (is_file e.call && (e.at == i && e.house == j)) (e.number ∷ earlier) earlier
with_number i j (Some e) (Err x) earlier = earlier

-- the numbers of the taken file lines at house i for house j, the newest first
abbrev pub numbers_filed : ℕ → ℕ → List Played → List ℕ
numbers_filed i j [] = []
numbers_filed i j (c ∷ before) = with_number i j c.event c.outcome (numbers_filed i j before)

-- what holds of every rehearsal
pub record Agrees (history : List Played) : Type 0 where
  -- two taken file lines for one house and number have texts of one digest
  pub one_digest : (i i' j k : ℕ) (p q : List ℕ) → HasFiled i j k p history → HasFiled i' j k q history → digest_of p ≡ digest_of q
  -- the numbers filed at one house of another are 1, 2, 3 and so on
  pub order : (i j : ℕ) → numbers_filed i j history ≡ countdown (length (numbers_filed i j history))

-- all event lines, played from the opening on, give these lines of the report
pub record Staged (r : Ruling) (events : List ℕ) (lines : List Line) : Type 0 where
  pub register : Register
  pub stations : List Station
  pub opens : Opens r.houses register stations
  pub end : State
  pub ran : Ran r (record { register = register; stations = stations; rest = events }) end lines
  pub done : end.rest ≡ []
  pub agrees : Agrees ran.history

-- the rule of a mark
abbrev pub ruling_of : Mark → ℕ → ℕ → Ruling
ruling_of All n t = all_ruling n t
ruling_of Rotating n t = rotating_ruling n t

-- the lines of the report, by the refusal of the numbers of houses and faults, if there is one
abbrev pub LinesOpened : Begin → Result (Unit {0}) Refusal → List Line → Type 0
LinesOpened b (Ok x) lines = Staged (ruling_of b.mark b.houses b.faults) b.events lines
LinesOpened b (Err e) lines = lines ≡ open_lines e

-- the lines of the report, by what the first three lines say
abbrev pub LinesOf : Option Begin → List Line → Type 0
LinesOf None lines = lines ≡ open_lines BadLine
LinesOf (Some b) lines = LinesOpened b (opened b.houses b.faults) lines

-- the report of an input
abbrev pub Reports : List ℕ → List ℕ → Type 0
Reports input text = (lines : List Line) × ((text ≡ report_text lines) × LinesOf (opening_of input) lines)
