-- What the calls of a rehearsal give, by the exchange's own answers.
use Rattle.std.specs.Prelude.{◌≡◌, ◌<◌, ℕ, List, [], ◌∷◌, length, take, replicate, Some, None, Ok, Err, Option, Result, nat_lt, slice_index_or, slice_set}
use Rattle.refusal.specs.Questions.{ask, after}
use Rattle.refusal.specs.declared.Refusal.{Refusal}
use Rattle.refusal.specs.declared.Refusal.TheVariants.{StationHouse, BadLine}
use Rattle.refusal.specs.declared.Refused.{Refused}
use Rattle.sha256.specs.Text.{digest_of}
use Rattle.witness.specs.Rules.{Ruling}
use Rattle.seal.specs.declared.register.Register.{Register}
use Rattle.seal.specs.Meanings.{Signing}
use Rattle.seal.specs.Registers.{register, used}
use Rattle.exchange.specs.declared.station.Station.{Station}
use Rattle.exchange.specs.Machine.{go_on, statement_of, announce_answer, announce_station, note_answer, note_station, file_answer, file_station}
use Rattle.rehearsal.specs.declared.events.Call.{Call}
use Rattle.rehearsal.specs.declared.events.Call.TheVariants.{Announce, Note, File}
use Rattle.rehearsal.specs.declared.report.Shown.{Shown}
use Rattle.rehearsal.specs.declared.report.Shown.TheVariants.{Call as Called, Line as Bad}
use Rattle.rehearsal.specs.Bundles.{bundle_of}
use Rattle.rehearsal.specs.Events.{Meant, event_of}
use Rattle.rehearsal.specs.Fields.{and_then, cut_at}

-- the station of a house below n
abbrev pub station_place : ℕ → ℕ → Result ℕ Refusal
station_place n at = ask (nat_lt at n) StationHouse (Ok at)

-- the station at a place
abbrev pub station_at : List Station → ℕ → Station
station_at stations i = slice_index_or stations i (record { house = 0; announced = 0; rows = [] })

-- a refusal without its place, or what is told of the answer
abbrev pub told : {A : Type 0} → (A → ℕ) → Result A Refused → Result ℕ Refusal
told tell (Ok x) = Ok (tell x)
told tell (Err e) = Err e.refusal

-- announce tells the number
abbrev pub announce_outcome : Ruling → List Station → Meant → Result ℕ Refusal
announce_outcome r stations e =
    go_on (station_place r.houses e.at) (λ at. told (λ x. x.0) (announce_answer r (station_at stations at) e.text))

-- the station of the house announces, and the others stay
abbrev pub announce_stations : Ruling → List Station → Meant → List Station
announce_stations r stations e =
    after (station_place r.houses e.at) (λ at. slice_set stations at (announce_station r (station_at stations at) e.text)) stations

-- note tells the row that is used; its seal is of two bytes
abbrev pub note_outcome : Ruling → Register → List Station → Meant → Result ℕ Refusal
note_outcome r s stations e =
    go_on (station_place r.houses e.at)
    (λ at. told (λ _. used s) (note_answer r register s (station_at stations at) e.house e.number (digest_of e.text) 2))

abbrev pub note_stations : Ruling → Register → List Station → Meant → List Station
note_stations r s stations e =
    after (station_place r.houses e.at)
    (λ at. slice_set stations at (note_station r register s (station_at stations at) e.house e.number (digest_of e.text) 2)) stations

-- what a report names for an event, or for what is none
abbrev pub shown_event : Option Meant → Shown
shown_event None = Bad
shown_event (Some e) = Called e.call

-- file tells the signers; the bundle's memory is of 85 bytes
abbrev pub file_outcome : Ruling → Register → List Station → Meant → Result ℕ Refusal
file_outcome r s stations e =
    go_on (station_place r.houses e.at)
    (λ at. go_on (bundle_of r s e.house e.number (digest_of e.text) (replicate 85 0))
    (λ y. told (λ f. f.signers) (file_answer r register s (station_at stations at) (take y.0 y.1) e.text)))

-- a taken file changes the station of the house, and the others stay
abbrev pub file_stations : Ruling → Register → List Station → Meant → List Station
file_stations r s stations e =
    after (station_place r.houses e.at)
    (λ at. after (bundle_of r s e.house e.number (digest_of e.text) (replicate 85 0))
    (λ y. slice_set stations at (file_station r register s (station_at stations at) (take y.0 y.1) e.text)) stations) stations

-- what each call gives
abbrev pub CallGave : Ruling → Register → List Station → Meant → Call → Result ℕ Refusal → Type 0
CallGave r s stations e Announce o = o ≡ announce_outcome r stations e
CallGave r s stations e Note o = o ≡ note_outcome r s stations e
CallGave r s stations e File o = o ≡ file_outcome r s stations e

-- what an event line gives
abbrev pub Gave : Ruling → Register → List Station → Option Meant → Result ℕ Refusal → Type 0
Gave r s stations None o = o ≡ Err BadLine
Gave r s stations (Some e) o = CallGave r s stations e e.call o

-- the stations after each call
abbrev pub call_stations : Ruling → Register → List Station → Meant → Call → List Station
call_stations r s stations e Announce = announce_stations r stations e
call_stations r s stations e Note = note_stations r s stations e
call_stations r s stations e File = file_stations r s stations e

-- the stations after an event line
abbrev pub stations_after : Ruling → Register → List Station → Option Meant → List Station
stations_after r s stations None = stations
stations_after r s stations (Some e) = call_stations r s stations e e.call

-- the register after a note at a station, which may be none: a taken one has signed, into memory of two bytes
abbrev pub NoteLeft : Ruling → Register → List Station → Meant → Result ℕ Refusal → Register → Type 0
NoteLeft r s stations e (Ok at) s' =
    (m : List ℕ)
    × Signing register (note_answer r register s (station_at stations at) e.house e.number (digest_of e.text) 2)
    (station_at stations at).house (statement_of r e.house e.number (digest_of e.text)) s (0 ∷ 0 ∷ []) s' m
NoteLeft r s stations e (Err x) s' = s' ≡ s

-- the register after each call: only a note changes it
abbrev pub CallLeft : Ruling → Register → List Station → Meant → Call → Register → Type 0
CallLeft r s stations e Announce s' = s' ≡ s
CallLeft r s stations e Note s' = NoteLeft r s stations e (station_place r.houses e.at) s'
CallLeft r s stations e File s' = s' ≡ s

-- the register after an event line
abbrev pub Left : Ruling → Register → List Station → Option Meant → Register → Type 0
Left r s stations None s' = s' ≡ s
Left r s stations (Some e) s' = CallLeft r s stations e e.call s'

-- the event of the first line, if it has an end and the right form
abbrev pub first_event : List ℕ → Option Meant
first_event bytes = and_then (cut_at bytes 10) (λ p. event_of p.0)

abbrev pub rest_of : Option (List ℕ × List ℕ) → List ℕ
rest_of None = []
rest_of (Some p) = p.1

-- what follows the first line
abbrev pub after_first : List ℕ → List ℕ
after_first bytes = rest_of (cut_at bytes 10)

-- the first line is taken: what it says, and what follows it
abbrev pub TakesLine : List ℕ → Option Meant → List ℕ → Type 0
TakesLine bytes event after = (0 < length bytes) × (event ≡ first_event bytes) × (after ≡ after_first bytes)
