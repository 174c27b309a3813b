-- What an event line means.
use Rattle.std.specs.Prelude.{ℕ, Bool, true, cond, ◌&&◌, List, Some, None, codes, Option, ◌==◌}
use Rattle.std.specs.Str.{bytes_eq}
use Rattle.rehearsal.specs.declared.events.Call.{Call}
use Rattle.rehearsal.specs.declared.events.Call.TheVariants.{Announce, Note, File}
use Rattle.rehearsal.specs.declared.events.Asked.{Asked}
use Rattle.rehearsal.specs.declared.events.Asked.TheVariants.{Announce as AskedAnnounce, Note as AskedNote, File as AskedFile}
use Rattle.rehearsal.specs.declared.events.Event.{Event}
use Rattle.rehearsal.specs.Fields.{and_then, cut_at, number_of_field, text_field}

-- the word of a call
abbrev pub call_text : Call → List ℕ
call_text Announce = codes "announce"
call_text Note = codes "note"
call_text File = codes "file"

-- the call of a word
abbrev pub call_of_word : List ℕ → Option Call
call_of_word word =
    cond (bytes_eq word (codes "announce")) (Some Announce)
    (cond (bytes_eq word (codes "note")) (Some Note)
    (cond (bytes_eq word (codes "file")) (Some File)
    None))

-- an announce names no house and no number
abbrev pub fitting : Call → ℕ → ℕ → Bool
fitting Announce j k = j == 0 && k == 0
fitting Note j k = true
fitting File j k = true

-- an event with its text's bytes
pub record Meant : Type 0 where
  pub call : Call
  pub at : ℕ
  pub house : ℕ
  pub number : ℕ
  pub text : List ℕ

abbrev pub asked_call : Asked → Call
asked_call AskedAnnounce = Announce
asked_call (AskedNote named) = Note
asked_call (AskedFile named) = File

-- an announce stands for house 0 and number 0
abbrev pub asked_house : Asked → ℕ
asked_house AskedAnnounce = 0
asked_house (AskedNote named) = named.house
asked_house (AskedFile named) = named.house

abbrev pub asked_number : Asked → ℕ
asked_number AskedAnnounce = 0
asked_number (AskedNote named) = named.number
asked_number (AskedFile named) = named.number

-- what is asked at a house's station with a text
abbrev pub asking : Asked → ℕ → List ℕ → Meant
asking a at text = record { call = asked_call a; at = at; house = asked_house a; number = asked_number a; text = text }

abbrev pub meant : Event → Meant
meant e = asking e.asked e.at e.text.now

-- the five fields of a line
pub record Fields : Type 0 where
  pub first : List ℕ
  pub second : List ℕ
  pub third : List ℕ
  pub fourth : List ℕ
  pub rest : List ℕ

-- four spaces part them; what follows the fourth is the fifth
abbrev pub fields_of : List ℕ → Option Fields
fields_of line =
    and_then (cut_at line 32)
    (λ a. and_then (cut_at a.1 32)
    (λ b. and_then (cut_at b.1 32)
    (λ c. and_then (cut_at c.1 32)
    (λ d. Some (record { first = a.0; second = b.0; third = c.0; fourth = d.0; rest = d.1 })))))

-- a call, three numbers and a text
abbrev pub event_of_fields : Fields → Option Meant
event_of_fields f =
    and_then (call_of_word f.first)
    (λ call. and_then (number_of_field f.second)
    (λ at. and_then (number_of_field f.third)
    (λ house. and_then (number_of_field f.fourth)
    (λ number. cond (fitting call house number && text_field f.rest)
    (Some (record { call = call; at = at; house = house; number = number; text = f.rest }))
    None))))

-- the event of a line without its end, if it has the right form
unfoldable pub event_of : List ℕ → Option Meant
event_of line = and_then (fields_of line) event_of_fields
