-- What a report says.
use Rattle.std.specs.Prelude.{ℕ, List, [], ◌∷◌, ◌++◌, Ok, Err, codes, decimal, Result}
use Rattle.refusal.specs.Numbers.{number_of}
use Rattle.refusal.specs.declared.Refusal.{Refusal}
use Rattle.rehearsal.specs.declared.report.Shown.{Shown}
use Rattle.rehearsal.specs.declared.report.Shown.TheVariants.{Call as Called, Line as Bad, Open}
use Rattle.rehearsal.specs.declared.report.Line.{Line}
use Rattle.rehearsal.specs.Events.{call_text}

-- the word of a call, or of what stands in its place
abbrev pub word_text : Shown → List ℕ
word_text (Called call) = call_text call
word_text Bad = codes "line"
word_text Open = codes "open"

-- 0, or the number of the refusal
abbrev pub outcome_number : Result ℕ Refusal → ℕ
outcome_number (Ok v) = 0
outcome_number (Err e) = number_of e

-- the value, or 0 on refusal
abbrev pub outcome_value : Result ℕ Refusal → ℕ
outcome_value (Ok v) = v
outcome_value (Err e) = 0

-- the one line of a refused opening
abbrev pub open_lines : Refusal → List Line
open_lines e = record { place = 1; call = Open; outcome = Err e } ∷ []

-- a line without its end
abbrev pub line_text : Line → List ℕ
line_text l =
    decimal l.place
    ++ (codes " " ++ (word_text l.call ++ (codes " " ++ (decimal (outcome_number l.outcome) ++ (codes " " ++ decimal (outcome_value l.outcome))))))

-- lines, each with its end
unfoldable pub lines_text : List Line → List ℕ
lines_text [] = []
lines_text (l ∷ ls) = (line_text l ++ codes "\n") ++ lines_text ls

-- the names, then the lines
abbrev pub report_text : List Line → List ℕ
report_text ls = codes "line call outcome value\n" ++ lines_text ls
