-- Noting a number that is past, and one that is ahead.
use Rattle.std.proofs.Common.{◌≡◌, ℕ, ◌+◌, ◌<◌, ◌≤◌, ltb, leb, Err, Result, ap, ◌∙◌, arith}
use Rattle.std.proofs.lemmas.Bool.{lt-ltb, le-ltb, lt-leb}
use Rattle.refusal.specs.Questions.{whole}
use Rattle.refusal.specs.declared.Refused.{Refused}
use Rattle.refusal.specs.declared.Refusal.TheVariants.{StationHouse, NoSuchHouse, NumberPast, NumberAhead}
use Rattle.sha256.specs.declared.value.Digest.{Digest}
use Rattle.witness.specs.Rules.{Ruling}
use Rattle.seal.specs.Meanings.{Meaning, sign_answer}
use Rattle.exchange.specs.declared.station.Station.{Station}
use Rattle.exchange.specs.Stations.{row_of}
use Rattle.exchange.specs.Machine.{window, go_on, placed, note_questions, note_answer}
use Rattle.exchange.proofs.Questions.{yes_to, no_to}

module _ {S : Type 0} (r : Ruling) (k : Meaning S) (s : S) (x : Station) (j n : ℕ) (d : Digest) (room : ℕ) (own : x.house < r.houses) (member : j < r.houses) where
  -- what a note's own questions refuse, the note refuses
  refused : (e : Refused) → note_questions r x j n d ≡ Err e → note_answer r k s x j n d room ≡ Err e
  refused e first = ap (λ (y : Result (Unit {0}) Refused). go_on y (λ _. placed (sign_answer k s x.house room))) first

  pub past : n ≤ (row_of x j).last → note_answer r k s x j n d room ≡ Err (whole NumberPast)
  past h =
      refused (whole NumberPast)
      (yes_to (ltb x.house r.houses) (whole StationHouse) _ (lt-ltb x.house r.houses own)
      ∙ yes_to (ltb j r.houses) (whole NoSuchHouse) _ (lt-ltb j r.houses member)
      ∙ no_to (ltb (row_of x j).last n) (whole NumberPast) _ (le-ltb (row_of x j).last n h))

  pub ahead : (row_of x j).last + window < n → note_answer r k s x j n d room ≡ Err (whole NumberAhead)
  ahead h =
      refused (whole NumberAhead)
      (yes_to (ltb x.house r.houses) (whole StationHouse) _ (lt-ltb x.house r.houses own)
      ∙ yes_to (ltb j r.houses) (whole NoSuchHouse) _ (lt-ltb j r.houses member)
      ∙ yes_to (ltb (row_of x j).last n) (whole NumberPast) _ (lt-ltb (row_of x j).last n (omega arith))
      ∙ no_to (leb n ((row_of x j).last + window)) (whole NumberAhead) _ (lt-leb n ((row_of x j).last + window) h))
