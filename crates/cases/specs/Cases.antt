-- Worked cases of the rules and of the calls, read off the definitions that the code meets.
use Rattle.std.specs.Prelude.{◌≡◌, ℕ, ◌+◌, ◌<◌, ◌≤◌, List, length, Err}
use Rattle.refusal.specs.Questions.{whole}
use Rattle.refusal.specs.Numbers.{number_of}
use Rattle.refusal.specs.declared.Refusal.TheVariants.{NumberPast, NumberAhead, NotAccepted}
use Rattle.sha256.specs.declared.value.Digest.{Digest}
use Rattle.sha256.specs.Text.{digest_of}
use Rattle.edition.specs.Pages.{most_bytes}
use Rattle.witness.specs.Cases.{RuleCases}
use Rattle.witness.specs.Rules.{Ruling, Lawful}
use Rattle.seal.specs.Meanings.{Meaning}
use Rattle.exchange.specs.declared.station.Station.{Station}
use Rattle.exchange.specs.Stations.{row_of}
use Rattle.exchange.specs.Layout.{head_bytes}
use Rattle.exchange.specs.Machine.{statement_of, note_answer, file_answer}

-- the sound bundle of no receipts, for house j, number n and the digest of pages p: its head alone
abbrev pub bare_bundle : Ruling → ℕ → ℕ → List ℕ → List ℕ
bare_bundle r j n p = head_bytes (statement_of r j n (digest_of p)) 0

-- over any seal kind
pub record Cases {S : Type 0} (k : Meaning S) : Type 0 where
  -- what the rules need, open and name
  pub of_rules : RuleCases
  -- with last number 2 in the row of house j, to note 2 is refused as past
  pub two_after_two : (r : Ruling) (s : S) (x : Station) (j : ℕ) (d : Digest) (room : ℕ) → x.house < r.houses → j < r.houses
      → (row_of x j).last ≡ 2 → note_answer r k s x j 2 d room ≡ Err (whole NumberPast)
  pub past_is_refusal_nine : number_of NumberPast ≡ 9
  -- and to note 7 as ahead
  pub seven_after_two : (r : Ruling) (s : S) (x : Station) (j : ℕ) (d : Digest) (room : ℕ) → x.house < r.houses → j < r.houses
      → (row_of x j).last ≡ 2 → note_answer r k s x j 7 d room ≡ Err (whole NumberAhead)
  pub ahead_is_refusal_ten : number_of NumberAhead ≡ 10
  -- the next number's sound bundle of no receipts, with its pages, is not accepted
  pub no_receipts : (r : Ruling) → Lawful r → (s : S) (x : Station) (j : ℕ) (p : List ℕ) → x.house < r.houses → j < r.houses
      → length p ≤ most_bytes → file_answer r k s x (bare_bundle r j ((row_of x j).last + 1) p) p ≡ Err (whole NotAccepted)
  pub not_accepted_is_refusal_nineteen : number_of NotAccepted ≡ 19
