-- The law, from its two halves.
use Rattle.std.proofs.Common.{◌≡◌, ℕ, List, length, refl, ap, ◌∙◌}
use Rattle.witness.specs.Rules.{Ruling, Lawful}
use Rattle.seal.specs.Meanings.{Meaning, Meant}
use Rattle.exchange.specs.declared.station.Station.{Station}
use Rattle.exchange.specs.Stations.{row_of}
use Rattle.exchange.specs.Runs.{Event, World, Run}
use Rattle.exchange.specs.Law.{numbers, Honest, Conditions, InOrder, OneDigest, Law}
use Rattle.exchange.proofs.Stations.{station_house, last_filed}
use Rattle.exchange.proofs.Agreement.{filed_digest, agreement, in_order, order, honesty}
use Rattle.exchange.proofs.Progress.{closes, issued_files, filed_files, reads_back}

-- the last number in an honest house's station is how many it has filed
honest_last : {S : Type 0} (r : Ruling) (law : Lawful r) (k : Meaning S) (honest : ℕ) (first : ℕ → Station) (e : S) (h : List Event) (w : World S)
    → Run r k e first h w → Conditions r first honest h
    → (a : ℕ) → Honest r first honest (first a).house → (j : ℕ) → (row_of (w.stations a) j).last ≡ length (numbers r first (first a).house j h)
honest_last r law k honest first e h w run conditions a is_honest j =
    let i = (first a).house in
    let one = conditions.one_station i is_honest in
    let only = one.1.1 in
    let same : a ≡ one.0 = only a refl in
    ap (λ (b : ℕ). (row_of (w.stations b) j).last) same ∙ (last_filed r law k e first i one.0 one.1.0 only h w run j).0

pub the_law : {S : Type 0} {r : Ruling} → Lawful r → {k : Meaning S} → Meant k → Law r k
the_law {S} {r} law {k} meant honest first e h w run conditions unforged =
    let house = station_house r k e first h w run in
    let last = honest_last r law k honest first e h w run conditions in
    record {
      agreement = λ i i' j n p q _ _. agreement r law k honest first e h w run conditions unforged i i' j n p q;
      order = order r law k honest first e h w run conditions.one_station;
      honesty = λ i j n p _. honesty r law k honest first e h w run conditions unforged i j n p;
      closes = closes r k meant first e h w run law honest conditions.trusted;
      issued_files = issued_files r k meant first e h w run honest house last;
      filed_files = filed_files r k meant first e h w run honest house last;
      reads_back = reads_back r k meant first e h w run;
    }

pub filings_alike : {S : Type 0} {r : Ruling} → Lawful r → (k : Meaning S) → OneDigest r k
filings_alike {S} {r} law k honest first e h w run trusted one_station unforged =
    filed_digest r law k honest first e h w run trusted one_station unforged

pub filings_ordered : {S : Type 0} {r : Ruling} → Lawful r → (k : Meaning S) → InOrder r k
filings_ordered {S} {r} law k first e h w run i a fresh only j = in_order r law k 0 first e h w run i a fresh only j
