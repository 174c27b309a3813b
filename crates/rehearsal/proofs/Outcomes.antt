-- What the exchange's answers come to in a rehearsal.
use Rattle.std.proofs.Common.{◌≡◌, ℕ, ◌<◌, ◌≤◌, min, ◌⊎◌, List, take, set, replicate, Ok, Err, Result, sym, ap, ◌∙◌, inl, inr, arith, le-ltb, ltb, [], ◌∷◌, subst, ltb-true}
use Rattle.std.proofs.lemmas.Bool.Decides.{nat_tests, leb_tells}
use Rattle.refusal.specs.Questions.{after, whole}
use Rattle.refusal.specs.declared.Refusal.{Refusal}
use Rattle.refusal.specs.declared.Refusal.TheVariants.{StationHouse, NoSuchHouse}
use Rattle.refusal.specs.declared.Refused.{Refused}
use Rattle.sha256.specs.declared.value.Digest.{Digest}
use Rattle.sha256.specs.Text.{digest_of}
use Rattle.witness.specs.Opening.{opened}
use Rattle.witness.specs.Rules.{Ruling}
use Rattle.seal.specs.declared.register.Register.{Register}
use Rattle.seal.specs.Meanings.{Signing}
use Rattle.seal.specs.Registers.{register}
use Rattle.exchange.specs.declared.notice.Notice.{Notice}
use Rattle.exchange.specs.declared.station.Station.{Station}
use Rattle.exchange.specs.declared.filing.Filing.{Filing}
use Rattle.exchange.specs.Machine.{go_on, note_answer, file_answer, statement_of, note_questions, file_station}
use Rattle.exchange.proofs.Questions.{asked, went_on}
use Rattle.rehearsal.specs.Events.{Meant}
use Rattle.rehearsal.specs.Bundles.{bundle_of}
use Rattle.rehearsal.specs.Calls.{station_place, station_at, told, file_outcome, NoteLeft, file_stations}

-- the notice that an event stands for, its house in a byte
abbrev pub noticed : Meant → Notice
noticed e = record { house = min e.house 255; number = e.number; digest = digest_of e.text }

-- a number above 255 is no house, and no more is 255
pub capped_cases : (h : ℕ) → (min h 255 ≡ h) ⊎ ((min h 255 ≡ 255) × (255 < h))
capped_cases h = elim (leb_tells h 255) [ inl t ↦ inl (omega (arith, t.1)) | inr t ↦ inr (omega (arith, t.1), t.1) ]

pub note_same : (r : Ruling) (q : Register) (s : Station) (h k : ℕ) (d : Digest) → r.houses ≤ 16 → note_answer r register q s (min h 255) k d 2 ≡ note_answer r register q s h k d 2
note_same r q s h k d few =
    elim (capped_cases h) [
      | inl e ↦ ap (λ (j : ℕ). note_answer r register q s j k d 2) e
      | inr e ↦ rw (e.0, le-ltb 255 r.houses (omega arith), le-ltb h r.houses (omega (arith, e.1)))
    ]

-- a taken note is for a house below n
note_inside : (r : Ruling) (q : Register) (s : Station) (j k : ℕ) (d : Digest) (t : Unit {0}) → note_answer r register q s j k d 2 ≡ Ok t → j < r.houses
note_inside r q s j k d t taken =
    let first = went_on (note_questions r s j k d) _ t taken in
    let own = asked (ltb s.house r.houses) (whole StationHouse) _ first.0 first.1.0 in
    let its = asked (ltb j r.houses) (whole NoSuchHouse) _ first.0 own.1 in
    ltb-true j r.houses its.0

-- a taken note signs a statement of the event's own house
note_names : (r : Ruling) (q : Register) (s : Station) (h k : ℕ) (d : Digest) (a : Result (Unit {0}) Refused) (own : ℕ) (m m' : List ℕ) (q' : Register) → r.houses ≤ 16
    → a ≡ note_answer r register q s (min h 255) k d 2 → Signing register a own (statement_of r (min h 255) k d) q m q' m'
    → Signing register a own (statement_of r h k d) q m q' m'
note_names r q s h k d (Ok t) own m m' q' few is signing =
    elim (capped_cases h) [
      | inl e ↦ subst (λ (j : ℕ). register.signs q own (statement_of r j k d) m q' m') e signing
      | inr e ↦ let below = note_inside r q s (min h 255) k d t (sym is) in absurd (omega (arith, below, e.0))
    ]
note_names r q s h k d (Err x) own m m' q' few is signing = signing

-- the register after a note
pub note_signed : (r : Ruling) (q : Register) (ss : List Station) (e : Meant) (at : ℕ) (w : Notice) (a : Result (Unit {0}) Refused) (q' : Register) (m : List ℕ) → r.houses ≤ 16
    → Ok at ≡ station_place r.houses e.at → w ≡ noticed e → a ≡ note_answer r register q (station_at ss at) w.house w.number w.digest 2
    → Signing register a (station_at ss at).house (statement_of r w.house w.number w.digest) q (0 ∷ 0 ∷ []) q' m → NoteLeft r q ss e (station_place r.houses e.at) q'
note_signed r q ss e at w a q' m few here names is signing =
    let s = station_at ss at in
    let own = digest_of e.text in
    let signed : Result (Unit {0}) Refused → Notice → Type 0 = λ a x. Signing register a s.house (statement_of r x.house x.number x.digest) q (0 ∷ 0 ∷ []) q' m in
    let answer : a ≡ note_answer r register q s (min e.house 255) e.number own 2 = is ∙ ap (λ (x : Notice). note_answer r register q s x.house x.number x.digest 2) names in
    let signs = note_names r q s e.house e.number own a s.house (0 ∷ 0 ∷ []) m q' few answer (subst (signed a) names signing) in
    subst (λ (p : Result ℕ Refusal). NoteLeft r q ss e p q') here
    (m, subst (λ (x : Result (Unit {0}) Refused). Signing register x s.house (statement_of r e.house e.number own) q (0 ∷ 0 ∷ []) q' m) (answer ∙ note_same r q s e.house e.number own few) signs)

pub opened_same : (n t : ℕ) → opened (min n 255) (min t 255) ≡ opened n t
opened_same n t =
    elim (capped_cases n) [
      | inl e ↦ elim (capped_cases t) [
        | inl f ↦ rw (e, f)
        | inr f ↦ rw (e, f.0) (let few : n ≤ n = omega arith in let more = f.1 in grind (arith, nat_tests))
      ]
      | inr e ↦ rw e.0 (let more = e.1 in grind (arith, nat_tests))
    ]

pub bundle_same : (r : Ruling) (q : Register) (h k : ℕ) (d : Digest) (m : List ℕ) → r.houses ≤ 16 → bundle_of r q (min h 255) k d m ≡ bundle_of r q h k d m
bundle_same r q h k d m few =
    elim (capped_cases h) [
      | inl e ↦ ap (λ (j : ℕ). bundle_of r q j k d m) e
      | inr e ↦ rw (e.0, le-ltb 255 r.houses (omega arith), le-ltb h r.houses (omega (arith, e.1)))
    ]

-- the bundle as the event names it
named : (r : Ruling) (q : Register) (e : Meant) (w : Notice) (m : List ℕ) → r.houses ≤ 16 → w ≡ noticed e → bundle_of r q w.house w.number w.digest m ≡ bundle_of r q e.house e.number (digest_of e.text) m
named r q e w m few names = ap (λ (x : Notice). bundle_of r q x.house x.number x.digest m) names ∙ bundle_same r q e.house e.number (digest_of e.text) m few

abbrev filed : Ruling → Register → List Station → Meant → ℕ → (ℕ × List ℕ) → Result ℕ Refusal
filed r q ss e at y = told (λ f. f.signers) (file_answer r register q (station_at ss at) (take y.0 y.1) e.text)

abbrev bundled : Ruling → Register → List Station → Meant → ℕ → Result ℕ Refusal
bundled r q ss e at = go_on (bundle_of r q e.house e.number (digest_of e.text) (replicate 85 0)) (filed r q ss e at)

pub file_unbundled : (r : Ruling) (q : Register) (ss : List Station) (e : Meant) (at : ℕ) (w : Notice) (x : Refusal) → r.houses ≤ 16 → Ok at ≡ station_place r.houses e.at → w ≡ noticed e → bundle_of r q w.house w.number w.digest (replicate 85 0) ≡ Err x → Err x ≡ file_outcome r q ss e
file_unbundled r q ss e at w x few here names is =
    ap (λ (z : Result (ℕ × List ℕ) Refusal). go_on z (filed r q ss e at)) (sym is ∙ named r q e w (replicate 85 0) few names)
    ∙ ap (λ (p : Result ℕ Refusal). go_on p (bundled r q ss e)) here

pub file_told : (r : Ruling) (q : Register) (ss : List Station) (e : Meant) (at : ℕ) (w : Notice) (n : ℕ) (m b : List ℕ) (a : Result Filing Refused) → r.houses ≤ 16 → Ok at ≡ station_place r.houses e.at → w ≡ noticed e → bundle_of r q w.house w.number w.digest (replicate 85 0) ≡ Ok (n, m) → b ≡ take n m → a ≡ file_answer r register q (station_at ss at) b e.text → told (λ f. f.signers) a ≡ file_outcome r q ss e
file_told r q ss e at w n m b a few here names is part files =
    ap (told (λ f. f.signers)) (files ∙ ap (λ (z : List ℕ). file_answer r register q (station_at ss at) z e.text) part)
    ∙ (ap (λ (z : Result (ℕ × List ℕ) Refusal). go_on z (filed r q ss e at)) (sym is ∙ named r q e w (replicate 85 0) few names)
    ∙ ap (λ (p : Result ℕ Refusal). go_on p (bundled r q ss e)) here)

abbrev stood : Ruling → Register → List Station → Meant → ℕ → (ℕ × List ℕ) → List Station
stood r q ss e at y = set ss at (file_station r register q (station_at ss at) (take y.0 y.1) e.text)

-- the stations after a file
file_stood : (r : Ruling) (q : Register) (ss : List Station) (e : Meant) (at : ℕ) (w : Notice) (n : ℕ) (m b : List ℕ) (s : Station) → r.houses ≤ 16 → Ok at ≡ station_place r.houses e.at → w ≡ noticed e → bundle_of r q w.house w.number w.digest (replicate 85 0) ≡ Ok (n, m) → b ≡ take n m → s ≡ file_station r register q (station_at ss at) b e.text → set ss at s ≡ file_stations r q ss e
file_stood r q ss e at w n m b s few here names is part files =
    ap (λ (x : Station). set ss at x) (files ∙ ap (λ (z : List ℕ). file_station r register q (station_at ss at) z e.text) part)
    ∙ (ap (λ (z : Result (ℕ × List ℕ) Refusal). after z (stood r q ss e at) ss) (sym is ∙ named r q e w (replicate 85 0) few names)
    ∙ ap (λ (p : Result ℕ Refusal). after p (λ at. after (bundle_of r q e.house e.number (digest_of e.text) (replicate 85 0)) (stood r q ss e at) ss) ss) here)

pub file_unstood : (r : Ruling) (q : Register) (ss : List Station) (e : Meant) (at : ℕ) (w : Notice) (x : Refusal) → r.houses ≤ 16 → Ok at ≡ station_place r.houses e.at → w ≡ noticed e → bundle_of r q w.house w.number w.digest (replicate 85 0) ≡ Err x → ss ≡ file_stations r q ss e
file_unstood r q ss e at w x few here names is =
    ap (λ (z : Result (ℕ × List ℕ) Refusal). after z (stood r q ss e at) ss) (sym is ∙ named r q e w (replicate 85 0) few names)
    ∙ ap (λ (p : Result ℕ Refusal). after p (λ at. after (bundle_of r q e.house e.number (digest_of e.text) (replicate 85 0)) (stood r q ss e at) ss) ss) here

-- what a file of the exchange comes to: its outcome and the stations after it
pub record Filed (r : Ruling) (q : Register) (ss : List Station) (e : Meant) (at : ℕ) (a : Result Filing Refused) (s : Station) : Type 0 where
  pub answer : told (λ f. f.signers) a ≡ file_outcome r q ss e
  pub stations : set ss at s ≡ file_stations r q ss e

pub file_gave : (r : Ruling) (q : Register) (ss : List Station) (e : Meant) (at : ℕ) (w : Notice) (n : ℕ) (m b : List ℕ) (a : Result Filing Refused) (s : Station)
    → r.houses ≤ 16 → Ok at ≡ station_place r.houses e.at → w ≡ noticed e
    → bundle_of r q w.house w.number w.digest (replicate 85 0) ≡ Ok (n, m) → b ≡ take n m
    → a ≡ file_answer r register q (station_at ss at) b e.text → s ≡ file_station r register q (station_at ss at) b e.text → Filed r q ss e at a s
file_gave r q ss e at w n m b a s few here names is part answers stands =
    record {
      answer = file_told r q ss e at w n m b a few here names is part answers;
      stations = file_stood r q ss e at w n m b s few here names is part stands;
    }
