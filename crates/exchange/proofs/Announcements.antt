-- What an honest house has signed of an honest house was announced, earlier, with pages of that digest.
use Rattle.std.proofs.Common.{◌≡◌, ℕ, ◌+◌, ltb, leb, List, [], ◌∷◌, length, Ok, Err, sym, refl, ap, ◌∙◌, subst, inl, inr}
use Rattle.refusal.specs.Questions.{whole}
use Rattle.refusal.specs.declared.Refusal.TheVariants.{StationHouse, NumbersUsedUp, WindowFull, PagesTooLong}
use Rattle.sha256.specs.declared.value.Digest.{Digest}
use Rattle.sha256.specs.Text.{digest_of}
use Rattle.edition.specs.Numbers.{last_number}
use Rattle.edition.specs.Pages.{most_bytes}
use Rattle.witness.specs.Rules.{Ruling}
use Rattle.seal.specs.declared.statement.Statement.{Statement}
use Rattle.seal.specs.Meanings.{Meaning}
use Rattle.exchange.specs.declared.station.Station.{Station}
use Rattle.exchange.specs.Stations.{row_of}
use Rattle.exchange.specs.Machine.{window, statement_of, announce_answer}
use Rattle.exchange.specs.Runs.{Event, announced, noted, started, added, closed, issued, filed, signed, World, Step, Run, Some, Each}
use Rattle.exchange.specs.Law.{Announces, Answers, Signs, Honest, Fair}
use Rattle.exchange.proofs.Questions.{asked}
use Rattle.exchange.proofs.Stations.{Signed}

-- some pages of digest d are such
abbrev pub PagesOf : Digest → (List ℕ → Type 0) → Type 0
PagesOf d P = (q : List ℕ) × ((digest_of q ≡ d) × P q)

-- a taken announce answers the digest of its pages
announce_digest : (r : Ruling) (s : Station) (p : List ℕ) (y : ℕ × Digest) → announce_answer r s p ≡ Ok y → digest_of p ≡ y.1
announce_digest r s p y taken =
    let q1 = asked (ltb s.house r.houses) (whole StationHouse) _ y taken in
    let q2 = asked (ltb s.announced last_number) (whole NumbersUsedUp) _ y q1.1 in
    let q3 = asked (ltb s.announced ((row_of s s.house).last + window)) (whole WindowFull) _ y q2.1 in
    let q4 = asked (leb (length p) most_bytes) (whole PagesTooLong) _ y q3.1 in
    let e = q4.1 in
    cc

module _ (r : Ruling) (first : ℕ → Station) (j n : ℕ) (d : Digest) where
  module _ (honest z : ℕ) (z-honest : Honest r first honest z) (j-honest : Honest r first honest j) where
    fair_now : (c : Event) (h : List Event) → Fair r first honest h c → Signs r first z (statement_of r j n d) c → Some (Answers r first j n d) h
    fair_now (announced a q y) h fair signs = absurd signs
    fair_now (noted a j' n' d' m y m') h fair signs =
        subst (λ (x : Statement). Some (Answers r first x.house x.number x.digest) h) signs.1
        (fair (subst (Honest r first honest) (sym signs.0) z-honest)
        (subst (Honest r first honest) (ap (λ (x : Statement). x.house) (sym signs.1)) j-honest))
    fair_now (started g j' n' d' y) h fair signs = absurd signs
    fair_now (added g i s m y m') h fair signs = absurd signs
    fair_now (closed g y) h fair signs = absurd signs
    fair_now (issued g m y m') h fair signs = absurd signs
    fair_now (filed a b q y) h fair signs = absurd signs
    fair_now (signed i x m y m') h fair signs = absurd signs

    -- what honest house z has signed of honest house j, an announce has answered
    pub signed_answered : (h : List Event) → Each (Fair r first honest) h → Signed r first z j n d h → Some (Answers r first j n d) h
    signed_answered [] fair none = absurd none
    signed_answered (c ∷ h) fair (inl now) = inr (fair_now c h fair.0 now)
    signed_answered (c ∷ h) fair (inr before) = inr (signed_answered h fair.1 before)

  module _ {S : Type 0} (k : Meaning S) where
    answered_now : (c : Event) (w w' : World S) → Step r k w c w' → Answers r first j n d c → PagesOf d (λ q. Announces r first j n q c)
    answered_now (announced a q (Ok y)) w w' step answers =
        (q, (announce_digest r (w.stations a) q y (sym step.0) ∙ answers.2, (answers.0, answers.1, refl)))
    answered_now (announced a q (Err e)) w w' step answers = absurd answers
    answered_now (noted a j' n' d' m y m') w w' step answers = absurd answers
    answered_now (started g j' n' d' y) w w' step answers = absurd answers
    answered_now (added g i s m y m') w w' step answers = absurd answers
    answered_now (closed g y) w w' step answers = absurd answers
    answered_now (issued g m y m') w w' step answers = absurd answers
    answered_now (filed a b q y) w w' step answers = absurd answers
    answered_now (signed i x m y m') w w' step answers = absurd answers

    -- what an announce of house j has answered, it has announced with pages of that digest
    pub answered_announced : (e : S) (h : List Event) (w : World S) → Run r k e first h w → Some (Answers r first j n d) h
        → PagesOf d (λ q. Some (Announces r first j n q) h)
    answered_announced e [] w run none = absurd none
    answered_announced e (c ∷ h) w run (inl now) =
        let found = answered_now c run.0 w run.1.1 now in
        (found.0, (found.1.0, inl found.1.1))
    answered_announced e (c ∷ h) w run (inr before) =
        let found = answered_announced e h run.0 run.1.0 before in
        (found.0, (found.1.0, inr found.1.1))
