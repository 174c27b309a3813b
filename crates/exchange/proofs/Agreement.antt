-- Agreement, order and honesty, over all runs.
use Rattle.std.proofs.Common.{◌≡◌, ℕ, List, [], ◌∷◌, length, Ok, Err, ap, ◌∙◌, subst, inl, inr}
use Rattle.sha256.specs.declared.value.Digest.{Digest}
use Rattle.sha256.specs.Text.{digest_of}
use Rattle.witness.specs.Consequences.{Trusted}
use Rattle.witness.specs.Rules.{Ruling, Lawful}
use Rattle.witness.proofs.Consequences.{common}
use Rattle.seal.specs.Meanings.{Meaning}
use Rattle.exchange.specs.declared.station.Station.{Station}
use Rattle.exchange.specs.Stations.{fresh_station}
use Rattle.exchange.specs.Runs.{Event, announced, noted, started, added, closed, issued, filed, signed, World, Run, Some, Each}
use Rattle.exchange.specs.Law.{countdown, Hands, Announces, Files, numbers, Honest, OneStation, Conditions, Unforged}
use Rattle.exchange.proofs.Stations.{Signed, sound, last_filed}
use Rattle.exchange.proofs.Backing.{Backed, backed_now, backed}
use Rattle.exchange.proofs.Announcements.{signed_answered, answered_announced}

some_map : (P Q : Event → Type 0) → ((c : Event) → P c → Q c) → (h : List Event) → Some P h → Some Q h
some_map P Q f [] none = none
some_map P Q f (c ∷ h) (inl now) = inl (f c now)
some_map P Q f (c ∷ h) (inr before) = inr (some_map P Q f h before)

module _ (r : Ruling) (first : ℕ → Station) where
  -- announced pages are handed in
  announces_hands : (j n : ℕ) (p : List ℕ) (c : Event) → Announces r first j n p c → Hands p c
  announces_hands j n p (announced a q (Ok y)) announces = announces.2
  announces_hands j n p (announced a q (Err e)) announces = absurd announces
  announces_hands j n p (noted a j' n' d m y m') announces = announces
  announces_hands j n p (started g j' n' d y) announces = announces
  announces_hands j n p (added g i z m y m') announces = announces
  announces_hands j n p (closed g y) announces = announces
  announces_hands j n p (issued g m y m') announces = announces
  announces_hands j n p (filed a b q y) announces = absurd announces
  announces_hands j n p (signed i x m y m') announces = announces

  -- filed pages are handed in
  files_hands : (i j n : ℕ) (p : List ℕ) (c : Event) → Files r first i j n p c → Hands p c
  files_hands i j n p (announced a q y) files = absurd files.1
  files_hands i j n p (noted a j' n' d m y m') files = files.1
  files_hands i j n p (started g j' n' d y) files = files.1
  files_hands i j n p (added g i' z m y m') files = files.1
  files_hands i j n p (closed g y) files = files.1
  files_hands i j n p (issued g m y m') files = files.1
  files_hands i j n p (filed a b q (Ok f)) files = files.1.4
  files_hands i j n p (filed a b q (Err e)) files = absurd files.1
  files_hands i j n p (signed i' x m y m') files = files.1

module _ {S : Type 0} (r : Ruling) (law : Lawful r) (k : Meaning S) (honest : ℕ) (first : ℕ → Station) (e : S) where
  -- what is backed for one number has an honest signer in common
  common_signer : (h : List Event) → Trusted r honest → (j n : ℕ) (d d' : Digest) → Backed r first honest j n d h → Backed r first honest j n d' h
      → (z : ℕ) × (Honest r first honest z × (Signed r first z j n d h × Signed r first z j n d' h))
  common_signer h trusted j n d d' x y =
      let z = common law j n honest trusted x.signers y.signers x.accepted y.accepted in
      let z-honest : Honest r first honest z.house = (z.is_house, z.is_honest) in
      (z.house, (z-honest, (x.signed z.house z-honest z.in_first, y.signed z.house z-honest z.in_second)))

  -- and so one digest
  one_digest : (h : List Event) (w : World S) → Run r k e first h w → Trusted r honest → OneStation r first honest
      → (j n : ℕ) (d d' : Digest) → Backed r first honest j n d h → Backed r first honest j n d' h → d ≡ d'
  one_digest h w run trusted one_station j n d d' x y =
      let z = common_signer h trusted j n d d' x y in
      let station = one_station z.0 z.1.0 in
      (sound r law k e first z.0 station.0 station.1.0 station.1.1 h w run).once j n d d' z.1.1.0 z.1.1.1

  pub filed_digest : (h : List Event) (w : World S) (run : Run r k e first h w) → Trusted r honest → OneStation r first honest
      → Unforged r first honest k e h w run
      → (i i' j n : ℕ) (p q : List ℕ) → Some (Files r first i j n p) h → Some (Files r first i' j n q) h → digest_of p ≡ digest_of q
  filed_digest h w run trusted one_station unforged i i' j n p q x y =
      one_digest h w run trusted one_station j n (digest_of p) (digest_of q)
      (backed r first honest k i j n p e h w run unforged x) (backed r first honest k i' j n q e h w run unforged y)

  pub agreement : (h : List Event) (w : World S) (run : Run r k e first h w) → Conditions r first honest h → Unforged r first honest k e h w run
      → (i i' j n : ℕ) (p q : List ℕ) → Some (Files r first i j n p) h → Some (Files r first i' j n q) h → p ≡ q
  agreement h w run conditions unforged i i' j n p q x y =
      conditions.apart p q
      (some_map (Files r first i j n p) (Hands p) (files_hands r first i j n p) h x)
      (some_map (Files r first i' j n q) (Hands q) (files_hands r first i' j n q) h y)
      (filed_digest h w run conditions.trusted conditions.one_station unforged i i' j n p q x y)

  pub in_order : (h : List Event) (w : World S) → Run r k e first h w → (i a : ℕ) → first a ≡ fresh_station i → ((b : ℕ) → (first b).house ≡ i → b ≡ a)
      → (j : ℕ) → numbers r first i j h ≡ countdown (length (numbers r first i j h))
  in_order h w run i a fresh only j =
      let filed = last_filed r law k e first i a fresh only h w run j in
      filed.1 ∙ ap countdown filed.0

  pub order : (h : List Event) (w : World S) → Run r k e first h w → OneStation r first honest
      → (i j : ℕ) → Honest r first honest i → numbers r first i j h ≡ countdown (length (numbers r first i j h))
  order h w run one_station i j i-honest = let station = one_station i i-honest in in_order h w run i station.0 station.1.0 station.1.1 j

  -- the conditions held before the last call
  before_last : (c : Event) (h : List Event) → Conditions r first honest (c ∷ h) → Conditions r first honest h
  before_last c h conditions =
      record {
        trusted = conditions.trusted;
        one_station = conditions.one_station;
        apart = λ p q x y. conditions.apart p q (inr x) (inr y);
        fair = conditions.fair.1;
      }

  -- backed pages of an honest house, handed in by a later call, were announced
  backed_announced : (c : Event) (h : List Event) (w : World S) → Run r k e first h w → Conditions r first honest (c ∷ h)
      → (j n : ℕ) (p : List ℕ) → Honest r first honest j → Hands p c → Backed r first honest j n (digest_of p) h → Some (Announces r first j n p) h
  backed_announced c h w run conditions j n p j-honest hands x =
      let d = digest_of p in
      let z = common_signer h conditions.trusted j n d d x x in
      let answered = signed_answered r first j n d honest z.0 z.1.0 j-honest h conditions.fair.1 z.1.1.0 in
      let found = answered_announced r first j n d k e h w run answered in
      let q = found.0 in
      let handed = some_map (Announces r first j n q) (Hands q) (announces_hands r first j n q) h found.1.1 in
      subst (λ (x : List ℕ). Some (Announces r first j n x) h) (conditions.apart q p (inr handed) (inl hands) found.1.0) found.1.1

  pub honesty : (h : List Event) (w : World S) (run : Run r k e first h w) → Conditions r first honest h → Unforged r first honest k e h w run
      → (i j n : ℕ) (p : List ℕ) → Honest r first honest j → Each (λ before c. Files r first i j n p c → Some (Announces r first j n p) before) h
  honesty [] w run conditions unforged i j n p j-honest = tt
  honesty (c ∷ h) w run conditions unforged i j n p j-honest = (
    λ files. backed_announced c h run.0 run.1.0 conditions j n p j-honest (files_hands r first i j n p c files)
        (backed_now r first honest k i j n p c h run.0 w run.1.1 unforged.0 files),
    honesty h run.0 run.1.0 (before_last c h conditions) unforged.1 i j n p j-honest,
  )
