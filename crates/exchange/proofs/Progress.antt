-- Progress along every run: gatherings close, their bundles read back, and bundles that fit are filed.
use Rattle.std.proofs.Common.{◌≡◌, ℕ, ◌+◌, ◌<◌, ◌≤◌, true, List, [], ◌∷◌, length, Ok, Err, Result, sym, ap, ◌∙◌, subst, subst₂, ⊎_elim, arith}
use lib.Bits.{bit_and}
use lib.Count.{ones}
use Rattle.std.proofs.lemmas.Bool.{cases_lt, eq-eqb, le-leb, lt-ltb}
use Rattle.bits.specs.Bits.{has}
use Rattle.bits.proofs.Bits.{has_le}
use Rattle.refusal.specs.Questions.{whole}
use Rattle.refusal.specs.declared.Refused.{Refused}
use Rattle.refusal.specs.declared.Refusal.TheVariants.{NotAccepted}
use Rattle.sha256.specs.declared.value.Digest.{Digest}
use Rattle.sha256.specs.Text.{digest_of}
use Rattle.edition.specs.Pages.{most_bytes}
use Rattle.witness.specs.Rules.{Ruling, Lawful}
use Rattle.witness.specs.Sets.{Within}
use Rattle.witness.specs.Consequences.{Trusted}
use Rattle.witness.proofs.Consequences.{all_honest}
use Rattle.witness.specs.SetsLemmas.{has_within, has_each}
use Rattle.seal.specs.Meanings.{Meaning, Meant}
use Rattle.exchange.specs.declared.station.Station.{Station}
use Rattle.exchange.specs.declared.gathering.Gathering.{Gathering}
use Rattle.exchange.specs.declared.gathering.Closed.{Closed}
use Rattle.exchange.specs.declared.filing.Filing.{Filing}
use Rattle.exchange.specs.Stations.{row_of}
use Rattle.exchange.specs.Layout.{bundle_house, bundle_number, bundle_digest}
use Rattle.exchange.specs.Machine.{gathering_statement}
use Rattle.exchange.specs.Runs.{Event, announced, noted, started, added, closed, issued, filed, signed, Held, none, open_with, closed_with, gone, World, Step, Run, Some}
use Rattle.exchange.specs.Law.{Taken, Starts, Adds, Issues, Fed, FilesFrom, Honest, brought, numbers, receipts_in}
use Rattle.exchange.proofs.Questions.{yes_to}
use Rattle.exchange.proofs.Files.{Fit, Due, file_taken, fit_files, filed_as}
use Rattle.exchange.proofs.Gatherings.{Going, Done, State, stands}
use Rattle.exchange.proofs.Growing.{step_grows}
use Rattle.exchange.proofs.Heads.{housed, numbered, digested, same_digests}
use Rattle.exchange.proofs.Issued.{made_of, made_reads, made_fits}
use Rattle.exchange.proofs.Memory.{flat}
use Rattle.exchange.proofs.Walking.{fit_grows}

-- a set that holds every member of another holds it
all_held : (a b : ℕ) → ((i : ℕ) → has a i ≡ 1 → has b i ≡ 1) → Within a b
all_held a b h =
    has_within a b (λ i. ⊎_elim (λ some. let one : has a i ≡ 1 = omega (arith, has_le a i) in omega (arith, h i one)) (λ no_one. omega arith) (cases_lt 0 (has a i)))

module _ {S : Type 0} (r : Ruling) (k : Meaning S) where
  -- a gathering of which a bundle was issued is gone
  issued_done : (g : ℕ) (h : List Event) (s : S) (x : Held) (b : List ℕ) → State r k g h s x → Some (Issues g b) h → Done r k g h s
  issued_done g h s none b u e = absurd (u.no_issue b e)
  issued_done g h s (open_with x) b o e = absurd (o.no_issue b e)
  issued_done g h s (closed_with x) b d e = absurd (d.held.no_issue b e)
  issued_done g h s gone b d e = d

  -- a gathering that holds every honest house that is named is accepted
  full_accepted : Lawful r → (honest : ℕ) → Trusted r honest → (g : ℕ) (h : List Event) (s : S) (x : Gathering) → Going r k g h s x
      → ((i : ℕ) → (i < r.houses) × (has honest i ≡ 1) → has (r.named x.notice.house x.notice.number) i ≡ 1 → Some (Adds g i) h)
      → r.accepts x.notice.house x.notice.number x.gathered ≡ true
  full_accepted law honest trusted g h s x going all =
      let named = r.named x.notice.house x.notice.number in
      all_honest law x.notice.house x.notice.number honest trusted x.gathered going.inside going.numbered
      (all_held (bit_and honest named) x.gathered (λ i e. let both = has_each honest named i e in
      going.holds i (all i (law.below x.notice.house x.notice.number i both.1, both.0) both.1)))

  -- a station that stands one number below, and pages of the bundle's digest
  due_when : (x : Station) (b p : List ℕ) (j n last : ℕ) → x.house < r.houses → length p ≤ most_bytes → bundle_house b ≡ j → bundle_number b ≡ n
      → (row_of x j).last ≡ last → last + 1 ≡ n → bundle_digest b ≡ digest_of p → Due r k x b p
  due_when x b p j n last inside within house number row next same =
      let here : (row_of x (bundle_house b)).last ≡ last = ap (λ (i : ℕ). (row_of x i).last) house ∙ row in
      let below : (row_of x (bundle_house b)).last < bundle_number b = omega arith in
      let one_below : bundle_number b ≡ (row_of x (bundle_house b)).last + 1 = omega arith in
      record {
        member = lt-ltb x.house r.houses inside;
        within = le-leb (length p) most_bytes within;
        later = lt-ltb (row_of x (bundle_house b)).last (bundle_number b) below;
        next = eq-eqb (bundle_number b) ((row_of x (bundle_house b)).last + 1) one_below;
        same = same_digests (bundle_digest b) (digest_of p) same;
      }

  files : (w : World S) (a : ℕ) (b p : List ℕ) (y : Result Filing Refused) (w' : World S) → Fit r k w.seal b → Due r k (w.stations a) b p
      → Step r k w (filed a b p y) w' → Taken y
  files w a b p y w' fit due step =
      subst (λ (v : Result Filing Refused). Taken v) (sym (step.0 ∙ fit_files r k w.seal (w.stations a) b p fit due)) tt

  -- a bundle that some house has filed, for house j and number n
  record Filed (s : S) (j n : ℕ) (b : List ℕ) : Type 0 where
    pub fit : Fit r k s b
    pub house : bundle_house b ≡ j
    pub number : bundle_number b ≡ n

  module _ (first : ℕ → Station) (i j n : ℕ) (b q : List ℕ) where
    filed_now : (w : World S) (c : Event) (w' : World S) → Step r k w c w' → FilesFrom r first i j n b q c → Filed w.seal j n b
    filed_now w (announced a p y) w' step it = absurd it
    filed_now w (noted a j' n' d m y m') w' step it = absurd it
    filed_now w (started g j' n' d y) w' step it = absurd it
    filed_now w (added g i' z m y m') w' step it = absurd it
    filed_now w (closed g y) w' step it = absurd it
    filed_now w (issued g m y m') w' step it = absurd it
    filed_now w (filed a b' p (Ok f)) w' step it =
        let taken = file_taken r k w.seal (w.stations a) b' p f (sym step.0) in
        let named = filed_as r k w.seal (w.stations a) b' p f (sym step.0) in
        subst (λ (v : List ℕ). Filed w.seal j n v) it.3 (record { fit = taken.fit; house = sym named.0 ∙ it.1; number = sym named.1 ∙ it.2 })
    filed_now w (filed a b' p (Err e)) w' step it = absurd it
    filed_now w (signed i' x m y m') w' step it = absurd it

    filed_once : Meant k → (start : S) (h : List Event) (w : World S) → Run r k start first h w → Some (FilesFrom r first i j n b q) h → Filed w.seal j n b
    filed_once meant start [] w run it = absurd it
    filed_once meant start (c ∷ h) w run e =
        let was = run.0 in
        let step = run.1.1 in
        let before = ⊎_elim (λ it. filed_now was c w step it) (λ it. filed_once meant start h was run.1.0 it) e in
        record { fit = fit_grows r k was.seal w.seal b (step_grows k meant r was c w step) before.fit; house = before.house; number = before.number }

  module _ (meant : Meant k) (first : ℕ → Station) (start : S) (h : List Event) (w : World S) (run : Run r k start first h w) where
    stand : (g : ℕ) → State r k g h w.seal (w.gatherings g)
    stand = stands r k meant start first h w run

    pub closes : Lawful r → (honest : ℕ) → Trusted r honest
        → (g j n : ℕ) (d : Digest) → Some (Starts g j n d) h
        → ((i : ℕ) → Honest r first honest i → has (r.named j n) i ≡ 1 → Some (Adds g i) h)
        → (y : Result Closed (Refused × Gathering)) (w' : World S) → Step r k w (closed g y) w' → Taken y
    closes law honest trusted g j n d begun all y w' step =
        let x = step.0 in
        let going : Going r k g h w.seal x = (subst (State r k g h w.seal) step.1 (stand g)).going in
        let so = going.started_so j n d begun in
        let accepted = full_accepted law honest trusted g h w.seal x going (λ i ok named. all i ok (subst₂ (λ (a b : ℕ). has (r.named a b) i ≡ 1) so.0 so.1.0 named)) in
        subst (λ (v : Result Closed (Refused × Gathering)). Taken v) (sym (step.2 ∙ yes_to (r.accepts x.notice.house x.notice.number x.gathered) (whole NotAccepted, x) (Ok (record { whole = x })) accepted)) tt

    pub reads_back : (g : ℕ) (m b : List ℕ) → Some (Issues g b) h → Fed g m h → receipts_in k.size b ≡ brought g h
    reads_back g m b out fed =
        let d = issued_done g h w.seal (w.gatherings g) b (stand g) out in
        ap (receipts_in k.size) (d.bundle m b fed out) ∙ made_reads r k meant w.seal d.made (brought g h) d.going.gathers

    -- given what the stations hold
    module _ (honest : ℕ) (same-house : (a : ℕ) → (w.stations a).house ≡ (first a).house)
        (last_filed : (a : ℕ) → Honest r first honest (first a).house → (j : ℕ) → (row_of (w.stations a) j).last ≡ length (numbers r first (first a).house j h)) where
      pub issued_files : (g j n a : ℕ) (d : Digest) (m b p : List ℕ) → Some (Starts g j n d) h → Some (Issues g b) h → Fed g m h
          → Honest r first honest (first a).house → length (numbers r first (first a).house j h) + 1 ≡ n → digest_of p ≡ d → length p ≤ most_bytes
          → (y : Result Filing Refused) (w' : World S) → Step r k w (filed a b p y) w' → Taken y
      issued_files g j n a d m b p begun out fed ok next same within y w' step =
          let done = issued_done g h w.seal (w.gatherings g) b (stand g) out in
          let x = done.made in
          let going = done.going in
          let st = gathering_statement r x in
          let count = ones x.gathered in
          let rest = flat (brought g h) in
          let is : b ≡ made_of r x (brought g h) = done.bundle m b fed out in
          let so = going.started_so j n d begun in
          let digest : digest_of p ≡ x.notice.digest = same ∙ sym so.1.1 in
          let fit = made_fits r k meant w.seal x (brought g h) going.gathers p digest going.inside done.accepted in
          files w a b p y w' (subst (Fit r k w.seal) (sym is) fit)
          (due_when (w.stations a) b p j n _ (omega (arith, same-house a, ok.0)) within
          (ap bundle_house is ∙ housed st count rest ∙ so.0) (ap bundle_number is ∙ numbered st count rest ∙ so.1.0) (last_filed a ok j) next
          (ap bundle_digest is ∙ digested p st count rest digest ∙ sym digest)) step

      pub filed_files : (i j n a : ℕ) (b p q : List ℕ) → Honest r first honest i → Some (FilesFrom r first i j n b q) h
          → Honest r first honest (first a).house → length (numbers r first (first a).house j h) + 1 ≡ n → digest_of p ≡ bundle_digest b → length p ≤ most_bytes
          → (y : Result Filing Refused) (w' : World S) → Step r k w (filed a b p y) w' → Taken y
      filed_files i j n a b p q _ out ok next same within y w' step =
          let it = filed_once first i j n b q meant start h w run out in
          files w a b p y w' it.fit (due_when (w.stations a) b p j n _ (omega (arith, same-house a, ok.0)) within it.house it.number (last_filed a ok j) next (sym same)) step
