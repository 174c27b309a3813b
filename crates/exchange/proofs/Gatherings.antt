-- What a gathering's calls have made of it and of its memory, along every run.
use Rattle.std.proofs.Common.{◌≡◌, ℕ, ◌+◌, ◌<◌, ◌≤◌, true, not, eqb, ltb, leb, List, [], ◌∷◌, ◌++◌, length, take, Ok, Err, Result, sym, refl, ap, ◌∙◌, subst, ap₂, ⊎_elim}
use mathlib.Core.Path.{subst₃}
use lib.Count.{ones}
use lib.Seq.{paste}
use Rattle.std.proofs.lemmas.Bool.{cases_eq, cond-true, cond-false, eq-eqb, ne_eqb, eqb-true, leb-true, ltb-true}
use Rattle.bits.specs.Bits.{has}
use Rattle.refusal.specs.Questions.{after, whole}
use Rattle.refusal.specs.declared.Refused.{Refused}
use Rattle.refusal.specs.declared.Refusal.TheVariants.{NoSuchHouse, NumberPast, NotNamed, ReceiptRepeated, SealLength, SealFails, MemoryTooSmall, NotAccepted}
use Rattle.sha256.specs.declared.value.Digest.{Digest}
use Rattle.witness.specs.Rules.{Ruling}
use Rattle.witness.specs.CountingLemmas.{ones_added, ones_none}
use Rattle.witness.specs.Members.{has_added, has_kept}
use Rattle.seal.specs.Meanings.{Meaning, Meant}
use Rattle.exchange.specs.declared.station.Station.{Station}
use Rattle.exchange.specs.declared.gathering.Gathering.{Gathering}
use Rattle.exchange.specs.declared.gathering.Closed.{Closed}
use Rattle.exchange.specs.Layout.{head_length, head_bytes, receipt_at, receipt_bytes, receipt_length}
use Rattle.exchange.specs.Machine.{statement_of, gathering_statement, with_house, start_answer, add_answer, add_gathering, add_memory, close_answer, issue_answer, issue_memory, member}
use Rattle.exchange.specs.Runs.{Event, announced, noted, started, added, closed, issued, filed, signed, Held, none, open_with, closed_with, gone, World, put, at_gathering, Step, Run, Some}
use Rattle.exchange.specs.Law.{Receipt, Starts, Adds, Issues, brought, Fed}
use Rattle.exchange.proofs.Growing.{same_grows, step_grows}
use Rattle.exchange.proofs.Heads.{head_long}
use Rattle.exchange.proofs.Issued.{made_of}
use Rattle.exchange.proofs.Memory.{Written, none_written, more_written, headed_written}
use Rattle.exchange.proofs.Questions.{asked}
use Rattle.exchange.proofs.Quiet.{Quiet, earlier, own_fed, start_of_other, add_of_other, issue_of_other, any_announce, any_note, any_close, any_file, any_sign, refused_start, refused_add, refused_issue}
use Rattle.exchange.proofs.Walk.{Counts}
use Rattle.exchange.proofs.Walking.{Grows, Gathers, gathers_more, gathers_grows, no_member}

-- what a call leaves, by the answer that was found
left_by : {A E B : Type 0} (y a : Result A E) (new : A → B) (old b : B) → y ≡ a → b ≡ after a new old → b ≡ after y new old
left_by {A} {E} y a new old b e left = left ∙ ap (λ (v : Result A E). after v new old) (sym e)

-- no call of gathering g has been taken
pub record Untouched (g : ℕ) (h : List Event) : Type 0 where
  pub no_start : (j n : ℕ) (d : Digest) → Some (Starts g j n d) h → ⊥
  pub no_add : (i : ℕ) → Some (Adds g i) h → ⊥
  pub no_issue : (b : List ℕ) → Some (Issues g b) h → ⊥
  pub brought_none : brought g h ≡ []

module _ {S : Type 0} (r : Ruling) (k : Meaning S) where
  -- x is what the start and the adds of gathering g have made
  pub record Going (g : ℕ) (h : List Event) (s : S) (x : Gathering) : Type 0 where
    pub inside : x.notice.house < r.houses
    pub numbered : 0 < x.notice.number
    pub started_so : (j n : ℕ) (d : Digest) → Some (Starts g j n d) h → (x.notice.house ≡ j) × ((x.notice.number ≡ n) × (x.notice.digest ≡ d))
    pub holds : (i : ℕ) → Some (Adds g i) h → has x.gathered i ≡ 1
    pub gathers : Gathers r k s (gathering_statement r x) 0 (brought g h) x.gathered

  -- and its receipts stand in the memory
  pub record Open (g : ℕ) (h : List Event) (s : S) (x : Gathering) : Type 0 where
    pub going : Going g h s x
    pub no_issue : (b : List ℕ) → Some (Issues g b) h → ⊥
    pub written : (m : List ℕ) → Fed g m h → Written k.size (ones x.gathered) m (brought g h)

  pub record Shut (g : ℕ) (h : List Event) (s : S) (x : Gathering) : Type 0 where
    pub held : Open g h s x
    pub accepted : r.accepts x.notice.house x.notice.number x.gathered ≡ true

  pub record Done (g : ℕ) (h : List Event) (s : S) : Type 0 where
    pub made : Gathering
    pub going : Going g h s made
    pub accepted : r.accepts made.notice.house made.notice.number made.gathered ≡ true
    pub bundle : (m b : List ℕ) → Fed g m h → Some (Issues g b) h → b ≡ made_of r made (brought g h)

  abbrev pub State : ℕ → List Event → S → Held → Type 0
  State g h s none = Untouched g h
  State g h s (open_with x) = Open g h s x
  State g h s (closed_with c) = Shut g h s c.whole
  State g h s gone = Done g h s

  -- ---- a quiet call

  module _ (g : ℕ) (c : Event) (h : List Event) (quiet : Quiet g c) where
    untouched_keeps : Untouched g h → Untouched g (c ∷ h)
    untouched_keeps u =
        record {
          no_start = λ j n d e. u.no_start j n d (earlier (quiet.no_start j n d) e);
          no_add = λ i e. u.no_add i (earlier (quiet.no_add i) e);
          no_issue = λ b e. u.no_issue b (earlier (quiet.no_issue b) e);
          brought_none = quiet.brings h ∙ u.brought_none;
        }

    module _ (s s' : S) (grows : Grows k s s') where
      going_keeps : (x : Gathering) → Going g h s x → Going g (c ∷ h) s' x
      going_keeps x going =
          let st = gathering_statement r x in
          record {
            inside = going.inside;
            numbered = going.numbered;
            started_so = λ j n d e. going.started_so j n d (earlier (quiet.no_start j n d) e);
            holds = λ i e. going.holds i (earlier (quiet.no_add i) e);
            gathers = subst (λ (zs : List Receipt). Gathers r k s' st 0 zs x.gathered) (sym (quiet.brings h)) (gathers_grows r k s s' st 0 (brought g h) x.gathered grows going.gathers);
          }

      open_keeps : (x : Gathering) → Open g h s x → Open g (c ∷ h) s' x
      open_keeps x o =
          record {
            going = going_keeps x o.going;
            no_issue = λ b e. o.no_issue b (earlier (quiet.no_issue b) e);
            written = λ m fed. subst (λ (zs : List Receipt). Written k.size (ones x.gathered) m zs) (sym (quiet.brings h)) (o.written m (quiet.feeds m h fed));
          }

      done_keeps : Done g h s → Done g (c ∷ h) s'
      done_keeps d =
          record {
            made = d.made;
            going = going_keeps d.made d.going;
            accepted = d.accepted;
            bundle = λ m b fed e. subst (λ (zs : List Receipt). b ≡ made_of r d.made zs) (sym (quiet.brings h)) (d.bundle m b (quiet.feeds m h fed) (earlier (quiet.no_issue b) e));
          }

      pub state_keeps : (x : Held) → State g h s x → State g (c ∷ h) s' x
      state_keeps none u = untouched_keeps u
      state_keeps (open_with x) o = open_keeps x o
      state_keeps (closed_with x) d = record { held = open_keeps x.whole d.held; accepted = d.accepted }
      state_keeps gone d = done_keeps d

  -- ---- the taken calls of gathering g

  module _ (g : ℕ) (h : List Event) (s : S) where
    begins : (j n : ℕ) (d : Digest) (y : Gathering) → j < r.houses → 0 < n → Untouched g h
        → Open g (started g j n d (Ok y) ∷ h) s (record { notice = record { house = j; number = n; digest = d }; gathered = 0 })
    begins j n d y inside numbered u =
        let empty = u.brought_none in
        record {
          going =
              record {
                inside = inside;
                numbered = numbered;
                started_so = λ j' n' d' e. ⊎_elim (λ q. (q.1, (q.2, q.3))) (λ q. absurd (u.no_start j' n' d' q)) e;
                holds = λ i e. absurd (u.no_add i (earlier (λ q. q) e));
                gathers = subst (λ (zs : List Receipt). Gathers r k s (statement_of r j n d) 0 zs 0) (sym empty) refl;
              };
          no_issue = λ b e. u.no_issue b (earlier (λ q. q) e);
          written = λ m _. subst₃ (λ (c : ℕ) (l : List ℕ) (zs : List Receipt). Written k.size c l zs) (sym ones_none) refl (sym empty) (none_written k.size m);
        }

    joins : (i : ℕ) (z m m' : List ℕ) (t : Unit {0}) (x : Gathering) → Counts r k s (gathering_statement r x) x.gathered i z
        → length z ≡ k.size → receipt_at k.size (ones x.gathered + 1) ≤ length m
        → m' ≡ paste m (receipt_at k.size (ones x.gathered)) (receipt_bytes i z) (receipt_length k.size)
        → Open g h s x → Open g (added g i z m (Ok t) m' ∷ h) s (with_house x i)
    joins i z m m' t x counts long room left o =
        let receipt : Receipt = record { house = i; seal = z } in
        let set = x.gathered in
        let all = brought g h ++ (receipt ∷ []) in
        let now : brought g (added g i z m (Ok t) m' ∷ h) ≡ all = cond-true (eqb g g) all (brought g h) (eq-eqb g g refl) in
        let more = ones_added set i (no_member set i counts.new) in
        let going = o.going in
        record {
          going =
              record {
                inside = going.inside;
                numbered = going.numbered;
                started_so = λ j n d e. going.started_so j n d (earlier (λ q. q) e);
                holds = λ i' e. ⊎_elim (λ same. subst (λ (y : ℕ). has (with_house x i).gathered y ≡ 1) same (has_added set i))
                    (λ other. has_kept set i i' other ∙ going.holds i' (earlier (λ q. other q.1) e)) (cases_eq i i');
                gathers = subst (λ (zs : List Receipt). Gathers r k s (gathering_statement r x) 0 zs (with_house x i).gathered) (sym now) (gathers_more r k s (gathering_statement r x) 0 (brought g h) set receipt going.gathers counts);
              };
          no_issue = λ b e. o.no_issue b (earlier (λ q. q) e);
          written = λ l fed.
              let own = own_fed g m m' l h fed in
              subst₃ (λ (c : ℕ) (y : List ℕ) (zs : List Receipt). Written k.size c y zs) (sym more) (sym left ∙ own.0) (sym now)
              (more_written k.size (ones set) i m z (brought g h) room long (o.written m own.1));
        }

    goes_out : (n : ℕ) (m m' : List ℕ) (x : Gathering) → n ≡ receipt_at k.size (ones x.gathered)
        → m' ≡ paste m 0 (head_bytes (gathering_statement r x) (ones x.gathered)) head_length
        → Shut g h s x → Done g (issued g m (Ok n) m' ∷ h) s
    goes_out n m m' x size left d =
        let going = d.held.going in
        let head = head_bytes (gathering_statement r x) (ones x.gathered) in
        record {
          made = x;
          going =
              record {
                inside = going.inside;
                numbered = going.numbered;
                started_so = λ j n d e. going.started_so j n d (earlier (λ q. q) e);
                holds = λ i e. going.holds i (earlier (λ q. q) e);
                gathers = going.gathers;
              };
          accepted = d.accepted;
          bundle = λ l b fed e.
              let own = own_fed g m m' l h fed in
              ⊎_elim (λ q. sym q.1 ∙ ap₂ (λ (a : ℕ) (y : List ℕ). take a y) size left
              ∙ headed_written k.size (ones x.gathered) m head (brought g h) (head_long (gathering_statement r x) (ones x.gathered)) (d.held.written m own.1))
              (λ q. absurd (d.held.no_issue b q)) e;
        }

  -- ---- a call, and where it leaves a gathering

  -- how gathering g stands in the world w
  abbrev pub Stands : World S → ℕ → List Event → Type 0
  Stands w g h = State g h w.seal (w.gatherings g)

  -- a call of gathering g' that leaves it as y, and every other as it was
  turned : (w w' : World S) (g' : ℕ) (y : Held) (c : Event) (h : List Event) → w' ≡ at_gathering w g' y
      → State g' (c ∷ h) w.seal y → ((g : ℕ) → (g ≡ g' → ⊥) → Quiet g c)
      → (g : ℕ) → Stands w g h → Stands w' g (c ∷ h)
  turned w w' g' y c h left own quiet g was =
      subst (λ (v : World S). Stands v g (c ∷ h)) (sym left)
      (⊎_elim (λ e. subst (λ (x : ℕ). State x (c ∷ h) w.seal (put w.gatherings g' y x)) (sym e)
      (subst (λ (x : Held). State g' (c ∷ h) w.seal x) (sym (cond-true (eqb g' g') y (w.gatherings g') (eq-eqb g' g' refl))) own))
      (λ other. subst (λ (x : Held). State g (c ∷ h) w.seal x) (sym (cond-false (eqb g g') y (w.gatherings g) (ne_eqb g g' other)))
      (state_keeps g c h (quiet g other) w.seal w.seal (λ _ _ _ e. e) (w.gatherings g) was))
      (cases_eq g g'))

  -- a call beside the gatherings
  passed : (w w' : World S) (c : Event) (h : List Event) → Grows k w.seal w'.seal → w'.gatherings ≡ w.gatherings → ((g : ℕ) → Quiet g c)
      → (g : ℕ) → Stands w g h → Stands w' g (c ∷ h)
  passed w w' c h grows same quiet g was =
      subst (λ (f : ℕ → Held). State g (c ∷ h) w'.seal (f g)) (sym same) (state_keeps g c h (quiet g) w.seal w'.seal grows (w.gatherings g) was)

  -- ---- the calls of a gathering as the machine answers them

  module _ (g : ℕ) (h : List Event) (s : S) where
    started_own : (j n : ℕ) (d : Digest) (y : Result Gathering Refused) → y ≡ start_answer r j n d → Untouched g h
        → State g (started g j n d y ∷ h) s (after y open_with none)
    started_own j n d (Ok x) e u =
        let q1 = asked (ltb j r.houses) (whole NoSuchHouse) _ x (sym e) in
        let q2 = asked (leb 1 n) (whole NumberPast) _ x q1.1 in
        let is = q2.1 in
        subst (λ (v : Gathering). Open g (started g j n d (Ok x) ∷ h) s v) (cc) (begins g h s j n d x (ltb-true j r.houses q1.0) (leb-true 1 n q2.0) u)
    started_own j n d (Err e) _ u = untouched_keeps g _ h (refused_start g j n d e) u

    added_own : (i : ℕ) (z m : List ℕ) (y : Result (Unit {0}) Refused) (m' : List ℕ) (x : Gathering)
        → y ≡ add_answer r k s x i z (length m) → m' ≡ add_memory r k s x i z m → Open g h s x
        → Open g (added g i z m y m' ∷ h) s (add_gathering r k s x i z (length m))
    added_own i z m (Ok t) m' x e left o =
        let set = x.gathered in
        let q1 = asked (ltb i r.houses) (whole NoSuchHouse) _ t (sym e) in
        let q2 = asked (member (r.named x.notice.house x.notice.number) i) (whole NotNamed) _ t q1.1 in
        let q3 = asked (not (member set i)) (whole ReceiptRepeated) _ t q2.1 in
        let q4 = asked (eqb (length z) k.size) (whole SealLength) _ t q3.1 in
        let q5 = asked (k.checks s i (gathering_statement r x) z) (whole SealFails) _ t q4.1 in
        let q6 = asked (leb (receipt_at k.size (ones set + 1)) (length m)) (whole MemoryTooSmall) _ t q5.1 in
        let counts : Counts r k s (gathering_statement r x) set i z = record { inside = q1.0; named = q2.0; new = q3.0; checks = q5.0 } in
        subst (λ (a : Result (Unit {0}) Refused). Open g (added g i z m (Ok t) m' ∷ h) s (after a (λ _. with_house x i) x)) e
        (joins g h s i z m m' t x counts (eqb-true (length z) k.size q4.0) (leb-true (receipt_at k.size (ones set + 1)) (length m) q6.0) (left_by (Ok t) _ _ m m' e left) o)
    added_own i z m (Err e) m' x refused left o =
        subst (λ (a : Result (Unit {0}) Refused). Open g (added g i z m (Err e) m' ∷ h) s (after a (λ _. with_house x i) x)) refused
        (open_keeps g _ h (refused_add g i z m e m' (left_by (Err e) _ _ m m' refused left)) s s (same_grows k s) x o)

    closed_own : (y : Result Closed (Refused × Gathering)) (x : Gathering) → y ≡ close_answer r x → Open g h s x
        → State g (closed g y ∷ h) s (after y closed_with (open_with x))
    closed_own (Ok c) x e o =
        let q = asked (r.accepts x.notice.house x.notice.number x.gathered) (whole NotAccepted, x) _ c (sym e) in
        let is = q.1 in
        subst (λ (v : Closed). Shut g (closed g (Ok c) ∷ h) s v.whole) (cc)
        (record { held = open_keeps g _ h (any_close g g (Ok c)) s s (same_grows k s) x o; accepted = q.0 })
    closed_own (Err e) x _ o = open_keeps g _ h (any_close g g (Err e)) s s (same_grows k s) x o

    issued_own : (m : List ℕ) (y : Result ℕ (Refused × Closed)) (m' : List ℕ) (x : Closed)
        → y ≡ issue_answer k x (length m) → m' ≡ issue_memory r k x m → Shut g h s x.whole
        → State g (issued g m y m' ∷ h) s (after y (λ _. gone) (closed_with x))
    issued_own m (Ok n) m' x e left d =
        let q = asked (leb (receipt_at k.size (ones x.whole.gathered)) (length m)) (whole MemoryTooSmall, x) _ n (sym e) in
        let is = q.1 in
        goes_out g h s n m m' x.whole (cc) (left_by (Ok n) _ _ m m' e left) d
    issued_own m (Err e) m' x refused left d =
        let quiet = refused_issue g m e m' (left_by (Err e) _ _ m m' refused left) in
        record { held = open_keeps g _ h quiet s s (same_grows k s) x.whole d.held; accepted = d.accepted }

  -- ---- along every run

  module _ (meant : Meant k) where
    pub stands_step : (w : World S) (c : Event) (w' : World S) (h : List Event) → Step r k w c w' → ((g : ℕ) → Stands w g h) → (g : ℕ) → Stands w' g (c ∷ h)
    stands_step w (announced a p y) w' h step was g =
        passed w w' _ h (step_grows k meant r w (announced a p y) w' step) (ap (λ (v : World S). v.gatherings) step.1) (λ g. any_announce g a p y) g (was g)
    stands_step w (noted a j n d m y m') w' h step was g =
        passed w w' _ h (step_grows k meant r w (noted a j n d m y m') w' step) (ap (λ (v : World S). v.gatherings) step.3) (λ g. any_note g a j n d m y m') g (was g)
    stands_step w (started g' j n d y) w' h step was g =
        let own = started_own g' h w.seal j n d y step.1 (subst (State g' h w.seal) step.0 (was g')) in
        turned w w' g' _ _ h step.2 own (λ g other. start_of_other g g' other j n d y) g (was g)
    stands_step w (added g' i z m y m') w' h step was g =
        let own = added_own g' h w.seal i z m y m' step.0 step.2 step.3 (subst (State g' h w.seal) step.1 (was g')) in
        turned w w' g' _ _ h step.4 own (λ g other. add_of_other g g' other i z m y m') g (was g)
    stands_step w (closed g' y) w' h step was g =
        let own = closed_own g' h w.seal y step.0 step.2 (subst (State g' h w.seal) step.1 (was g')) in
        turned w w' g' _ _ h step.3 own (λ g other. any_close g g' y) g (was g)
    stands_step w (issued g' m y m') w' h step was g =
        let own = issued_own g' h w.seal m y m' step.0 step.2 step.3 (subst (State g' h w.seal) step.1 (was g')) in
        turned w w' g' _ _ h step.4 own (λ g other. issue_of_other g g' other m y m') g (was g)
    stands_step w (filed a b p y) w' h step was g =
        passed w w' _ h (step_grows k meant r w (filed a b p y) w' step) (ap (λ (v : World S). v.gatherings) step.1) (λ g. any_file g a b p y) g (was g)
    stands_step w (signed i x m y m') w' h step was g =
        passed w w' _ h (step_grows k meant r w (signed i x m y m') w' step) (ap (λ (v : World S). v.gatherings) step.3) (λ g. any_sign g i x m y m') g (was g)

    pub stands : (e : S) (first : ℕ → Station) (h : List Event) (w : World S) → Run r k e first h w → (g : ℕ) → Stands w g h
    stands e first [] w run g =
        let untouched : Untouched g [] = record { no_start = λ _ _ _ q. q; no_add = λ _ q. q; no_issue = λ _ q. q; brought_none = refl } in
        subst (λ (v : World S). Stands v g []) (sym run) untouched
    stands e first (c ∷ h) w run g = stands_step run.0 c w h run.1.1 (stands e first h run.0 run.1.0) g
