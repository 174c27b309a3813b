-- The run of the exchange behind the event lines: at most one call a line, with every house honest.
use Rattle.std.proofs.Common.{◌≡◌, ℕ, ◌<◌, ◌≤◌, Bool, true, false, cond, ◌&&◌, eqb, ◌≢◌, List, [], ◌∷◌, length, take, set, replicate, Some, None, Ok, Err, Option, Result, sym, refl, ap, ◌∙◌, subst, ap₂, subst₂, inl, inr, ⊎_elim, lt_of_lt_of_le}
use Rattle.std.proofs.lemmas.List.{get_or-set_same, get_or-set_other, length-set}
use Rattle.std.proofs.lemmas.Bool.{false≢true, cases_eq, eq-eqb, ne_eqb, cond-true, cond-false}
use Rattle.refusal.specs.Questions.{after}
use Rattle.refusal.specs.declared.Refusal.{Refusal}
use Rattle.refusal.specs.declared.Refusal.TheVariants.{BadLine}
use Rattle.refusal.specs.declared.Refused.{Refused}
use Rattle.sha256.specs.Text.{digest_of}
use Rattle.witness.specs.Rules.{Ruling}
use Rattle.seal.specs.declared.register.Register.{Register}
use Rattle.seal.specs.Meanings.{Signing}
use Rattle.seal.specs.Registers.{register}
use Rattle.exchange.specs.declared.station.Station.{Station}
use Rattle.exchange.specs.declared.filing.Filing.{Filing}
use Rattle.exchange.specs.Layout.{bundle_house, bundle_number}
use Rattle.exchange.specs.Stations.{fresh_station}
use Rattle.exchange.specs.Machine.{go_on, statement_of, announce_answer, announce_station, note_answer, note_station, file_answer, file_station}
use Rattle.exchange.specs.Runs.{Event, announced, noted, filed, World, put, at_station, at_seal, opened, Run, Some as Once, Each}
use Rattle.exchange.specs.Law.{Files, numbers, ByNote}
use Rattle.exchange.proofs.Files.{filed_as}
use Rattle.rehearsal.specs.declared.events.Call.{Call}
use Rattle.rehearsal.specs.declared.events.Call.TheVariants.{Announce, Note, File}
use Rattle.rehearsal.specs.Bundles.{bundle_of}
use Rattle.rehearsal.specs.Calls.{station_place, station_at, told, NoteLeft, CallLeft, CallGave, call_stations, Gave, Left, stations_after}
use Rattle.rehearsal.specs.Events.{Meant}
use Rattle.rehearsal.specs.Playing.{State, Played, Plays, Fresh, FilesSo, HasFiled, is_file, with_number, numbers_filed}
use Rattle.rehearsal.proofs.Bundled.{placed_at, bundle_alike}

-- the world's stations are those of the list, by their places
abbrev Stands : (ℕ → Station) → List Station → Type 0
Stands f stations = (length stations ≡ 16) × ((a : ℕ) → a < 16 → f a ≡ station_at stations a)

-- so after one is replaced in both
stands_put : (f : ℕ → Station) (stations : List Station) (at : ℕ) (x y : Station) → at < 16 → x ≡ y → Stands f stations → Stands (put f at x) (set stations at y)
stands_put f stations at x y inside same stands = (length-set stations at y ∙ stands.0, λ a below. ⊎_elim (here a) (there a below) (cases_eq a at))
  where
    long : at < length stations
    long = subst (λ (n : ℕ). at < n) (sym stands.0) inside

    here : (a : ℕ) → a ≡ at → put f at x a ≡ station_at (set stations at y) a
    here a e =
        cond-true (eqb a at) x (f a) (eq-eqb a at e) ∙ same
        ∙ sym (ap (station_at (set stations at y)) e ∙ get_or-set_same stations at y _ long)

    there : (a : ℕ) → a < 16 → a ≢ at → put f at x a ≡ station_at (set stations at y) a
    there a below e =
        cond-false (eqb a at) x (f a) (ne_eqb a at e) ∙ stands.1 a below ∙ sym (get_or-set_other stations at a y _ e)

module _ (r : Ruling) (few : r.houses ≤ 16) (e : Register) where
  -- a run of the exchange that stands where the rehearsal does, and has filed what its lines have
  pub record Traced (history : List Played) (s : Register) (stations : List Station) : Type 0 where
    pub events : List Event
    pub world : World Register
    pub run : Run r register e fresh_station events world
    pub seal : world.seal ≡ s
    pub stands : Stands world.stations stations
    pub by_note : (honest : ℕ) → Each (ByNote r fresh_station honest) events
    pub files : (i j k : ℕ) (p : List ℕ) → HasFiled i j k p history → Once (Files r fresh_station i j k p) events
    pub numbered : (i j : ℕ) → numbers r fresh_station i j events ≡ numbers_filed i j history

  -- a line that files nothing
  abbrev Quiet : Option Meant → Result ℕ Refusal → Type 0
  Quiet x o = (i j : ℕ) → (((k : ℕ) (p : List ℕ) → FilesSo i j k p x o → ⊥) × ((ns : List ℕ) → with_number i j x o ns ≡ ns))

  module _ (history : List Played) (s : Register) (stations : List Station) (t : Traced history s stations) where
    -- a line with no call, and one with a call that files nothing
    traced_still : (x : Option Meant) (o : Result ℕ Refusal) → Quiet x o → Traced (record { event = x; outcome = o } ∷ history) s stations
    traced_still x o quiet =
        record {
          events = t.events;
          world = t.world;
          run = t.run;
          seal = t.seal;
          stands = t.stands;
          by_note = t.by_note;
          files = λ i j k p. ⊎_elim (λ now. absurd ((quiet i j).0 k p now)) (t.files i j k p);
          numbered = λ i j. t.numbered i j ∙ sym ((quiet i j).1 (numbers_filed i j history));
        }

    -- the station of a house below n, as the world has it
    station_same : (at : ℕ) → at < r.houses → t.world.stations at ≡ station_at stations at
    station_same at below = t.stands.1 at (lt_of_lt_of_le below few)

    traced_announced : (m : Meant) (o : Result ℕ Refusal) (at : ℕ) → at < r.houses → Quiet (Some m) o
        → Traced (record { event = Some m; outcome = o } ∷ history) s (set stations at (announce_station r (station_at stations at) m.text))
    traced_announced m o at below quiet =
        let w = t.world in
        let here = station_same at below in
        let x = announce_station r (w.stations at) m.text in
        record {
          events = announced at m.text (announce_answer r (w.stations at) m.text) ∷ t.events;
          world = at_station w at x;
          run = (w, (t.run, (refl, refl)));
          seal = t.seal;
          stands = stands_put w.stations stations at x _ (lt_of_lt_of_le below few) (ap (λ (y : Station). announce_station r y m.text) here) t.stands;
          by_note = λ honest. (tt, t.by_note honest);
          files = λ i j k p. ⊎_elim (λ now. absurd ((quiet i j).0 k p now)) (λ before. inr (t.files i j k p before));
          numbered = λ i j. t.numbered i j ∙ sym ((quiet i j).1 (numbers_filed i j history));
        }

    traced_noted : (m : Meant) (o : Result ℕ Refusal) (at : ℕ) (s' : Register) (seal : List ℕ) → at < r.houses → Quiet (Some m) o
        → Signing register (note_answer r register s (station_at stations at) m.house m.number (digest_of m.text) 2)
        (station_at stations at).house (statement_of r m.house m.number (digest_of m.text)) s (0 ∷ 0 ∷ []) s' seal
        → Traced (record { event = Some m; outcome = o } ∷ history) s'
        (set stations at (note_station r register s (station_at stations at) m.house m.number (digest_of m.text) 2))
    traced_noted m o at s' seal below quiet signing =
        let w = t.world in
        let here = station_same at below in
        let d = digest_of m.text in
        let y = note_answer r register s (station_at stations at) m.house m.number d 2 in
        let x = note_station r register w.seal (w.stations at) m.house m.number d 2 in
        let same_answer : y ≡ note_answer r register w.seal (w.stations at) m.house m.number d 2 =
        ap₂ (λ (q : Register) (z : Station). note_answer r register q z m.house m.number d 2) (sym t.seal) (sym here) in
        let same_station : x ≡ note_station r register s (station_at stations at) m.house m.number d 2 =
        ap₂ (λ (q : Register) (z : Station). note_station r register q z m.house m.number d 2) t.seal here in
        let signs = subst₂ (λ (h : ℕ) (q : Register). Signing register y h (statement_of r m.house m.number d) q (0 ∷ 0 ∷ []) s' seal)
        (ap (λ (z : Station). z.house) (sym here)) (sym t.seal) signing in
        record {
          events = noted at m.house m.number d (0 ∷ 0 ∷ []) y seal ∷ t.events;
          world = at_seal (at_station w at x) s';
          run = (w, (t.run, (s', same_answer, signs, refl)));
          seal = refl;
          stands = stands_put w.stations stations at x _ (lt_of_lt_of_le below few) same_station t.stands;
          by_note = λ honest. (tt, t.by_note honest);
          files = λ i j k p. ⊎_elim (λ now. absurd ((quiet i j).0 k p now)) (λ before. inr (t.files i j k p before));
          numbered = λ i j. t.numbered i j ∙ sym ((quiet i j).1 (numbers_filed i j history));
        }

    module _ (m : Meant) (at : ℕ) (b : List ℕ) (below : at < r.houses) (its : at ≡ m.at) (filing : is_file m.call ≡ true)
        (house : bundle_house b ≡ m.house) (number : bundle_number b ≡ m.number) where
      -- the numbers of the run and of the lines, one more in both
      number_more : (f : Filing) (v i j : ℕ) (ns : List ℕ) → f.house ≡ m.house → f.number ≡ m.number
          → cond (eqb at i && eqb f.house j) (f.number ∷ ns) ns ≡ with_number i j (Some m) (Ok v) ns
      number_more f v i j ns h k =
          ap₂ (λ (x y : ℕ). cond (eqb at i && eqb x j) (y ∷ ns) ns) h k
          ∙ ap₂ (λ (x : ℕ) (y : Bool). cond (y && (eqb x i && eqb m.house j)) (m.number ∷ ns) ns) its (sym filing)

      traced_filed : (y : Result Filing Refused) → y ≡ file_answer r register s (station_at stations at) b m.text
          → Traced (record { event = Some m; outcome = told (λ f. f.signers) y } ∷ history) s
          (set stations at (file_station r register s (station_at stations at) b m.text))
      traced_filed y is =
          record {
            events = filed at b m.text y ∷ t.events;
            world = at_station w at x;
            run = (w, (t.run, (same_answer, refl)));
            seal = t.seal;
            stands = stands_put w.stations stations at x _ (lt_of_lt_of_le below few) same_station t.stands;
            by_note = λ honest. (tt, t.by_note honest);
            files = files y is;
            numbered = numbered y is;
          }
        where
          w : World Register
          w = t.world

          here : w.stations at ≡ station_at stations at
          here = station_same at below

          x : Station
          x = file_station r register w.seal (w.stations at) b m.text

          same_answer : y ≡ file_answer r register w.seal (w.stations at) b m.text
          same_answer = is ∙ ap₂ (λ (q : Register) (z : Station). file_answer r register q z b m.text) (sym t.seal) (sym here)

          same_station : x ≡ file_station r register s (station_at stations at) b m.text
          same_station = ap₂ (λ (q : Register) (z : Station). file_station r register q z b m.text) t.seal here

          reads : (f : Filing) → file_answer r register s (station_at stations at) b m.text ≡ Ok f → (f.house ≡ m.house) × (f.number ≡ m.number)
          reads f taken = let read = filed_as r register s (station_at stations at) b m.text f taken in (read.0 ∙ house, read.1 ∙ number)

          files : (y : Result Filing Refused) → y ≡ file_answer r register s (station_at stations at) b m.text → (i j k : ℕ) (p : List ℕ)
              → HasFiled i j k p (record { event = Some m; outcome = told (λ f. f.signers) y } ∷ history) → Once (Files r fresh_station i j k p) (filed at b m.text y ∷ t.events)
          files (Ok f) is i j k p (inl now) = let read = reads f (sym is) in inl (b, (its ∙ now.1, read.0 ∙ now.2, read.1 ∙ now.3, refl, now.4))
          files (Ok f) is i j k p (inr before) = inr (t.files i j k p before)
          files (Err e) is i j k p (inl now) = absurd now
          files (Err e) is i j k p (inr before) = inr (t.files i j k p before)

          numbered : (y : Result Filing Refused) → y ≡ file_answer r register s (station_at stations at) b m.text → (i j : ℕ)
              → numbers r fresh_station i j (filed at b m.text y ∷ t.events) ≡ numbers_filed i j (record { event = Some m; outcome = told (λ f. f.signers) y } ∷ history)
          numbered (Ok f) is i j =
              let read = reads f (sym is) in
              ap (λ (ns : List ℕ). cond (eqb at i && eqb f.house j) (f.number ∷ ns) ns) (t.numbered i j)
              ∙ number_more f f.signers i j (numbers_filed i j history) read.0 read.1
          numbered (Err e) is i j = t.numbered i j

    quiet_refused : (x : Option Meant) (e : Refusal) → Quiet x (Err e)
    quiet_refused None e i j = (λ k p now. now, λ ns. refl)
    quiet_refused (Some m) e i j = (λ k p now. now, λ ns. refl)

    quiet_other : (m : Meant) (o : Result ℕ Refusal) → is_file m.call ≡ false → Quiet (Some m) o
    quiet_other m (Ok v) other i j = (
      λ k p now. false≢true (sym other ∙ now.0),
      λ ns. ap (λ (y : Bool). cond (y && (eqb m.at i && eqb m.house j)) (m.number ∷ ns) ns) other,
    )
    quiet_other m (Err e) other i j = (λ k p now. now, λ ns. refl)

    -- a line, and the state after it
    abbrev After : Option Meant → Result ℕ Refusal → Register → List Station → Type 0
    After x o s' stations' = Traced (record { event = x; outcome = o } ∷ history) s' stations'

    refused_line : (x : Option Meant) (o : Result ℕ Refusal) (e : Refusal) → o ≡ Err e → After x o s stations
    refused_line x o e is = subst (λ (y : Result ℕ Refusal). After x y s stations) (sym is) (traced_still x (Err e) (quiet_refused x e))

    announced_at : (m : Meant) (o : Result ℕ Refusal) → is_file m.call ≡ false → (p : Result ℕ Refusal) → station_place r.houses m.at ≡ p
        → After (Some m) o s (after p (λ at. set stations at (announce_station r (station_at stations at) m.text)) stations)
    announced_at m o other (Ok at) e =
        let place = placed_at r.houses m.at at e in
        traced_announced m o at (subst (λ (x : ℕ). x < r.houses) (sym place.0) place.1) (quiet_other m o other)
    announced_at m o other (Err x) e = traced_still (Some m) o (quiet_other m o other)

    noted_at : (m : Meant) (o : Result ℕ Refusal) (s' : Register) → is_file m.call ≡ false → (p : Result ℕ Refusal) → station_place r.houses m.at ≡ p
        → NoteLeft r s stations m p s'
        → After (Some m) o s' (after p (λ at. set stations at (note_station r register s (station_at stations at) m.house m.number (digest_of m.text) 2)) stations)
    noted_at m o s' other (Ok at) e left =
        let place = placed_at r.houses m.at at e in
        traced_noted m o at s' left.0 (subst (λ (x : ℕ). x < r.houses) (sym place.0) place.1) (quiet_other m o other) left.1
    noted_at m o s' other (Err x) e left =
        subst (λ (q : Register). After (Some m) o q stations) (sym left) (traced_still (Some m) o (quiet_other m o other))

    -- what a file answers of the bundle
    abbrev filed_so : Meant → ℕ → (ℕ × List ℕ) → Result ℕ Refusal
    filed_so m at y = told (λ f. f.signers) (file_answer r register s (station_at stations at) (take y.0 y.1) m.text)

    filed_from : (m : Meant) (o : Result ℕ Refusal) (at : ℕ) → is_file m.call ≡ true → at ≡ m.at → at < r.houses
        → (q : Result (ℕ × List ℕ) Refusal) → bundle_of r s m.house m.number (digest_of m.text) (replicate 85 0) ≡ q → o ≡ go_on q (filed_so m at)
        → After (Some m) o s (after q (λ y. set stations at (file_station r register s (station_at stations at) (take y.0 y.1) m.text)) stations)
    filed_from m o at filing its below (Ok y) e is =
        let head = bundle_alike r s m.house m.number (digest_of m.text) (replicate 85 0) y e in
        let b = take y.0 y.1 in
        subst (λ (z : Result ℕ Refusal). After (Some m) z s (set stations at (file_station r register s (station_at stations at) b m.text))) (sym is)
        (traced_filed m at b below its filing head.0 head.1 (file_answer r register s (station_at stations at) b m.text) refl)
    filed_from m o at filing its below (Err x) e is = refused_line (Some m) o x is

    filed_at : (m : Meant) (o : Result ℕ Refusal) → is_file m.call ≡ true → (p : Result ℕ Refusal) → station_place r.houses m.at ≡ p
        → o ≡ go_on p (λ at. go_on (bundle_of r s m.house m.number (digest_of m.text) (replicate 85 0)) (filed_so m at))
        → After (Some m) o s
        (after p (λ at. after (bundle_of r s m.house m.number (digest_of m.text) (replicate 85 0))
        (λ y. set stations at (file_station r register s (station_at stations at) (take y.0 y.1) m.text)) stations) stations)
    filed_at m o filing (Ok at) e is =
        let place = placed_at r.houses m.at at e in
        filed_from m o at filing place.0 (subst (λ (x : ℕ). x < r.houses) (sym place.0) place.1) _ refl is
    filed_at m o filing (Err x) e is = refused_line (Some m) o x is

    traced_call : (m : Meant) (o : Result ℕ Refusal) (s' : Register) (call : Call) → m.call ≡ call → CallGave r s stations m call o → CallLeft r s stations m call s'
        → After (Some m) o s' (call_stations r s stations m call)
    traced_call m o s' Announce is gave left =
        subst (λ (q : Register). After (Some m) o q (call_stations r s stations m Announce)) (sym left) (announced_at m o (ap is_file is) _ refl)
    traced_call m o s' Note is gave left = noted_at m o s' (ap is_file is) _ refl left
    traced_call m o s' File is gave left =
        subst (λ (q : Register). After (Some m) o q (call_stations r s stations m File)) (sym left) (filed_at m o (ap is_file is) _ refl gave)

    traced_line : (x : Option Meant) (o : Result ℕ Refusal) (s' : Register) → Gave r s stations x o → Left r s stations x s'
        → After x o s' (stations_after r s stations x)
    traced_line None o s' gave left = subst (λ (q : Register). After None o q stations) (sym left) (refused_line None o BadLine gave)
    traced_line (Some m) o s' gave left = traced_call m o s' m.call refl gave left

  -- the lines played from an opening
  pub traced : (v : State) → v.register ≡ e → Fresh v.stations → (history : List Played) (v' : State) → Plays r v history v'
      → Traced history v'.register v'.stations
  traced v its fresh [] v' plays =
      record {
        events = [];
        world = opened e fresh_station;
        run = refl;
        seal = sym its ∙ sym (ap (λ (x : State). x.register) plays);
        stands = subst (λ (x : State). Stands fresh_station x.stations) (sym plays) (fresh.0, λ a below. sym (fresh.1 a below));
        by_note = λ honest. tt;
        files = λ i j k p none. none;
        numbered = λ i j. refl;
      }
  traced v its fresh (c ∷ before) v'' (v', (plays, one)) =
      subst (λ (x : List Station). Traced (c ∷ before) v''.register x) (sym one.stations)
      (traced_line before v'.register v'.stations (traced v its fresh before v' plays) c.event c.outcome v''.register one.gives one.register)
