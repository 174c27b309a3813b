-- The lines of the report, one more with each event line.
use Rattle.std.proofs.Common.{◌≡◌, ℕ, ◌+◌, ◌*◌, ◌≤◌, min, ◌&&◌, leb, List, [], ◌∷◌, ◌++◌, length, IfOk, Some, Ok, Err, Option, Result, MatchResult, sym, refl, ap, ◌∙◌, subst, ap₂, subst₂, arith, length-append}
use Rattle.std.proofs.lemmas.Bool.{and_parts, leb-true}
use Rattle.refusal.specs.declared.Refusal.{Refusal}
use Rattle.refusal.specs.declared.Refusal.TheVariants.{HouseCount, TooManyFaults}
use Rattle.witness.specs.Opening.{opened}
use Rattle.witness.specs.Rules.{Ruling, Lawful}
use Rattle.seal.specs.declared.register.Register.{Register}
use Rattle.exchange.specs.declared.station.Station.{Station}
use Rattle.exchange.proofs.Questions.{asked}
use Rattle.rehearsal.specs.declared.opening.Mark.{Mark}
use Rattle.rehearsal.specs.declared.report.Line.{Line}
use Rattle.rehearsal.specs.declared.report.Shown.{Shown}
use Rattle.rehearsal.specs.Calls.{shown_event}
use Rattle.rehearsal.specs.Events.{Meant}
use Rattle.rehearsal.specs.Playing.{State, Played, Opens, PlaysOne, lines_of, Ran, Staged, ruling_of, LinesOpened}
use Rattle.rehearsal.specs.Openings.{Begin, why_refused}
use Rattle.rehearsal.specs.Reports.{open_lines}
use Rattle.rehearsal.proofs.Agreeing.{agrees}
use Rattle.rehearsal.proofs.Outcomes.{opened_same}

-- a line of the report for each event line
lines_count : (history : List Played) → length (lines_of history) ≡ length history
lines_count [] = refl
lines_count (c ∷ before) = simp length-append (omega (arith, lines_count before))

module _ (r : Ruling) (v v' v'' : State) (x : Option Meant) (line : Line) where
  pub ran_more : (lines : List Line) → Ran r v v' lines → PlaysOne r v' (record { event = x; outcome = line.outcome }) v''
      → line.place ≡ length lines + 1 → line.call ≡ shown_event x → Ran r v v'' (lines ++ (line ∷ []))
  ran_more lines ran one place call =
      let told = ran.told in
      let at : line.place ≡ length ran.history + 1 = place ∙ ap (λ (xs : List Line). length xs + 1) told ∙ ap (λ (n : ℕ). n + 1) (lines_count ran.history) in
      record {
        history = record { event = x; outcome = line.outcome } ∷ ran.history;
        plays = (v', (ran.plays, one));
        told = ap₂ (λ (xs : List Line) (y : Line). xs ++ (y ∷ [])) told (ap₂ (λ (n : ℕ) (c : Shown). record { place = n; call = c; outcome = line.outcome }) at call);
      }

pub made_as : {V Y : Type 0} (P Q : V → Type 0) → ((v : V) → P v → Q v) → (a : Result V Y) → IfOk a P → IfOk a Q
made_as P Q f (Ok v) is = f v is
made_as P Q f (Err y) is = tt

-- all lines, from the opening on
pub staged : (r : Ruling) → Lawful r → (s s' : Register) (stations stations' : List Station) (events : List ℕ) (lines : List Line) → Opens r.houses s stations
    → Ran r (record { register = s; stations = stations; rest = events }) (record { register = s'; stations = stations'; rest = [] }) lines → Staged r events lines
staged r law s s' stations stations' events lines opens ran =
    record {
      register = s;
      stations = stations;
      opens = opens;
      end = record { register = s'; stations = stations'; rest = [] };
      ran = ran;
      done = refl;
      agrees = agrees r law _ opens ran.history _ ran.plays;
    }

-- numbers that are cut to a byte open as they are
pub capped_opened : (n t a b : ℕ) → a ≡ min n 255 → b ≡ min t 255 → opened a b ≡ opened n t
capped_opened n t a b p q = ap₂ opened p q ∙ opened_same n t

-- numbers with which a rule is opened are not cut
pub opened_whole : (n t a b : ℕ) → a ≡ min n 255 → b ≡ min t 255 → opened a b ≡ Ok tt → (a ≡ n) × (b ≡ t)
opened_whole n t a b p q e =
    let houses = asked (leb 1 n && leb n 16) HouseCount _ tt (sym (capped_opened n t a b p q) ∙ e) in
    let faults = asked (leb (3 * t + 1) n) TooManyFaults _ tt houses.1 in
    let most : n ≤ 16 = leb-true n 16 (and_parts (leb 1 n) (leb n 16) houses.0).1 in
    let few : 3 * t + 1 ≤ n = leb-true (3 * t + 1) n faults.0 in
    (omega arith, omega arith)

module _ (b : Begin) (houses faults : ℕ) (cut-houses : houses ≡ min b.houses 255) (cut-faults : faults ≡ min b.faults 255) where
  pub lines_refused : (x : Refusal) (lines : List Line) → opened houses faults ≡ Err x → lines ≡ open_lines x → LinesOpened b (opened b.houses b.faults) lines
  lines_refused x lines is told =
      subst (λ (o : Result (Unit {0}) Refusal). LinesOpened b o lines) (sym is ∙ capped_opened b.houses b.faults houses faults cut-houses cut-faults) told

  pub lines_staged : (m : Mark) (n t : ℕ) (lines : List Line) → b.mark ≡ m → (opened houses faults ≡ Ok tt) × (n ≡ houses) × (t ≡ faults)
      → Staged (ruling_of m n t) b.events lines → LinesOpened b (opened b.houses b.faults) lines
  lines_staged m n t lines mark is ran =
      let whole = opened_whole b.houses b.faults houses faults cut-houses cut-faults is.0 in
      subst (λ (o : Result (Unit {0}) Refusal). LinesOpened b o lines) (sym is.0 ∙ capped_opened b.houses b.faults houses faults cut-houses cut-faults)
      (subst (λ (m : Mark). Staged (ruling_of m b.houses b.faults) b.events lines) (sym mark)
      (subst₂ (λ (n t : ℕ). Staged (ruling_of m n t) b.events lines) (is.1 ∙ whole.0) (is.2 ∙ whole.1) ran))

  -- the lines that a rule's opening leads to
  pub rule_lines : {A : Type 0} (m : Mark) (houses_of faults_of : A → ℕ) (rule : Result A Refusal) (lines : List Line) → b.mark ≡ m
      → elim rule as (λ _. Type 0) [ Ok x ↦ (opened houses faults ≡ Ok tt) × (houses_of x ≡ houses) × (faults_of x ≡ faults) | Err e ↦ opened houses faults ≡ Err e ]
      → MatchResult rule (λ x. Staged (ruling_of m (houses_of x) (faults_of x)) b.events lines) (λ e. lines ≡ open_lines e)
      → LinesOpened b (opened b.houses b.faults) lines
  rule_lines m houses_of faults_of (Ok x) lines mark is ran = lines_staged m (houses_of x) (faults_of x) lines mark is ran
  rule_lines m houses_of faults_of (Err e) lines mark is told = lines_refused e lines is told

-- the one line of a refused opening
pub refusal_told : (b : Begin) (a : Result (Unit {0}) Refusal) (lines : List Line) (e : Refusal) → LinesOpened b a lines → why_refused a ≡ Some e → lines ≡ open_lines e
refusal_told b (Ok x) lines e is refused = let h = refused in cc
refusal_told b (Err x) lines e is refused = is ∙ ap open_lines (let h = refused in cc)
