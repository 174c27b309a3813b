-- Whatever checks for an honest house was signed by its note, and so no seal of a register is forged.
use Rattle.std.proofs.Common.{◌≡◌, ℕ, true, List, [], ◌∷◌, Ok, Err, sym, ap, ◌∙◌, subst, inl, inr, ⊎_elim}
use Rattle.witness.specs.Rules.{Ruling}
use Rattle.seal.specs.declared.register.Register.{Register}
use Rattle.seal.specs.declared.statement.Statement.{Statement}
use Rattle.seal.specs.Registers.{Unused, register}
use Rattle.seal.specs.RegisterLaws.{only_signed, none_checks}
use Rattle.exchange.specs.declared.station.Station.{Station}
use Rattle.exchange.specs.Layout.{bundle_statement, receipt_house, receipt_seal}
use Rattle.exchange.specs.Machine.{statement_of, gathering_statement}
use Rattle.exchange.specs.Runs.{Event, announced, noted, started, added, closed, issued, filed, signed, World, Step, Run, Each}
use Rattle.exchange.specs.Law.{Honest, Fair, ByNote, SignedBefore, UnforgedNow, Unforged, Law, LawFrom}
use Rattle.cases.specs.Forging.{RegisterUnforged, RegisterUnforgedByNote}
use Rattle.exchange.proofs.Stations.{station_house}

-- what checks in one state checks in the same
checks_same : (s s' : Register) → s' ≡ s → (i : ℕ) (x : Statement) (z : List ℕ) → register.checks s' i x z ≡ true → register.checks s i x z ≡ true
checks_same s s' same i x z e = ap (λ (t : Register). register.checks t i x z) (sym same) ∙ e

abbrev seal_of : World Register → Register
seal_of w = w.seal

-- over a world before a call and one after it, and the history between
module _ (r : Ruling) (first : ℕ → Station) (honest : ℕ) where
  -- whatever checks for an honest house was signed by a note of it
  abbrev AllSigned : World Register → List Event → Type 0
  AllSigned w h = (i : ℕ) (x : Statement) (z : List ℕ) → SignedBefore r first honest register w h i x z

  -- so after a call that left the seals as they were
  still_signed : (v w : World Register) (h : List Event) (c : Event) → w.seal ≡ v.seal → AllSigned v h → AllSigned w (c ∷ h)
  still_signed v w h c same all i x z member e = inr (all i x z member (checks_same v.seal w.seal same i x z e))

  -- and after every call
  next_signed : (v w : World Register) (h : List Event) (c : Event) → Step r register v c w → ByNote r first honest h c
      → ((a : ℕ) → (v.stations a).house ≡ (first a).house) → AllSigned v h → AllSigned w (c ∷ h)
  next_signed v w h (announced a p y) (answer, left) by_note houses all = still_signed v w h (announced a p y) (ap seal_of left) all
  next_signed v w h (noted a j n d m (Ok t) m') (s, answer, signing, left) by_note houses all = λ i x z member e.
      ⊎_elim (λ new. inl (sym (houses a) ∙ new.0, new.1, tt)) (λ old. inr (all i x z member old))
      (only_signed v.seal (v.stations a).house (statement_of r j n d) m s m' signing i x z (checks_same s w.seal (ap seal_of left) i x z e))
  next_signed v w h (noted a j n d m (Err t) m') (s, answer, signing, left) by_note houses all = still_signed v w h (noted a j n d m (Err t) m') (ap seal_of left ∙ signing.0) all
  next_signed v w h (started g j n d y) (fresh, answer, left) by_note houses all = still_signed v w h (started g j n d y) (ap seal_of left) all
  next_signed v w h (added g b q m y m') (held, is, answer, memory, left) by_note houses all = still_signed v w h (added g b q m y m') (ap seal_of left) all
  next_signed v w h (closed g y) (held, is, answer, left) by_note houses all = still_signed v w h (closed g y) (ap seal_of left) all
  next_signed v w h (issued g m y m') (held, is, answer, memory, left) by_note houses all = still_signed v w h (issued g m y m') (ap seal_of left) all
  next_signed v w h (filed a b p y) (answer, left) by_note houses all = still_signed v w h (filed a b p y) (ap seal_of left) all
  next_signed v w h (signed j q m (Ok t) m') (s, answer, signing, left) by_note houses all = λ i x z member e.
      ⊎_elim (λ new. absurd (by_note (subst (Honest r first honest) (sym new.0) member))) (λ old. inr (all i x z member old))
      (only_signed v.seal j q m s m' signing i x z (checks_same s w.seal (ap seal_of left) i x z e))
  next_signed v w h (signed j q m (Err t) m') (s, answer, signing, left) by_note houses all = still_signed v w h (signed j q m (Err t) m') (ap seal_of left ∙ signing.0) all

  all_signed : (e : Register) → Unused e → (h : List Event) (w : World Register) → Run r register e first h w → Each (ByNote r first honest) h → AllSigned w h
  all_signed e unused [] w run by_note = λ i x z member c. absurd (none_checks e unused i x z (checks_same e w.seal (ap seal_of run) i x z c))
  all_signed e unused (c ∷ h) w (v, (run, step)) (now, by_note) =
      next_signed v w h c step now (station_house r register e first h v run) (all_signed e unused h v run by_note)

  -- the seals of one call, upon a world whose seals are all signed
  unforged_now : (w : World Register) (h : List Event) (c : Event) → AllSigned w h → UnforgedNow r first honest register w h c
  unforged_now w h (announced a p y) all = tt
  unforged_now w h (noted a j n d m y m') all = tt
  unforged_now w h (started g j n d y) all = tt
  unforged_now w h (added g i z m y m') all = λ x _. all i (gathering_statement r x) z
  unforged_now w h (closed g y) all = tt
  unforged_now w h (issued g m y m') all = tt
  unforged_now w h (filed a b p y) all = λ i _ _. all (receipt_house register.size b i) (bundle_statement b) (receipt_seal register.size b i)
  unforged_now w h (signed i x m y m') all = tt

  unforged : (e : Register) → Unused e → (h : List Event) (w : World Register) (run : Run r register e first h w) → Each (ByNote r first honest) h
      → Unforged r first honest register e h w run
  unforged e unused [] w run by_note = tt
  unforged e unused (c ∷ h) w (v, (run, step)) (now, by_note) = (unforged_now v h c (all_signed e unused h v run by_note), unforged e unused h v run by_note)

  -- what is fair is by note, call by call
  fair_by_note : (h : List Event) (c : Event) → Fair r first honest h c → ByNote r first honest h c
  fair_by_note h (announced a p y) fair = tt
  fair_by_note h (noted a j n d m y m') fair = tt
  fair_by_note h (started g j n d y) fair = tt
  fair_by_note h (added g i z m y m') fair = tt
  fair_by_note h (closed g y) fair = tt
  fair_by_note h (issued g m y m') fair = tt
  fair_by_note h (filed a b p y) fair = tt
  fair_by_note h (signed i x m (Ok t) m') fair = fair
  fair_by_note h (signed i x m (Err e) m') fair = tt

  each_by_note : (h : List Event) → Each (Fair r first honest) h → Each (ByNote r first honest) h
  each_by_note [] fair = tt
  each_by_note (c ∷ h) (now, fair) = (fair_by_note h c now, each_by_note h fair)

pub register_unforged_by_note : RegisterUnforgedByNote
register_unforged_by_note r first honest e unused h w run by_note = unforged r first honest e unused h w run by_note

pub register_unforged : RegisterUnforged
register_unforged r first honest e unused h w run fair = unforged r first honest e unused h w run (each_by_note r first honest h fair)

-- the law for an exchange over a register of which no row is used has no condition on seals
pub law_from : {r : Ruling} → Law r register → (e : Register) → Unused e → LawFrom r register e
law_from {r} law e unused honest first h w run met = law honest first e h w run met (register_unforged r first honest e unused h w run met.fair)
