-- Calls that do nothing to a gathering.
use Rattle.std.proofs.Common.{◌≡◌, ℕ, false, eqb, ◌⊎◌, List, [], ◌∷◌, ◌++◌, Ok, Err, MatchBool, Result, sym, refl, ◌∙◌, subst, inl, inr}
use Rattle.std.proofs.lemmas.Bool.{cond-false, eq-eqb, ne_eqb}
use Rattle.std.proofs.lemmas.Bool.Decides.{when_true, when_false}
use Rattle.refusal.specs.declared.Refused.{Refused}
use Rattle.sha256.specs.declared.value.Digest.{Digest}
use Rattle.seal.specs.declared.statement.Statement.{Statement}
use Rattle.exchange.specs.declared.gathering.Gathering.{Gathering}
use Rattle.exchange.specs.declared.gathering.Closed.{Closed}
use Rattle.exchange.specs.declared.filing.Filing.{Filing}
use Rattle.exchange.specs.Runs.{Event, announced, noted, started, added, closed, issued, filed, signed}
use Rattle.exchange.specs.Law.{Starts, Adds, Issues, brought, Fed}

-- no start, add or issue of gathering g is taken, and its memory stays
pub record Quiet (g : ℕ) (c : Event) : Type 0 where
  pub no_start : (j n : ℕ) (d : Digest) → Starts g j n d c → ⊥
  pub no_add : (i : ℕ) → Adds g i c → ⊥
  pub no_issue : (b : List ℕ) → Issues g b c → ⊥
  pub brings : (h : List Event) → brought g (c ∷ h) ≡ brought g h
  pub feeds : (m : List ℕ) (h : List Event) → Fed g m (c ∷ h) → Fed g m h

-- what is not the newest event is an earlier one
pub earlier : {A B : Type 0} → (A → ⊥) → A ⊎ B → B
earlier never (inl a) = absurd (never a)
earlier never (inr b) = b

module _ (g g' : ℕ) (other : g ≡ g' → ⊥) where
  not_it : eqb g' g ≡ false
  not_it = ne_eqb g' g (λ e. other (sym e))

  other_fed : (m m' l : List ℕ) (h : List Event) → MatchBool (eqb g' g) ((m' ≡ l) × Fed g m h) (Fed g l h) → Fed g l h
  other_fed m m' l h fed = when_false ((m' ≡ l) × Fed g m h) (Fed g l h) not_it fed

  pub start_of_other : (j n : ℕ) (d : Digest) (y : Result Gathering Refused) → Quiet g (started g' j n d y)
  start_of_other j n d y =
      record { no_start = λ _ _ _ q. other (sym q.0); no_add = λ _ q. q; no_issue = λ _ q. q; brings = λ _. refl; feeds = λ _ _ fed. fed }

  pub add_of_other : (i : ℕ) (z m : List ℕ) (y : Result (Unit {0}) Refused) (m' : List ℕ) → Quiet g (added g' i z m y m')
  add_of_other i z m (Ok t) m' =
      let same : (h : List Event) → brought g (added g' i z m (Ok t) m' ∷ h) ≡ brought g h =
      λ h. cond-false (eqb g' g) (brought g h ++ (record { house = i; seal = z } ∷ [])) (brought g h) not_it in
      record { no_start = λ _ _ _ q. q; no_add = λ _ q. other (sym q.0); no_issue = λ _ q. q; brings = same; feeds = other_fed m m' }
  add_of_other i z m (Err e) m' =
      record { no_start = λ _ _ _ q. q; no_add = λ _ q. q.2; no_issue = λ _ q. q; brings = λ _. refl; feeds = other_fed m m' }

  pub issue_of_other : (m : List ℕ) (y : Result ℕ (Refused × Closed)) (m' : List ℕ) → Quiet g (issued g' m y m')
  issue_of_other m (Ok n) m' =
      record { no_start = λ _ _ _ q. q; no_add = λ _ q. q; no_issue = λ _ q. other (sym q.0); brings = λ _. refl; feeds = other_fed m m' }
  issue_of_other m (Err e) m' =
      record { no_start = λ _ _ _ q. q; no_add = λ _ q. q; no_issue = λ _ q. q; brings = λ _. refl; feeds = other_fed m m' }

module _ (g : ℕ) where
  pub any_announce : (a : ℕ) (p : List ℕ) (y : Result (ℕ × Digest) Refused) → Quiet g (announced a p y)
  any_announce a p y = record { no_start = λ _ _ _ q. q; no_add = λ _ q. q; no_issue = λ _ q. q; brings = λ _. refl; feeds = λ _ _ fed. fed }

  pub any_note : (a j n : ℕ) (d : Digest) (m : List ℕ) (y : Result (Unit {0}) Refused) (m' : List ℕ) → Quiet g (noted a j n d m y m')
  any_note a j n d m y m' = record { no_start = λ _ _ _ q. q; no_add = λ _ q. q; no_issue = λ _ q. q; brings = λ _. refl; feeds = λ _ _ fed. fed }

  pub any_close : (g' : ℕ) (y : Result Closed (Refused × Gathering)) → Quiet g (closed g' y)
  any_close g' y = record { no_start = λ _ _ _ q. q; no_add = λ _ q. q; no_issue = λ _ q. q; brings = λ _. refl; feeds = λ _ _ fed. fed }

  pub any_file : (a : ℕ) (b p : List ℕ) (y : Result Filing Refused) → Quiet g (filed a b p y)
  any_file a b p y = record { no_start = λ _ _ _ q. q; no_add = λ _ q. q; no_issue = λ _ q. q; brings = λ _. refl; feeds = λ _ _ fed. fed }

  pub any_sign : (i : ℕ) (x : Statement) (m : List ℕ) (y : Result (Unit {0}) Refused) (m' : List ℕ) → Quiet g (signed i x m y m')
  any_sign i x m y m' = record { no_start = λ _ _ _ q. q; no_add = λ _ q. q; no_issue = λ _ q. q; brings = λ _. refl; feeds = λ _ _ fed. fed }

  pub refused_start : (j n : ℕ) (d : Digest) (e : Refused) → Quiet g (started g j n d (Err e))
  refused_start j n d e = record { no_start = λ _ _ _ q. q.4; no_add = λ _ q. q; no_issue = λ _ q. q; brings = λ _. refl; feeds = λ _ _ fed. fed }

  -- the memory of an own call: what it left, and what it was given
  pub own_fed : (m m' l : List ℕ) (h : List Event) → MatchBool (eqb g g) ((m' ≡ l) × Fed g m h) (Fed g l h) → (m' ≡ l) × Fed g m h
  own_fed m m' l h fed = when_true ((m' ≡ l) × Fed g m h) (Fed g l h) (eq-eqb g g refl) fed

  -- a call that left the memory as it was given
  still_fed : (m m' : List ℕ) → m' ≡ m → (l : List ℕ) (h : List Event) → MatchBool (eqb g g) ((m' ≡ l) × Fed g m h) (Fed g l h) → Fed g l h
  still_fed m m' same l h fed =
      let own = own_fed m m' l h fed in
      subst (λ (x : List ℕ). Fed g x h) (sym same ∙ own.0) own.1

  pub refused_add : (i : ℕ) (z m : List ℕ) (e : Refused) (m' : List ℕ) → m' ≡ m → Quiet g (added g i z m (Err e) m')
  refused_add i z m e m' same =
      record { no_start = λ _ _ _ q. q; no_add = λ _ q. q.2; no_issue = λ _ q. q; brings = λ _. refl; feeds = still_fed m m' same }

  pub refused_issue : (m : List ℕ) (e : Refused × Closed) (m' : List ℕ) → m' ≡ m → Quiet g (issued g m (Err e) m')
  refused_issue m e m' same =
      record { no_start = λ _ _ _ q. q; no_add = λ _ q. q; no_issue = λ _ q. q; brings = λ _. refl; feeds = still_fed m m' same }
